-- The formula's volume is within the limits of a month.
use Rattle.std.proofs.Common.{arith}
use Rattle.power.proofs.Laws.{formula_in_lem}
use Rattle.grounds.proofs.Laws.{cable_most}
use Rattle.grounds.proofs.ground_nine.Goals as goal

pub evenly-requires : goal.evenly-requires
evenly-requires c =
    (cable_most _ _ c.volume.ensures c.requires.0 c.requires.2, omega arith, omega arith, c.requires.3)

pub returns : goal.returns
returns c =
    rw (c.volume.ensures, formula_in_lem c.args.cable c.args.t c.requires.0 (omega arith)) at c.evenly.ensures
