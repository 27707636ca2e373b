-- The hours are those that were read, and the volume is their sum.
use Rattle.std.proofs.Common.{◌≡◌, length, arith}
use Rattle.std.proofs.lemmas.Grind.{common_steps}
use Rattle.numbers.specs.Lists.{padded}
use Rattle.grounds.proofs.Laws.{read_found}
use Rattle.grounds.proofs.hours.as_read.Goals as goal

pub returns : goal.returns
returns c =
    let filled : c.copy_row.new.row ≡ padded (length c.args.hours.now) c.args.read.now = grind (arith, common_steps) in
    read_found _ c.args.read.now c.args.hours.now c.requires.1 filled c.sum_first.ensures
