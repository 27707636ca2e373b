-- By whether there is a past, and by R.
use Rattle.std.proofs.Common.{ap}
use Rattle.first_ground.specs.Metered.{lent_past}
use Rattle.first_ground.specs.Counts.{inputs_of}
use Rattle.first_ground.proofs.Firsts.{five_outcome, four_outcome, tested_outcome}
use Rattle.first_ground.proofs.counts.Counts.on_control_past.Goals as goal

pub returns-in_default : goal.returns-in_default
returns-in_default c =
    five_outcome (inputs_of c.args.self.now) _ (ap lent_past c.in_default.is) (rw c.power.ensures at c.by_peaks.ensures)

pub returns-then-self-le2 : goal.returns-then-self-le2
returns-then-self-le2 c = four_outcome (inputs_of c.args.self.now) _ (ap lent_past c.in-Some.is) c.if-self-le2.true c.by_past.ensures

pub returns : goal.returns
returns c = tested_outcome (inputs_of c.args.self.now) _ (ap lent_past c.in-Some.is) c.if-self-le2.false c.on_tested_past.ensures
