-- By whether there is a past, and by R.
use Rattle.std.proofs.Common.{ap}
use Rattle.first_ground.specs.Metered.{lent_past}
use Rattle.first_ground.specs.Counts.{inputs_of}
use Rattle.first_ground.proofs.Firsts.{seven_outcome, late_outcome, none_outcome}
use Rattle.first_ground.proofs.counts.Counts.on_past.Goals as goal

pub returns-in_default : goal.returns-in_default
returns-in_default c = none_outcome (inputs_of c.args.self.now) (ap lent_past c.in_default.is) c.by_contract.ensures

pub returns-then-self-le2 : goal.returns-then-self-le2
returns-then-self-le2 c = seven_outcome (inputs_of c.args.self.now) (ap lent_past c.in-Some.is) c.if-self-le2.true c.as_past.ensures

pub returns : goal.returns
returns c = late_outcome (inputs_of c.args.self.now) (ap lent_past c.in-Some.is) c.if-self-le2.false c.by_contract-2.ensures
