-- By the basis of the contract.
use Rattle.first_ground.specs.Counts.{inputs_of}
use Rattle.first_ground.proofs.Firsts.{nine_outcome, eight_outcome}
use Rattle.first_ground.proofs.counts.Counts.by_contract.Goals as goal

pub returns-then-self-eq3 : goal.returns-then-self-eq3
returns-then-self-eq3 c = nine_outcome (inputs_of c.args.self.now) c.if-self-eq3.true c.ground_nine.ensures

pub returns : goal.returns
returns c = eight_outcome (inputs_of c.args.self.now) c.if-self-eq3.false c.ground_eight.ensures
