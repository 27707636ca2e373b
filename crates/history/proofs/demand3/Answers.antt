-- The theorem, of every list of calls.
use Rattle.history.proofs.History.{demand3}
use Rattle.history.proofs.demand3.Goals as goal

pub returns : goal.returns
returns c = demand3
