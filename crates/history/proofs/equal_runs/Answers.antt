-- The theorem, of any two runs of the same opening.
use Rattle.history.proofs.Equal.{equal_runs}
use Rattle.history.proofs.equal_runs.Goals as goal

pub returns : goal.returns
returns c = equal_runs
