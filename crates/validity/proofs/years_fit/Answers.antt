-- All twelve rows were tested.
use Rattle.std.proofs.Common.{◌≡◌, arith}
use Rattle.validity.proofs.years_fit.Goals as goal

pub returns : goal.returns
returns c = let e : c.loop-k.k ≡ 12 = omega arith in rw e at c.loop-k.invariant
