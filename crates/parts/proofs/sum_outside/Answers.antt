-- At the end the sum is that of 744 hours.
use Rattle.std.proofs.Common.{◌≡◌, arith}
use Rattle.parts.specs.Parts.{sum_outside}
use Rattle.parts.proofs.sum_outside.Goals as goal

pub returns : goal.returns
unfolding sum_outside
returns c = let e : c.loop-h.h ≡ 744 = omega arith in rw e at c.loop-h.invariant.1
