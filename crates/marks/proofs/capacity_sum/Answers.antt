-- At the end the sum is that of 744 hours.
use Rattle.std.proofs.Common.{◌≡◌, arith}
use Rattle.marks.specs.Marks.{capacity_sum}
use Rattle.marks.proofs.capacity_sum.Goals as goal

pub returns : goal.returns
unfolding capacity_sum
returns c = let e : c.loop-h.h ≡ 744 = omega arith in rw e at c.loop-h.invariant.1
