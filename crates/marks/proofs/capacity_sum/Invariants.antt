-- The sum is that of the first h hours, each below 2^32.
use Rattle.std.proofs.Common.{◌≡◌, ◌≤◌, ◌*◌}
use Rattle.std.specs.Prelude.{cond}
use Rattle.numbers.specs.Lists.{sum_to, at}
use Rattle.marks.specs.Marks.{capacity_at}
use Rattle.marks.proofs.capacity_sum.Given as goal

abbrev pub invariant-loop-h : goal.invariant-loop-h
invariant-loop-h l = (l.sum ≤ 4294967295 * l.h) × (l.sum ≡ sum_to (λ k. cond (capacity_at l.marks k) (at l.hours k) 0) l.h)
