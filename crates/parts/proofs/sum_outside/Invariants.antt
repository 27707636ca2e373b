-- The sum is that of the first h hours, each below 2^32.
use Rattle.std.proofs.Common.{◌≡◌, ◌≤◌, ◌*◌}
use Rattle.std.specs.Prelude.{cond}
use Rattle.numbers.specs.Lists.{sum_to, at}
use Rattle.parts.specs.Sets.{lies_outside}
use Rattle.parts.proofs.sum_outside.Given as goal

abbrev pub invariant-loop-h : goal.invariant-loop-h
invariant-loop-h l = (l.sum ≤ 4294967295 * l.h) × (l.sum ≡ sum_to (λ k. cond (lies_outside l.days k) (at l.hours k) 0) l.h)
