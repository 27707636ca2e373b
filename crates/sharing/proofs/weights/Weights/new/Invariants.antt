-- The sum is that of the past's weights in the first h hours, each below 2^32.
use Rattle.std.proofs.Common.{◌≡◌, ◌≤◌, ◌*◌}
use Rattle.numbers.specs.Lists.{sum_to}
use Rattle.sharing.specs.Shares.{within, past_at, chosen_at}
use Rattle.sharing.proofs.weights.Weights.new.Given as goal

abbrev pub invariant-loop-h : goal.invariant-loop-h
invariant-loop-h l = (l.sum ≤ 4294967295 * l.h) × (l.sum ≡ sum_to (within (chosen_at l.chosen) (past_at l.past)) l.h)
