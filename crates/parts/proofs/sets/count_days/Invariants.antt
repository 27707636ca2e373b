-- The count is that of the days before day k, and at most their number.
use Rattle.std.proofs.Common.{◌≡◌, ◌≤◌}
use Rattle.numbers.specs.Lists.{count_to}
use Rattle.parts.specs.Sets.{in_set}
use Rattle.parts.proofs.sets.count_days.Given as goal

abbrev pub invariant-loop-k : goal.invariant-loop-k
invariant-loop-k l = (l.count ≤ l.k) × (l.count ≡ count_to (in_set l.days) l.k)
