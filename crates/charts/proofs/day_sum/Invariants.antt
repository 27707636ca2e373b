-- The sum is that of the first h hours, each below 2^32.
use Rattle.std.proofs.Common.{◌≡◌, ◌≤◌, ◌*◌}
use Rattle.numbers.specs.Lists.{sum_to}
use Rattle.charts.specs.Charts.{hour_of}
use Rattle.charts.proofs.day_sum.Given as goal

abbrev pub invariant-loop-h : goal.invariant-loop-h
invariant-loop-h l = (l.sum ≤ 4294967295 * l.h) × (l.sum ≡ sum_to (hour_of l.hours l.day) l.h)
