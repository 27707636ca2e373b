-- The largest of the first days.
use Rattle.std.proofs.Common.{◌≡◌}
use Rattle.charts.specs.Charts.{largest_day}
use Rattle.charts.proofs.largest_day.Given as goal

abbrev pub invariant-loop-day : goal.invariant-loop-day
invariant-loop-day l = l.most ≡ largest_day l.hours l.day
