-- The first h words of the buffer are those of the past, and the others as they were.
use Rattle.std.proofs.Common.{◌≤◌, length}
use Rattle.numbers.specs.Lists.{Filled}
use Rattle.sharing.specs.Shares.{past_at}
use Rattle.grounds.proofs.hours.copy_past.Given as goal

abbrev pub invariant-loop-h : goal.invariant-loop-h
invariant-loop-h l = (l.t ≤ length l.initial.hours) × Filled (past_at l.past) l.initial.hours l.hours l.h
