-- The first k marks are those of the list.
use Rattle.numbers.specs.Lists.{Filled}
use Rattle.line_calls.specs.Calls.{mark_at}
use Rattle.line_calls.proofs.copy_marks.Given as goal

abbrev pub invariant-loop-k : goal.invariant-loop-k
invariant-loop-k l = Filled (mark_at l.list) l.fn.marks l.marks l.k
