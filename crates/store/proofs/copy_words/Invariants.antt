-- The first h words of the row are those of the list, and the others as they were.
use Rattle.std.proofs.Common.{◌≤◌, length}
use Rattle.numbers.specs.Lists.{at, Filled}
use Rattle.store.proofs.copy_words.Given as goal

abbrev pub invariant-loop-h : goal.invariant-loop-h
invariant-loop-h l = (length l.hours ≤ length l.initial.row) × Filled (at l.hours) l.initial.row l.row l.h
