-- The hours before hour h are joined, and k of them lie inside.
use Rattle.parts.proofs.Loops.{Joining}
use Rattle.parts.proofs.join_words.Given as goal

abbrev pub invariant-loop-h : goal.invariant-loop-h
invariant-loop-h l = Joining l.days l.part l.initial.hours l.hours l.k l.h
