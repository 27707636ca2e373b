-- The buffer has the entries of the hours inside before hour h, of which there are k.
use Rattle.parts.proofs.Loops.{Writing}
use Rattle.parts.proofs.fill.fill_front.Given as goal

abbrev pub invariant-loop-h : goal.invariant-loop-h
invariant-loop-h g l = Writing l.days l.entries l.initial.front l.front l.k l.h
