-- The flags of the first h hours are set.
use Rattle.marks.specs.Peak.{Flags}
use Rattle.marks.proofs.peak.flag_peaks.Given as goal

abbrev pub invariant-loop-h : goal.invariant-loop-h
invariant-loop-h l = Flags l.marks l.flags l.h
