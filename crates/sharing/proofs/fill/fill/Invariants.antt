-- The hours before h have their shares, and the sharing stands before hour h.
use Rattle.numbers.specs.Lists.{Filled}
use Rattle.sharing.specs.Shares.{share}
use Rattle.sharing.specs.Taken.{hour_count, weight_of}
use Rattle.sharing.proofs.Turns.{Underway}
use Rattle.sharing.proofs.fill.fill.Given as goal

abbrev pub invariant-loop-h : goal.invariant-loop-h
invariant-loop-h l =
    Underway l.v (hour_count l.weights) (weight_of l.weights) l.sharing l.h
    × Filled (share l.v (hour_count l.weights) (weight_of l.weights)) l.initial.hours l.hours l.h
