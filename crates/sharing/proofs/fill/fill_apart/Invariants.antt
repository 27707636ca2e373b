-- The hours before h have the shares of both sharings, which stand before hour h.
use Rattle.std.proofs.Common.{length}
use Rattle.numbers.specs.Lists.{Filled}
use Rattle.sharing.specs.Shares.{one, taken, apart_at, chosen_at, other_at}
use Rattle.sharing.proofs.Turns.{Underway}
use Rattle.sharing.proofs.fill.fill_apart.Given as goal

abbrev pub invariant-loop-h : goal.invariant-loop-h
invariant-loop-h l =
    Underway l.a (length l.chosen) (taken (length l.chosen) (chosen_at l.chosen) one) l.first l.h
    × Underway l.b (length l.chosen) (taken (length l.chosen) (other_at l.chosen) one) l.second l.h
    × Filled (apart_at l.a l.b (chosen_at l.chosen) (length l.chosen)) l.initial.hours l.hours l.h
