-- Days counted at their first capacity hour are the working days. Assumes nothing.
use mathlib.Core.Path.{◌≡◌, refl, sym, ap, ◌∙◌}
use mathlib.Core.Bool.{Bool, true, false, cond, not, ◌&&◌, ◌||◌}
use mathlib.Core.List.{List}
use Prim.Native.Nat.{ℕ, zero, suc, ◌+◌, ◌*◌, ◌/◌, ◌%◌, ◌<◌}
use native.Mathlib.Omega.{arith}
use lib.ListN.{length}
use Rattle.numbers.specs.Lists.{sum_to, any_to, count_to}
use Rattle.numbers.proofs.Laws.{sum_same, sum_parts}
use Rattle.marks.specs.Marks.{working_days}
use Rattle.marks.proofs.Laws.{days_working}
use Rattle.ground_laws.specs.Counted.{capacity_hour, counts_day, days_counted}

-- one more by the first of some, none by a later one
first_turn : (seen now : Bool) → cond seen 1 0 + cond (now && not seen) 1 0 ≡ cond (seen || now) 1 0
first_turn true true = refl
first_turn true false = refl
first_turn false true = refl
first_turn false false = refl

-- so one of n hours is the first of a kind, or there is none of that kind
first_of : (f : ℕ → Bool) (n : ℕ) → count_to (λ h. f h && not (any_to f h)) n ≡ cond (any_to f n) 1 0
first_of f zero = refl
first_of f (suc n) = rw (first_of f n) (first_turn (any_to f n) (f n))

-- hour h of day j
in_day : (marks : List ℕ) (j h : ℕ) → h < 24
    → counts_day marks (24 * j + h) ≡ capacity_hour marks (24 * j + h) && not (any_to (λ e. capacity_hour marks (24 * j + e)) h)
in_day marks j h l =
    let day : (24 * j + h) / 24 ≡ j = omega arith in
    let hour : (24 * j + h) % 24 ≡ h = omega arith in
    rw (day, hour)

day_counted : (marks : List ℕ) (j : ℕ)
    → sum_to (λ h. cond (counts_day marks (24 * j + h)) 1 0) 24 ≡ cond (any_to (λ h. capacity_hour marks (24 * j + h)) 24) 1 0
day_counted marks j =
    let f : ℕ → Bool = λ h. capacity_hour marks (24 * j + h) in
    sum_same 24 (λ h. cond (counts_day marks (24 * j + h)) 1 0) (λ h. cond (f h && not (any_to f h)) 1 0)
    (λ h m. ap (λ (b : Bool). cond b 1 0) (in_day marks j h m))
    ∙ first_of f 24

pub working_counted : (marks : List ℕ) (k : ℕ) → length marks ≡ 24 * k → working_days marks k ≡ days_counted marks
working_counted marks k e =
    days_working marks k
    ∙ sym
    (rw e (sum_parts (λ h. cond (counts_day marks h) 1 0) 24 k
    ∙ sum_same k (λ j. sum_to (λ h. cond (counts_day marks (24 * j + h)) 1 0) 24)
    (λ j. cond (any_to (λ h. capacity_hour marks (24 * j + h)) 24) 1 0) (λ j l. day_counted marks j)))
