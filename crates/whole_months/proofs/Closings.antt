-- The refusals of a closing, on whole months of marks. By computation; assumes nothing.
use Prim.Native.Nat.{ℕ}
use mathlib.Core.Path.{◌≡◌, refl}
use mathlib.Core.List.{List, [], ◌∷◌, ◌++◌}
use lib.ListN.{set, replicate}
use Rattle.numbers.specs.Lists.{zeros}
use Rattle.rules.specs.Calls.{closing}
use Rattle.marks.specs.Marks.{first_day}
use Rattle.model.specs.Refusals.{own_refusal, wrong_day}
use Rattle.model.proofs.Examples.{refusal_definitions, point, closed}

-- the marks of February 2023, T 672
abbrev plain : List ℕ
plain = zeros 672

-- each number over the whole month before the next: 42 on the last day goes before 43 and 46 on the first, 43 on the last day before 46 on the
-- first, and 46 before 44
settlement :
    (closed (zeros 744) 744 ≡ 40) × (closed (set (set plain 0 1) 671 4) 744 ≡ 41) × (closed (1 ∷ (zeros 647 ++ (replicate 17 1 ++ zeros 7))) 744 ≡ 42)
    × (closed (2 ∷ (2 ∷ (zeros 646 ++ (replicate 17 1 ++ zeros 7)))) 744 ≡ 42)
    × (closed (set plain 0 1) 743 ≡ 46) × (closed (set (set plain 0 2) 23 2) 744 ≡ 43)
    × (closed (set (set (set plain 0 1) 648 2) 671 2) 743 ≡ 43)
    × (closed (set (set plain 0 3) 24 3) 744 ≡ 0) × (closed plain 743 ≡ 44)
    × (closed plain 745 ≡ 44)
unfolding refusal_definitions
settlement = (refl, refl, refl, refl, refl, refl, refl, refl, refl, refl)

-- the last day of 31, by its last hour and by its first, and the first day
last_of_31 :
    (wrong_day 46 (set (zeros 744) 743 1) ≡ 31)
    × (wrong_day 43 (set (set (zeros 744) 720 2) 743 2) ≡ 31)
    × (wrong_day 46 (set (set (zeros 744) 720 1) 23 1) ≡ 1)
unfolding wrong_day first_day
last_of_31 = (refl, refl, refl)

-- 45, of a store of one word and of none; 46 goes before it
store_limit :
    (own_refusal (point 1 2) (3000001 ∷ []) (closing plain (zeros 744)) ≡ 45) × (own_refusal (point 1 2) (3000000 ∷ []) (closing plain (zeros 744)) ≡ 0)
    × (own_refusal (point 1 2) [] (closing plain (zeros 744)) ≡ 0)
    × (own_refusal (point 1 2) (3000001 ∷ []) (closing (set plain 0 1) (zeros 744)) ≡ 46)
unfolding refusal_definitions
store_limit = (refl, refl, refl, refl)
