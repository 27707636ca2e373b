-- Of the hours of whole days, each day of the set has 24 inside. Assumes nothing.
use mathlib.Core.Path.{◌≡◌, refl, sym, ap, ◌∙◌}
use mathlib.Core.List.{List}
use mathlib.Core.Bool.{Bool, true, false, cond, not}
use Prim.Native.Nat.{ℕ, zero, suc, ◌+◌, ◌*◌, ◌/◌, ◌≤◌, ◌<◌}
use native.Mathlib.Nat.{mul-suc, mul-zero}
use native.Mathlib.Omega.{arith}
use borrow.Author.Tests.{not-false}
use lib.ListN.{length}
use Rattle.numbers.specs.Lists.{sum_to, count_to, at}
use Rattle.numbers.proofs.Laws.{by_cases, sum_ones, sum_same, sum_stop, sum_split, count_none}
use Rattle.parts.specs.Sets.{in_set, day_count, lies_inside, rank}
use Rattle.parts.specs.Parts.{inside_part, chosen_days}
use Rattle.parts.proofs.Selected.{at_selected, sum_of_selected, chosen_index}
use Rattle.parts.proofs.Laws.{part_length, part_at}

rank_more : (days k h : ℕ) → h ≤ 24 → rank days (24 * k + h) ≡ rank days (24 * k) + cond (in_set days k) h 0
unfolding rank lies_inside
rank_more days k h l =
    sum_split (λ j. cond (in_set days (j / 24)) 1 0) (24 * k) h
    ∙ ap (λ (x : ℕ). rank days (24 * k) + x)
    (sum_same h _ (λ j. cond (in_set days k) 1 0) (λ j m. let e : (24 * k + j) / 24 ≡ k = omega arith in rw e)
    ∙ by_cases (in_set days k) (λ t. rw t (sum_ones h)) (λ f. rw f (sum_stop (λ j. 0) {n = 0} {m = h} (omega arith) (λ j m. refl))))

pub rank_day : (days k : ℕ) → rank days (24 * k) ≡ 24 * day_count days k
unfolding day_count rank
rank_day days zero = rw mul-zero
rank_day days (suc k) =
    rw (mul-suc, rank_more days k 24 (omega arith), rank_day days k)
    (by_cases (in_set days k) (λ t. rw t (omega arith)) (λ f. rw f (omega arith)))

-- the part of n whole days has 24 hours for each of the chosen days
pub part_whole : (days n : ℕ) (xs : List ℕ) → length xs ≡ 24 * n → length (inside_part days xs) ≡ 24 * day_count days n
part_whole days n xs e = part_length days xs ∙ rw e (rank_day days n)

-- the hours of a day of the set stand together in the part, in order
pub part_hour : (days : ℕ) (xs : List ℕ) (k h : ℕ) → in_set days k ≡ true → h < 24 → 24 * k + 24 ≤ length xs
    → at (inside_part days xs) (24 * day_count days k + h) ≡ at xs (24 * k + h)
unfolding lies_inside
part_hour days xs k h t l m =
    let e : (24 * k + h) / 24 ≡ k = omega arith in
    let r : rank days (24 * k + h) ≡ 24 * day_count days k + h = rank_more days k h (omega arith) ∙ rw (t, rank_day days k) in
    rw (← r) (part_at days xs (24 * k + h) (omega arith) (rw e t))

-- so day j of the part is the day at j of the chosen ones, hour by hour
pub part_day_hour : (days n : ℕ) (xs : List ℕ) (j h : ℕ) → j < day_count days n → 24 * n ≤ length xs → h < 24
    → at (inside_part days xs) (24 * j + h) ≡ at xs (24 * at (chosen_days days n) j + h)
unfolding day_count chosen_days
part_day_hour days n xs j h l m i =
    let s = chosen_index (in_set days) n j l in
    let b = s.below in
    let e : at (chosen_days days n) j ≡ s.index =
    ap (at (chosen_days days n)) (sym s.place) ∙ at_selected (in_set days) (λ k. k) n s.index b s.holds in
    rw e (rw s.place at (part_hour days xs s.index h s.holds i (omega arith)))

-- and has as many hours of any kind
pub part_day : (p : ℕ → Bool) (days n : ℕ) (xs : List ℕ) (j : ℕ) → j < day_count days n → 24 * n ≤ length xs
    → count_to (λ h. p (at (inside_part days xs) (24 * j + h))) 24 ≡ count_to (λ h. p (at xs (24 * at (chosen_days days n) j + h))) 24
part_day p days n xs j l m =
    sum_same 24 _ _ (λ h i. ap (λ (x : ℕ). cond (p x) 1 0) (part_day_hour days n xs j h l m i))

-- a sum over the chosen days is a sum over the days of the set
pub days_sum_of : (g : ℕ → ℕ) (days n : ℕ)
    → sum_to (λ j. g (at (chosen_days days n) j)) (day_count days n) ≡ sum_to (λ k. cond (in_set days k) (g k) 0) n
unfolding day_count chosen_days
days_sum_of g days n = sum_of_selected (in_set days) g (λ k. k) n

-- NONE AND ALL. Where no day, or every day, of n is in the set no hour, or every hour, lies inside
pub none_inside : (days n : ℕ) → day_count days n ≡ 0 → (h : ℕ) → h < 24 * n → lies_inside days h ≡ false
unfolding day_count lies_inside
none_inside days n e h l = count_none (in_set days) n e (h / 24) (omega arith)

count_both : (f : ℕ → Bool) (n : ℕ) → count_to f n + count_to (λ k. not (f k)) n ≡ n
count_both f zero = refl
count_both f (suc n) = by_cases (f n) (λ t. rw t (omega (arith, count_both f n))) (λ g. rw g (omega (arith, count_both f n)))

count_all : (f : ℕ → Bool) (n : ℕ) → count_to f n ≡ n → (h : ℕ) → h < n → f h ≡ true
count_all f n e h l = not-false (f h) (count_none (λ k. not (f k)) n (omega (arith, count_both f n)) h l)

pub all_inside : (days n : ℕ) → day_count days n ≡ n → (h : ℕ) → h < 24 * n → lies_inside days h ≡ true
unfolding day_count lies_inside
all_inside days n e h l = count_all (in_set days) n e (h / 24) (omega arith)
