-- What holds of marks, day by day, of C and of capacity. Assumes nothing.
use mathlib.Core.Path.{◌≡◌, sym, ◌∙◌}
use mathlib.Core.Bool.{true, false, cond}
use mathlib.Core.List.{List}
use Prim.Native.Nat.{ℕ, ◌+◌, ◌*◌, ◌/◌, ◌≤◌, ◌<◌}
use native.Mathlib.Nat.{mul-le-mul_left, pos_of_ne-zero}
use native.Mathlib.Omega.{arith}
use borrow.Author.Tests.{ltb-true, ltb-false, lt-ltb, eqb-false}
use lib.Dec.{eqb}
use lib.ListN.{length, take, drop, length-drop, get_or-eq_default}
use lib.Seq.{get_or-take, get_or-drop, length-take-le}
use Rattle.marks.specs.declared.days.Day.{Day}
use Rattle.numbers.specs.Lists.{sum_to, any_to, count_to, at}
use Rattle.numbers.specs.Rounding.{half_up}
use Rattle.numbers.proofs.Laws.{by_cases, sum_stop, sum_parts, sum_same, sum_most, sum_weighted, count_any, count_some, count_holds}
use Rattle.numbers.proofs.Laws.{HoldsOfOne, none_at}
use Rattle.numbers.proofs.Rounds.{half_up_most}
use Rattle.marks.specs.Marks.{peak_at, capacity_at, peak_count, day_of, is_working, is_crowded, is_doubled, working_days, crowded, doubled}
use Rattle.marks.specs.Marks.{survey_with, survey_of, capacity_sum, capacity_of, capacity_in}

-- a day is a working day just where it has a capacity hour
pub working_has : (marks : List ℕ) (k : ℕ) → is_working (day_of marks k) ≡ true → HoldsOfOne (λ h. capacity_at marks (24 * k + h)) 24
working_has marks k e = count_holds (λ h. capacity_at marks (24 * k + h)) 24 (ltb-true 0 _ e)

pub has_working : (marks : List ℕ) (k h : ℕ) → h < 24 → capacity_at marks (24 * k + h) ≡ true → is_working (day_of marks k) ≡ true
has_working marks k h l t = lt-ltb 0 _ (count_some (λ j. capacity_at marks (24 * k + j)) 24 h l t)

-- LAW: d is the number of days with a capacity hour
pub days_working : (marks : List ℕ) (k : ℕ) → working_days marks k ≡ count_to (λ j. any_to (λ h. capacity_at marks (24 * j + h)) 24) k
unfolding working_days
days_working marks k = sum_same k _ _ (λ j l. rw (count_any (λ h. capacity_at marks (24 * j + h)) 24))

-- where 43 passes, a working day has one capacity hour
single_capacity : (marks : List ℕ) (j : ℕ) → is_doubled (day_of marks j) ≡ false → (day_of marks j).capacities ≡ cond (is_working (day_of marks j)) 1 0
single_capacity marks j e =
    let one = ltb-false 1 (day_of marks j).capacities e in
    by_cases (is_working (day_of marks j))
    (λ t. rw t (omega (arith, ltb-true 0 (day_of marks j).capacities t)))
    (λ f. rw f (omega (arith, ltb-false 0 (day_of marks j).capacities f)))

-- LAW: where 43 passes, d is the number of capacity hours too
pub days_capacities : (marks : List ℕ) (k : ℕ) → doubled marks k ≡ false → working_days marks k ≡ count_to (capacity_at marks) (24 * k)
unfolding working_days doubled
days_capacities marks k e =
    sum_same k _ (λ j. (day_of marks j).capacities) (λ j l. sym (single_capacity marks j (none_at (λ i. is_doubled (day_of marks i)) k j e l)))
    ∙ sym (sum_parts (λ h. cond (capacity_at marks h) 1 0) 24 k)

-- LAW: the survey's n is n, of marks of whole days
pub survey_peaks : (marks : List ℕ) (k : ℕ) → length marks ≡ 24 * k → (survey_of marks).peaks ≡ peak_count marks
unfolding survey_of survey_with peak_count
survey_peaks marks k e = let whole : 24 * (length marks / 24) ≡ length marks = omega arith in rw whole

-- LAW: where 42 passes, at most 16 hours of each day are peak hours
pub peaks_most : (marks : List ℕ) (k : ℕ) → length marks ≡ 24 * k → crowded marks k ≡ false → peak_count marks ≤ 16 * k
unfolding peak_count crowded
peaks_most marks k e f =
    rw (e, sum_parts (λ h. cond (peak_at marks h) 1 0) 24 k)
    (sum_most (λ j. (day_of marks j).peaks) 16 k
    (λ j l. ltb-false 16 (day_of marks j).peaks (none_at (λ i. is_crowded (day_of marks i)) k j f l)))

-- rounding half up gives 0 for a divisor of 0 by itself
pub capacity_half_up : (sum days : ℕ) → capacity_of sum days ≡ half_up sum days
unfolding capacity_of half_up
capacity_half_up sum days = by_cases (eqb days 0) (λ t. rw t) (λ f. rw f)

-- LAW: capacity is at most C, so that the function cuts nothing where C fits 32 bits
pub capacity_whole : (sum days : ℕ) → capacity_of sum days ≤ sum
unfolding capacity_of
capacity_whole sum days =
    by_cases (eqb days 0)
    (λ t. rw t (omega arith))
    (λ f. rw f (half_up_most sum days sum (omega (arith, mul-le-mul_left sum (pos_of_ne-zero (eqb-false days 0 f))))))

pub capacity_uncut : (sum days : ℕ) → sum ≤ 4294967295 → capacity_in sum days ≡ capacity_of sum days
capacity_uncut sum days l = omega (arith, capacity_whole sum days)

-- LAW: capacity is at most k where C is at most k for each working day
pub capacity_most : (sum days k : ℕ) → sum ≤ k * days → capacity_of sum days ≤ k
unfolding capacity_of
capacity_most sum days k l =
    by_cases (eqb days 0)
    (λ t. rw t (omega arith))
    (λ f. rw f (half_up_most sum days k l))

-- C is a sum over the marks' hours alone
pub capacity_sum_hours : (marks hours : List ℕ) → length marks ≤ 744
    → capacity_sum marks hours ≡ sum_to (λ h. cond (capacity_at marks h) (at hours h) 0) (length marks)
unfolding capacity_sum
capacity_sum_hours marks hours l =
    sum_stop (λ h. cond (capacity_at marks h) (at hours h) 0) l (λ h m. rw (get_or-eq_default marks 0 {n = h} m))

-- LAW: of a month of k days that passes 43, with no hour above x, capacity is at most x
pub month_capacity_most : (marks hours : List ℕ) (k x : ℕ) → length marks ≡ 24 * k → k ≤ 31 → doubled marks k ≡ false
    → ((h : ℕ) → at hours h ≤ x)
    → capacity_of (capacity_sum marks hours) (working_days marks k) ≤ x
month_capacity_most marks hours k x e l f small =
    capacity_most _ _ x
    (rw (capacity_sum_hours marks hours (omega arith), days_capacities marks k f, e)
    (sum_weighted (capacity_at marks) (at hours) x (24 * k) small))

-- the counts of the part of the marks that is day k
pub day_part : (marks : List ℕ) (k n : ℕ) {day : Day} → n ≡ 24 → 24 * k + 24 ≤ length marks
    → day ≡ record {
      peaks = count_to (peak_at (take n (drop (24 * k) marks))) (length (take n (drop (24 * k) marks)));
      capacities = count_to (capacity_at (take n (drop (24 * k) marks))) (length (take n (drop (24 * k) marks)));
    }
    → day ≡ day_of marks k
day_part marks k n e l f = rw long at f ∙ made
  where
    long : length (take n (drop (24 * k) marks)) ≡ 24
    long = length-take-le n (drop (24 * k) marks) (simp length-drop (omega arith)) ∙ e

    same : (h : ℕ) → h < 24 → at (take n (drop (24 * k) marks)) h ≡ at marks (24 * k + h)
    same h m = get_or-take n (drop (24 * k) marks) h 0 (omega arith) ∙ get_or-drop (24 * k) marks h 0

    peaks : count_to (peak_at (take n (drop (24 * k) marks))) 24 ≡ count_to (λ h. peak_at marks (24 * k + h)) 24
    peaks =
        sum_same 24 (λ h. cond (peak_at (take n (drop (24 * k) marks)) h) 1 0) (λ h. cond (peak_at marks (24 * k + h)) 1 0)
        (λ h m. rw (same h m))

    capacities : count_to (capacity_at (take n (drop (24 * k) marks))) 24 ≡ count_to (λ h. capacity_at marks (24 * k + h)) 24
    capacities =
        sum_same 24 (λ h. cond (capacity_at (take n (drop (24 * k) marks)) h) 1 0) (λ h. cond (capacity_at marks (24 * k + h)) 1 0)
        (λ h m. rw (same h m))

    made :
        (record {
          peaks = count_to (peak_at (take n (drop (24 * k) marks))) 24;
          capacities = count_to (capacity_at (take n (drop (24 * k) marks))) 24;
        })
        ≡ day_of marks k
    made = λ i. record { peaks = peaks i; capacities = capacities i }
