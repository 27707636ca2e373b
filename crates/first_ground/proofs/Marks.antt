-- What the marks of a closing tell, and C over hours in a buffer. Assumes nothing.
use Prim.Native.Nat.{ℕ, zero, suc, ◌≤◌}
use mathlib.Core.Path.{◌≡◌, refl}
use mathlib.Core.Bool.{Bool, cond}
use mathlib.Core.List.{List, [], ◌∷◌}
use native.Mathlib.Nat.{not-suc-le-zero}
use native.Mathlib.Omega.{arith}
use lib.Dec.{lit≤}
use lib.ListN.{length}
use Rattle.numbers.specs.Lists.{sum_to, count_to, sum, at}
use Rattle.numbers.proofs.Laws.{cond_most, sum_same, sum_most, sum_stop, sum_at, length_tab}
use Rattle.units.specs.Volumes.{greatest_volume_read}
use Rattle.sharing.specs.Shares.{every, shares, past_at, stretched}
use Rattle.sharing.proofs.Rule.{length_shares, sum_shares}
use Rattle.marks.specs.Marks.{capacity_at, day_of, is_working, working_days, survey_with, survey_of, capacity_sum}
use Rattle.marks.proofs.Laws.{survey_peaks, peaks_most}
use Rattle.store.specs.Store.{as_row}
use Rattle.store.proofs.Laws.{at_row, length_row}
use Rattle.rules.specs.Rules.{Inputs, hours_in, peaks_in}
use Rattle.rules.specs.Right.{days_of, InputsFit}
use Rattle.rules.proofs.Laws.{some_hour, few_hours}

count_few : (f : ℕ → Bool) (n : ℕ) → count_to f n ≤ n
count_few f n = omega (arith, sum_most (λ h. cond (f h) 1 0) 1 n (λ h l. cond_most (f h) (lit≤ tt) (lit≤ tt)))

-- n, and d, which is at most 31
module _ (i : Inputs) (fit : InputsFit i) where
  pub peaks_are : (survey_of i.marks).peaks ≡ peaks_in i
  peaks_are = survey_peaks i.marks (days_of i) fit.whole_days

  pub peaks_few : (survey_of i.marks).peaks ≤ 744
  peaks_few = rw peaks_are (omega (arith, peaks_most i.marks (days_of i) fit.whole_days fit.not_crowded, fit.few))

  pub days_few : (survey_of i.marks).days ≤ 31
  unfolding survey_of survey_with working_days
  days_few = omega (arith, count_few (λ j. is_working (day_of i.marks j)) (days_of i), fit.few)

-- C over a buffer is C over its hours, and at most their sum
pub capacity_row : (marks hs : List ℕ) → capacity_sum marks (as_row hs) ≡ capacity_sum marks hs
unfolding capacity_sum
capacity_row marks hs =
    sum_same 744 (λ h. cond (capacity_at marks h) (at (as_row hs) h) 0) (λ h. cond (capacity_at marks h) (at hs h) 0) (λ h l. rw (at_row hs h))

sum_under : (f g : ℕ → ℕ) (n : ℕ) → ((h : ℕ) → f h ≤ g h) → sum_to f n ≤ sum_to g n
sum_under f g zero l = omega arith
sum_under f g (suc n) l = omega (arith, sum_under f g n l, l n)

at_end : (xs : List ℕ) (k : ℕ) → length xs ≤ k → at xs k ≡ 0
at_end [] k l = refl
at_end (x ∷ xs) zero l = absurd (not-suc-le-zero l)
at_end (x ∷ xs) (suc k) l = at_end xs k (omega arith)

pub capacity_within : (marks hs : List ℕ) → length hs ≤ 744 → capacity_sum marks hs ≤ sum hs
unfolding capacity_sum
capacity_within marks hs short =
    rw (sum_at hs, ← sum_stop (at hs) short (λ h l. at_end hs h l))
    (sum_under (λ h. cond (capacity_at marks h) (at hs h) 0) (at hs) 744
    (λ h. cond_most (capacity_at marks h) {x = at hs h} {y = 0} (omega arith) (omega arith)))

-- A VOLUME SHARED BY A PAST over the hours of a closing: C over its hours fits 32 bits, and its buffer keeps its length
module _ (i : Inputs) (fit : InputsFit i) (past : List ℕ) (v : ℕ) {after : List ℕ}
    (filled : after ≡ as_row (shares v (stretched past (hours_in i)))) where
  long : length (stretched past (hours_in i)) ≡ hours_in i
  unfolding stretched
  long = length_tab (hours_in i) (past_at past)

  pub shared_capacity : {c : ℕ} → v ≤ greatest_volume_read → c ≡ capacity_sum i.marks after → c ≤ 4294967295
  shared_capacity small total =
      let ws = stretched past (hours_in i) in
      let summed = sum_shares v every ws (omega (arith, long, some_hour i fit)) in
      rw (total, filled, capacity_row i.marks (shares v ws))
      (omega (arith, capacity_within i.marks (shares v ws) (omega (arith, length_shares v every ws, long, few_hours i fit)), summed))

  pub shared_room : length after ≡ 744
  shared_room =
      let ws = stretched past (hours_in i) in rw filled (length_row (shares v ws) (omega (arith, length_shares v every ws, long, few_hours i fit)))
