-- WHICH DAY'S MARKS ARE WRONG (document 02, E8): what a closing's number says of the days of the marks, and which day it returns. Assumes nothing.
use Prim.Native.Nat.{ℕ, ◌*◌, ◌/◌, ◌≤◌, zero-le}
use mathlib.Core.Path.{◌≡◌, refl}
use mathlib.Core.Logic.{◌≢◌, ⊎_elim}
use mathlib.Core.Bool.{Bool, true, false, not, ◌&&◌, ◌||◌}
use mathlib.Core.List.{List}
use native.Mathlib.Omega.{arith}
use borrow.Author.Tests.{eqb-true, ne_eqb, leb-true, ltb-true, not-false}
use lib.Dec.{eqb, leb, ltb}
use lib.ListN.{length}
use Rattle.numbers.proofs.Laws.{both, either, or_true, cond_most}
use Rattle.calendar.specs.Calendar.{open_hours}
use Rattle.marks.specs.Marks.{is_crowded, is_doubled, is_unmatched, crowded, doubled, unmatched}
use Rattle.marks.proofs.WhichDay.{FirstDay, day_is_first, day_most}
use Rattle.store.specs.Store.{store_fits}
use Rattle.rules.specs.Calls.{Call, closing}
use Rattle.rules.specs.Rules.{no_figures}
use Rattle.model.specs.Refusals.{refuse, own_refusal, wrong_day}
use Rattle.model.specs.Model.{State, refusal, refused_figures}
use Rattle.model.proofs.Laws.{unasked, behind}

-- the test with the number that a list gives applied, where the rest of the list does not give it
applied : {test : Bool} {n rest : ℕ} → rest ≢ n → refuse test n rest ≡ n → test ≡ true
unfolding refuse
applied {test = true} d e = refl
applied {test = false} d e = absurd (d e)

-- 0, and 42 and above, are none of 1 to 41
low : (k n : ℕ) → eqb n 0 || leb 42 n ≡ true → ltb 0 k && ltb k 42 ≡ true → eqb k n ≡ false
low k n h l =
    let within = both (ltb 0 k) (ltb k 42) l in
    ne_eqb k n
    (λ e.
    ⊎_elim (λ z. omega (arith, ltb-true 0 k within.0, e, eqb-true n 0 z)) (λ g. omega (arith, ltb-true k 42 within.1, e, leb-true 42 n g))
    (either (eqb n 0) (leb 42 n) h))

-- no day of the marks has the fault of 42, none that of 43, and none that of 46
pub record DaysRight (marks : List ℕ) : Type 0 where
  pub not_crowded : crowded marks (length marks / 24) ≡ false
  pub not_doubled : doubled marks (length marks / 24) ≡ false
  pub not_unmatched : unmatched marks (length marks / 24) ≡ false

-- a day is none behind the marks, whatever the number
day_within : (n : ℕ) (marks : List ℕ) → wrong_day n marks ≤ length marks / 24
unfolding wrong_day
day_within n marks =
    cond_most (eqb n 42) (day_most is_crowded marks _)
    (cond_most (eqb n 43) (day_most is_doubled marks _) (cond_most (eqb n 46) (day_most is_unmatched marks _) zero-le))

module _ (s : State) (marks buffer : List ℕ) where
  -- the list of a closing behind 46, behind 43, behind 42, and from 42 on
  abbrev behind_46 : ℕ
  behind_46 = refuse (not (eqb (length buffer) 744)) 44 (refuse (not (store_fits s.store)) 45 0)

  abbrev behind_43 : ℕ
  behind_43 = refuse (unmatched marks (length marks / 24)) 46 behind_46

  abbrev behind_42 : ℕ
  behind_42 = refuse (doubled marks (length marks / 24)) 43 behind_43

  abbrev from_42 : ℕ
  from_42 = refuse (crowded marks (length marks / 24)) 42 behind_42

  -- none of them gives the number that it stands behind
  last : {n : ℕ} → eqb 44 n ≡ false → eqb 45 n ≡ false → behind_46 ≡ n → 0 ≡ n
  last a b e = behind _ 45 b (behind _ 44 a e)

  not_46 : behind_46 ≢ 46
  not_46 e = omega (arith, last refl refl e)

  not_43 : behind_43 ≢ 43
  not_43 e = omega (arith, last refl refl (behind _ 46 refl e))

  not_42 : behind_42 ≢ 42
  not_42 e = omega (arith, last refl refl (behind _ 46 refl (behind _ 43 refl e)))

  -- what a closing with 0 or with 42 or above tells of its marks: there are T, and the list from 42 on gives the number
  marks_known : {n : ℕ} → eqb n 0 || leb 42 n ≡ true → refusal s (closing marks buffer) ≡ n
      → (length marks ≡ open_hours s.point.date) × (from_42 ≡ n)
  unfolding refusal own_refusal
  marks_known {n} h e =
      let own = behind _ 3 (low 3 n h refl) (behind _ 2 (low 2 n h refl) (behind _ 1 (low 1 n h refl) e)) in (
        eqb-true _ _ (not-false _ (unasked 40 _ (low 40 n h refl) own)),
        behind _ 41 (low 41 n h refl) (behind _ 40 (low 40 n h refl) own),
      )

  -- LAW: with 42 the day is the first with over 16 peak hours
  pub day_42 : refusal s (closing marks buffer) ≡ 42 → FirstDay is_crowded marks (length marks / 24) (wrong_day 42 marks)
  unfolding wrong_day crowded
  day_42 e = day_is_first is_crowded marks _ (applied not_42 (marks_known refl e).1)

  -- LAW: with 43 no day has over 16 peak hours, and the day is the first with two or more capacity hours
  pub day_43 : refusal s (closing marks buffer) ≡ 43
      → (crowded marks (length marks / 24) ≡ false) × FirstDay is_doubled marks (length marks / 24) (wrong_day 43 marks)
  unfolding wrong_day doubled
  day_43 e =
      let rest = (marks_known refl e).1 in
      (unasked 42 _ refl rest, day_is_first is_doubled marks _ (applied not_43 (behind _ 42 refl rest)))

  -- LAW: with 46 no day has over 16 peak hours or two capacity hours, and the day is the first with peak hours and without a capacity hour
  pub day_46 : refusal s (closing marks buffer) ≡ 46
      → (crowded marks (length marks / 24) ≡ false) × (doubled marks (length marks / 24) ≡ false)
      × FirstDay is_unmatched marks (length marks / 24) (wrong_day 46 marks)
  unfolding wrong_day unmatched
  day_46 e =
      let rest = (marks_known refl e).1 in
      let more = behind _ 42 refl rest in
      (unasked 42 _ refl rest, unasked 43 _ refl more, day_is_first is_unmatched marks _ (applied not_46 (behind _ 43 refl more)))

  -- LAW: the day is one of the open month's
  pub day_in_month : (n : ℕ) → leb 42 n ≡ true → refusal s (closing marks buffer) ≡ n → 24 * wrong_day n marks ≤ open_hours s.point.date
  day_in_month n l e = omega (arith, (marks_known (rw (l, or_true (eqb n 0))) e).0, day_within n marks)

  -- LAW: with 44, with 45 and where the closing is accepted, no day's marks are wrong
  right : {n : ℕ} → eqb 42 n ≡ false → eqb 43 n ≡ false → eqb 46 n ≡ false → from_42 ≡ n → DaysRight marks
  right a b d rest =
      let more = behind _ 42 a rest in
      record { not_crowded = unasked 42 _ a rest; not_doubled = unasked 43 _ b more; not_unmatched = unasked 46 _ d (behind _ 43 b more) }

  pub right_with_44 : refusal s (closing marks buffer) ≡ 44 → DaysRight marks
  right_with_44 e = right refl refl refl (marks_known refl e).1

  pub right_with_45 : refusal s (closing marks buffer) ≡ 45 → DaysRight marks
  right_with_45 e = right refl refl refl (marks_known refl e).1

  pub right_where_accepted : refusal s (closing marks buffer) ≡ 0 → DaysRight marks
  right_where_accepted e = right refl refl refl (marks_known refl e).1

-- LAW: with any other number the figures are 0, all of them
pub no_day_with : (number : ℕ) (c : Call) → number ≢ 42 → number ≢ 43 → number ≢ 46 → refused_figures number c ≡ no_figures
unfolding refused_figures wrong_day
no_day_with number c a b d = rw (ne_eqb number 42 a, ne_eqb number 43 b, ne_eqb number 46 d)
