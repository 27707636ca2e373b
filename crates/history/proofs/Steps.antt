-- Each accepted call that does not close the month takes a state that the book describes to the one that it describes with the call entered. Assumes nothing.
use Prim.Native.Nat.{ℕ}
use mathlib.Core.Path.{◌≡◌, refl, sym, ◌∙◌}
use mathlib.Core.Bool.{true, false, not, true≢false}
use mathlib.Core.List.{List, [], ◌∷◌}
use native.Mathlib.Omega.{arith}
use native.Mathlib.Numerals.{add-one}
use borrow.Author.Tests.{eqb-true, not-false}
use lib.Dec.{eqb, lit≤}
use lib.ListN.{length}
use Rattle.numbers.proofs.Laws.{by_cases, both}
use Rattle.calendar.specs.Calendar.{open_hours, month_number}
use Rattle.calendar.proofs.Laws.{open_high}
use Rattle.contract.specs.Contract.{kept}
use Rattle.record.specs.Record.{is_set}
use Rattle.rules.specs.Calls.{Opening, billing_hours, control_hours, billing_volume, control_volume, neighbour}
use Rattle.rules.specs.Calls.{failure, admission, denial, permission, Call, read, report, is_closing}
use Rattle.rules.specs.Rules.{Measured, missing, hourly, whole, Outcome, becomes_past}
use Rattle.model.specs.Refusals.{reading_number, own_refusal}
use Rattle.model.specs.Model.{after_reading, after_report, accept, accepted}
use Rattle.model.proofs.Laws.{reading_passed}
use Rattle.model.proofs.Keeps.{call_passed}
use Rattle.model.proofs.GoesOn.{call_sound}
use Rattle.history.specs.Book.{Entry, Book, control, closed, of_kind, month_of, denials_of, billing_of, this_months, became_past, work_out}
use Rattle.history.proofs.Rows.{Holds, replaced_at, holds_same, holds_put}
use Rattle.history.proofs.View.{given_by, hours_read, last_in, contents, point_of, seen, look_backs, OfItsMeter, Entered, MonthsClosed, Shows}
use Rattle.history.proofs.Months.{last_is_any}

-- the call entered
abbrev pub entry : Opening → Book → Call → Entry
entry o es c = record { call = c; out = work_out o es c }

-- row 12 or 13 is written, and the others stay
row_12 : (o : Opening) (es fs : Book) (hs : List ℕ) → hs ≡ hours_read (billing_of fs)
    → this_months (of_kind control) es ≡ this_months (of_kind control) fs
    → ((r : ℕ) → last_in o es r ≡ last_in o fs r) → (r : ℕ) → replaced_at (contents o es) 12 hs r ≡ contents o fs r
unfolding contents
row_12 o es fs hs b c l r = by_cases (eqb r 12) (λ t. rw t b) (λ f. rw (f, c, l r))

row_13 : (o : Opening) (es fs : Book) (hs : List ℕ) → hs ≡ hours_read (this_months (of_kind control) fs) → billing_of es ≡ billing_of fs
    → ((r : ℕ) → last_in o es r ≡ last_in o fs r) → (r : ℕ) → replaced_at (contents o es) 13 hs r ≡ contents o fs r
unfolding contents
row_13 o es fs hs c b l r = by_cases (eqb r 13) (λ t. rw (eqb-true r 13 t) c) (λ f. rw (f, b, l r))

-- a reading that is not given has no hours
no_hours : (m : Measured) → is_set (given_by m).given ≡ false → hours_read m ≡ []
unfolding given_by hours_read
no_hours missing e = refl
no_hours (hourly hs) e = absurd (true≢false e)
no_hours (whole v) e = refl

tested : {a b : ℕ} → not (eqb a b) ≡ false → a ≡ b
tested {a} {b} e = eqb-true a b (not-false (eqb a b) e)

-- an entry closes a month where its call does
pub entry_closes : (c : Call) (u : Outcome) → of_kind closed (record { call = c; out = u }) ≡ is_closing c
unfolding of_kind
entry_closes c u = refl

-- and else nothing is asked of it
open_entered : (o : Opening) (es : Book) (c : Call) → is_closing c ≡ false → Entered o (entry o es c) es
unfolding became_past
open_entered o es c f =
    let n : of_kind closed (entry o es c) ≡ false = entry_closes c (work_out o es c) ∙ f in
    record {
      month = λ t. absurd (true≢false (sym t ∙ n));
      long = λ t. absurd (true≢false (sym (both (of_kind closed (entry o es c)) (becomes_past (work_out o es c)) t).0 ∙ n));
    }

module _ (o : Opening) (es : Book) (store : List ℕ) (h : Shows o es (seen o es store)) where
  abbrev pub Steps : Call → Type 0
  Steps c = accepted (seen o es store) c ≡ true → Shows o (entry o es c ∷ es) (accept (seen o es store) c)

  -- a call that does not close the month
  between : (c : Call) → accepted (seen o es store) c ≡ true → is_closing c ≡ false
      → (accept (seen o es store) c).point ≡ point_of o (entry o es c ∷ es)
      → Holds (contents o (entry o es c ∷ es)) (accept (seen o es store) c).store
      → OfItsMeter o.asked.billing (open_hours (month_of o (entry o es c ∷ es))) (billing_of (entry o es c ∷ es))
      → OfItsMeter o.asked.control (open_hours (month_of o (entry o es c ∷ es))) (this_months (of_kind control) (entry o es c ∷ es))
      → Shows o (entry o es c ∷ es) (accept (seen o es store) c)
  unfolding MonthsClosed
  between c t n p r b k =
      record { sound = call_sound (seen o es store) c h.sound t; point = p; rows = r; billing = b; control = k; months = (open_entered o es c n, h.months) }

  pub step_admission : Steps (report admission)
  unfolding accept after_reading after_report point_of contents look_backs
  step_admission t = between (report admission) t refl refl (holds_same (λ r. refl) h.rows) h.billing h.control

  pub step_permission : Steps (report permission)
  unfolding accept after_reading after_report point_of contents look_backs
  step_permission t = between (report permission) t refl refl (holds_same (λ r. refl) h.rows) h.billing h.control

  pub step_billing_hours : (hs : List ℕ) → Steps (read (billing_hours hs))
  unfolding accept after_reading after_report point_of kept look_backs own_refusal reading_number OfItsMeter
  step_billing_hours hs t =
      let q = reading_passed (call_passed (seen o es store) (read (billing_hours hs)) t).own in
      let e : length hs ≡ open_hours (month_of o es) = tested q.long in
      between (read (billing_hours hs)) t refl refl
      (holds_same (row_12 o es (entry o es (read (billing_hours hs)) ∷ es) hs refl refl (λ r. refl))
      (holds_put 12 hs (lit≤ tt) (omega (arith, open_high (month_of o es))) h.rows))
      (tested q.meter, e) h.control

  pub step_control_hours : (hs : List ℕ) → Steps (read (control_hours hs))
  unfolding accept after_reading after_report point_of kept look_backs own_refusal reading_number OfItsMeter
  step_control_hours hs t =
      let q = reading_passed (call_passed (seen o es store) (read (control_hours hs)) t).own in
      let e : length hs ≡ open_hours (month_of o es) = tested q.long in
      between (read (control_hours hs)) t refl refl
      (holds_same (row_13 o es (entry o es (read (control_hours hs)) ∷ es) hs refl refl (λ r. refl))
      (holds_put 13 hs (lit≤ tt) (omega (arith, open_high (month_of o es))) h.rows))
      h.billing (tested q.meter, e)

  pub step_billing_volume : (v : ℕ) → Steps (read (billing_volume v))
  unfolding accept after_reading after_report point_of kept contents look_backs own_refusal reading_number OfItsMeter
  step_billing_volume v t =
      let q = reading_passed (call_passed (seen o es store) (read (billing_volume v)) t).own in
      let n : hours_read (billing_of es) ≡ [] = no_hours (billing_of es) q.first in
      between (read (billing_volume v)) t refl refl (holds_same (λ r. rw n) h.rows) (tested q.meter) h.control

  pub step_control_volume : (v : ℕ) → Steps (read (control_volume v))
  unfolding accept after_reading after_report point_of kept contents look_backs own_refusal reading_number OfItsMeter
  step_control_volume v t =
      let q = reading_passed (call_passed (seen o es store) (read (control_volume v)) t).own in
      let n : hours_read (this_months (of_kind control) es) ≡ [] = no_hours (this_months (of_kind control) es) q.first in
      between (read (control_volume v)) t refl refl (holds_same (λ r. rw n) h.rows) h.billing (tested q.meter)

  pub step_neighbour : (source v : ℕ) → Steps (read (neighbour source v))
  unfolding accept after_reading after_report point_of contents look_backs own_refusal reading_number
  step_neighbour source v t =
      let q = reading_passed (call_passed (seen o es store) (read (neighbour source v)) t).own in
      between (read (neighbour source v)) t refl
      (by_cases (eqb source 1)
      (λ y. rw (eqb-true source 1 y))
      (λ f. rw (eqb-true source 2 (not-false _ (rw f at q.meter)))))
      (holds_same (λ r. refl) h.rows) h.billing h.control

  pub step_denial : Steps (report denial)
  unfolding accept after_reading after_report point_of contents look_backs OfItsMeter
  step_denial t =
      between (report denial) t refl
      (by_cases (eqb (denials_of es) 1) (λ y. rw (y, add-one)) (λ f. rw (f, add-one)))
      (by_cases (eqb (denials_of es) 1)
      (λ y. rw y (holds_same (row_12 o es (entry o es (report denial) ∷ es) [] (rw y) refl (λ r. refl)) (holds_put 12 [] (lit≤ tt) (lit≤ tt) h.rows)))
      (λ f. rw f (holds_same (λ r. rw f) h.rows)))
      (by_cases (eqb (denials_of es) 1) (λ y. rw y tt) (λ f. rw f h.billing))
      h.control

  pub step_failure : (reason : ℕ) → Steps (report (failure reason))
  unfolding accept after_reading after_report point_of look_backs OfItsMeter
  step_failure reason t =
      between (report (failure reason)) t refl
      (rw (last_is_any o (month_number (month_of o es)) es h.months))
      (holds_same (row_12 o es (entry o es (report (failure reason)) ∷ es) [] refl refl (λ r. refl)) (holds_put 12 [] (lit≤ tt) (lit≤ tt) h.rows))
      tt h.control
