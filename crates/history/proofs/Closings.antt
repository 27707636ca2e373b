-- An accepted closing, and so every accepted call, takes a state that the book describes to the one that it describes with the call entered. Assumes nothing.
use Prim.Native.Nat.{ℕ, ◌+◌}
use mathlib.Core.Path.{◌≡◌, refl, sym, ap, subst, ◌∙◌}
use mathlib.Core.Bool.{true, cond, ◌&&◌}
use mathlib.Core.List.{List, [], ◌∷◌}
use native.Mathlib.Omega.{arith}
use native.Mathlib.Nat.{add_comm}
use native.Mathlib.Numerals.{add-one}
use borrow.Author.Tests.{eqb-true}
use lib.Dec.{eqb, lit≤}
use lib.ListN.{set}
use Rattle.numbers.specs.Lists.{tab}
use Rattle.numbers.proofs.Laws.{by_cases, tab_same}
use Rattle.calendar.specs.declared.Date.{Date}
use Rattle.calendar.specs.Calendar.{is_month, open_hours, next_month}
use Rattle.calendar.proofs.Laws.{open_high}
use Rattle.contract.specs.Contract.{kept}
use Rattle.record.specs.Record.{kwh, no_readings, with_run}
use Rattle.rules.specs.Calls.{Opening, MeterReading, billing_hours, control_hours, billing_volume, control_volume, neighbour}
use Rattle.rules.specs.Calls.{Report, failure, admission, denial, permission, Call, read, report, closing}
use Rattle.rules.specs.Rules.{Outcome, rules, becomes_past}
use Rattle.rules.specs.Right.{Right}
use Rattle.model.specs.Model.{State, row_of, inputs, run_after, closed_with, accept, accepted}
use Rattle.model.proofs.Closes.{settled, closing_right, row_few}
use Rattle.model.proofs.GoesOn.{call_sound}
use Rattle.history.specs.Book.{Book, month_of, run_of, volumes, inputs_of}
use Rattle.history.proofs.Rows.{Holds, replaced_at, holds_same, holds_put, set_tab}
use Rattle.history.proofs.View.{latest_of, year_in, contents, point_of, seen, look_backs, OfItsMeter, MonthsClosed, Shows, as_seen}
use Rattle.history.proofs.Inputs.{inputs_same}
use Rattle.history.proofs.Steps.{entry, Steps, step_billing_hours, step_control_hours, step_billing_volume, step_control_volume, step_neighbour}
use Rattle.history.proofs.Steps.{step_failure, step_admission, step_denial, step_permission}

module _ (o : Opening) (es : Book) (store : List ℕ) (h : Shows o es (seen o es store)) where
  module _ (marks buffer : List ℕ) (t : accepted (seen o es store) (closing marks buffer) ≡ true) where
    month : is_month (month_of o es) ≡ true
    unfolding point_of
    month = (settled (seen o es store) marks buffer t).month

    -- what the book works out is right
    pub work_right : Right (open_hours (month_of o es)) (rules (inputs_of o es marks))
    unfolding point_of
    work_right = rw (inputs_same o es store h marks) at (closing_right (settled (seen o es store) marks buffer t))

    -- the run, the rows' years and the total
    run_after_lem : run_after (becomes_past (rules (inputs_of o es marks))) (run_of o es) ≡ run_of o (entry o es (closing marks buffer) ∷ es)
    unfolding look_backs
    run_after_lem = by_cases (becomes_past (rules (inputs_of o es marks))) (λ y. rw y) (λ f. rw (f, add-one))

    years_after : cond (becomes_past (rules (inputs_of o es marks))) (set (tab 12 (year_in o es)) (row_of (month_of o es)) (month_of o es).year)
        (tab 12 (year_in o es))
        ≡ tab 12 (year_in o (entry o es (closing marks buffer) ∷ es))
    unfolding look_backs
    years_after =
        let d : Date = month_of o es in
        by_cases (becomes_past (rules (inputs_of o es marks)))
        (λ y. rw y
        (set_tab (year_in o es) 12 (row_of d) d.year (omega (arith, row_few d month))
        ∙ tab_same 12 (replaced_at (year_in o es) (row_of d) d.year) (λ r. cond (true && eqb r (row_of d)) d.year (year_in o es r)) (λ r l. refl)))
        (λ f. rw f)

    total_after : volumes es + (rules (inputs_of o es marks)).volume ≡ volumes (entry o es (closing marks buffer) ∷ es)
    unfolding look_backs
    total_after = add_comm (volumes es) (rules (inputs_of o es marks)).volume

    point_after_lem : (closed_with (rules (inputs_of o es marks)) (seen o es store)).point ≡ point_of o (entry o es (closing marks buffer) ∷ es)
    unfolding closed_with point_of look_backs
    point_after_lem =
        λ i.
        record {
          opened = 1;
          contract = kept o.asked o.currents o.place;
          date = next_month (month_of o es);
          service = with_run (point_of o es).service (run_after_lem i);
          past = record { years = years_after i; latest = latest_of o (entry o es (closing marks buffer) ∷ es) };
          readings = no_readings;
          total = kwh (total_after i);
        }

    -- the rows: this month's hours on ground 1 or 2, and rows 12 and 13 clear
    contents_after : (r : ℕ)
        → replaced_at
        (replaced_at (cond (becomes_past (rules (inputs_of o es marks)))
        (replaced_at (contents o es) (row_of (month_of o es)) (rules (inputs_of o es marks)).hours) (contents o es)) 12 []) 13 [] r
        ≡ contents o (entry o es (closing marks buffer) ∷ es) r
    unfolding contents look_backs
    contents_after r =
        by_cases (eqb r 12)
        (λ t. rw (eqb-true r 12 t))
        (λ f.
        by_cases (eqb r 13)
        (λ t. rw (eqb-true r 13 t))
        (λ g. by_cases (becomes_past (rules (inputs_of o es marks))) (λ y. rw (f, g, y) (rw (f, g))) (λ n. rw (f, g, n) (rw (f, g)))))

    rows_after_lem : Holds (contents o (entry o es (closing marks buffer) ∷ es)) (closed_with (rules (inputs_of o es marks)) (seen o es store)).store
    unfolding closed_with point_of
    rows_after_lem =
        let d : Date = month_of o es in
        let u : Outcome = rules (inputs_of o es marks) in
        holds_same contents_after
        (holds_put 13 [] (lit≤ tt) (lit≤ tt)
        (holds_put 12 [] (lit≤ tt) (lit≤ tt)
        (by_cases (becomes_past u)
        (λ y. rw y (holds_put (row_of d) u.hours (omega (arith, row_few d month)) (omega (arith, work_right.long, open_high d)) h.rows))
        (λ n. rw n h.rows))))

    step_closing : Shows o (entry o es (closing marks buffer) ∷ es) (accept (seen o es store) (closing marks buffer))
    unfolding accept look_backs OfItsMeter MonthsClosed
    step_closing =
        record {
          sound = call_sound (seen o es store) (closing marks buffer) h.sound t;
          point = rw (inputs_same o es store h marks) point_after_lem;
          rows = rw (inputs_same o es store h marks) rows_after_lem;
          billing = tt;
          control = tt;
          months = (record { month = λ e. month; long = λ e. work_right.long }, h.months);
        }

  -- EVERY CALL
  step_reading : (x : MeterReading) → Steps o es store h (read x)
  step_reading (billing_hours hs) t = step_billing_hours o es store h hs t
  step_reading (control_hours hs) t = step_control_hours o es store h hs t
  step_reading (billing_volume v) t = step_billing_volume o es store h v t
  step_reading (control_volume v) t = step_control_volume o es store h v t
  step_reading (neighbour source v) t = step_neighbour o es store h source v t

  step_report : (x : Report) → Steps o es store h (report x)
  step_report (failure reason) t = step_failure o es store h reason t
  step_report admission t = step_admission o es store h t
  step_report denial t = step_denial o es store h t
  step_report permission t = step_permission o es store h t

  step_seen : (c : Call) → Steps o es store h c
  step_seen (read x) t = step_reading x t
  step_seen (report x) t = step_report x t
  step_seen (closing marks buffer) t = step_closing marks buffer t

pub step : (o : Opening) (es : Book) (s : State) (c : Call) → Shows o es s → accepted s c ≡ true → Shows o (entry o es c ∷ es) (accept s c)
step o es s c h t =
    let e : s ≡ seen o es s.store = as_seen h in
    subst (λ (x : State). Shows o (entry o es c ∷ es) (accept x c)) (sym e)
    (step_seen o es s.store (subst (Shows o es) e h) c (subst (λ (x : State). accepted x c ≡ true) e t))

-- WHAT AN ACCEPTED CLOSING WORKS BY, of a state that the book describes
pub inputs_shown : (o : Opening) (es : Book) (s : State) (marks : List ℕ) → Shows o es s → inputs s marks ≡ inputs_of o es marks
inputs_shown o es s marks h =
    let e : s ≡ seen o es s.store = as_seen h in
    ap (λ (x : State). inputs x marks) e ∙ inputs_same o es s.store (subst (Shows o es) e h) marks

pub right_shown : (o : Opening) (es : Book) (s : State) (marks buffer : List ℕ) → Shows o es s → accepted s (closing marks buffer) ≡ true
    → Right (open_hours (month_of o es)) (rules (inputs_of o es marks))
right_shown o es s marks buffer h t =
    let e : s ≡ seen o es s.store = as_seen h in
    work_right o es s.store (subst (Shows o es) e h) marks buffer (subst (λ (x : State). accepted x (closing marks buffer) ≡ true) e t)
