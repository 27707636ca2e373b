-- The book of demand 3 (document 01, 'The list and the book of demand 3'). It is fed the opening's arguments, then each call's arguments
-- and whether it was accepted, and looks back over them.
-- It imports no record, no store and no model: nothing comes from there.
use Rattle.std.specs.Prelude.{ℕ, suc, ◌+◌, ◌-◌, Bool, true, false, cond, ◌&&◌, ◌||◌, List, [], ◌∷◌, eqb, leb}
use Rattle.calendar.specs.declared.Date.{Date}
use Rattle.calendar.specs.Calendar.{month_number, next_month}
use Rattle.contract.specs.Contract.{kept}
use Rattle.rules.specs.Calls.{Opening, MeterReading, billing_hours, control_hours, billing_volume, control_volume, neighbour}
use Rattle.rules.specs.Calls.{failure, admission, denial, permission, Call, read, report, closing, is_closing, marks_of, is_fault}
use Rattle.rules.specs.Rules.{Measured, missing, hourly, whole, Stated, PastHours, Inputs, Outcome}
use Rattle.rules.specs.Rules.{counted_of, neighbour_of, rules, becomes_past}
use Rattle.std.specs.Prelude.{None, Some}

-- an accepted call, and what the book worked out if it is a closing
pub record Entry : Type 0 where
  pub call : Call
  pub out : Outcome

-- the accepted calls, the newest first
abbrev pub Book : Type 0
Book = List Entry

-- WHAT A CALL IS: a test for each kind
abbrev pub billing : Call → Bool
billing (read (billing_hours hours)) = true
billing (read (billing_volume v)) = true
billing _ = false

abbrev pub control : Call → Bool
control (read (control_hours hours)) = true
control (read (control_volume v)) = true
control _ = false

abbrev pub neighbouring : Call → Bool
neighbouring (read (neighbour source v)) = true
neighbouring _ = false

abbrev pub failed : Call → Bool
failed (report (failure reason)) = true
failed _ = false

abbrev pub admitted : Call → Bool
admitted (report admission) = true
admitted _ = false

abbrev pub denied : Call → Bool
denied (report denial) = true
denied _ = false

abbrev pub permitted : Call → Bool
permitted (report permission) = true
permitted _ = false

abbrev pub closed : Call → Bool
closed c = is_closing c

unfoldable pub of_kind : (Call → Bool) → Entry → Bool
of_kind test e = test e.call

-- the source of a neighbour reading, and the reason of a failure
unfoldable pub source_or_reason : Call → ℕ
source_or_reason (read (neighbour source v)) = source
source_or_reason (report (failure reason)) = reason
source_or_reason _ = 0

-- what a reading says, and the reading that a call brings
unfoldable pub measured_by : MeterReading → Measured
measured_by (billing_hours hours) = hourly hours
measured_by (control_hours hours) = hourly hours
measured_by (billing_volume v) = whole v
measured_by (control_volume v) = whole v
measured_by (neighbour source v) = whole v

unfoldable pub reading_of : Call → Measured
reading_of (read reading) = measured_by reading
reading_of (report what) = missing
reading_of (closing marks buffer) = missing

-- a neighbour reading of source n
unfoldable pub is_from : ℕ → Entry → Bool
is_from n e = of_kind neighbouring e && eqb (source_or_reason e.call) n

-- a failure of reason 1 or 2
unfoldable pub is_faulty : Entry → Bool
is_faulty e = of_kind failed e && is_fault (source_or_reason e.call)

-- LOOKING BACK
-- a call's month is the opening's plus one for each closing before it
unfoldable pub month_of : Opening → Book → Date
month_of o [] = o.date
month_of o (e ∷ es) = cond (of_kind closed e) (next_month (month_of o es)) (month_of o es)

-- denials: those since the last permission, or else the opening
unfoldable pub denials_of : Book → ℕ
denials_of [] = 0
denials_of (e ∷ es) =
    cond (of_kind permitted e) 0 (cond (of_kind denied e) (suc (denials_of es)) (denials_of es))

-- the entry e, after es, discards the billing reading: a failure or the second denial, which is the one that makes them 2
unfoldable pub discards : Entry → Book → Bool
discards e es = of_kind failed e || (of_kind denied e && eqb (denials_of es) 1)

-- billing reading: this month's last, unless a later failure or second denial discarded it. This month's calls are those since the last
-- closing, or else the opening
unfoldable pub billing_of : Book → Measured
billing_of [] = missing
billing_of (e ∷ es) =
    cond (of_kind closed e || discards e es) missing
    (cond (of_kind billing e) (reading_of e.call) (billing_of es))

-- control and neighbour readings: this month's, told by a test
unfoldable pub this_months : (Entry → Bool) → Book → Measured
this_months test [] = missing
this_months test (e ∷ es) = cond (of_kind closed e) missing (cond (test e) (reading_of e.call) (this_months test es))

-- a neighbour reading is a volume
unfoldable pub as_stated : Measured → Stated
as_stated missing = None
as_stated (hourly hs) = None
as_stated (whole v) = Some v

unfoldable pub source_of : ℕ → Book → Stated
source_of n es = as_stated (this_months (is_from n) es)

-- an earlier failure of reason 1 or 2, any of them, at most 12 months before the month n
unfoldable pub fault_since : Opening → ℕ → Book → Bool
fault_since o n [] = false
fault_since o n (e ∷ es) = (is_faulty e && leb n (month_number (month_of o es) + 12)) || fault_since o n es

-- a repeat is a failure of reason 1 or 2 at most 12 months after an earlier one of reason 1 or 2
unfoldable pub is_repeat : Opening → Entry → Book → Bool
is_repeat o e es = is_faulty e && fault_since o (month_number (month_of o es)) es

-- a closing on ground 1 or 2
unfoldable pub became_past : Entry → Bool
became_past e = of_kind closed e && becomes_past e.out

-- run: the closings since the latest of the opening, a closing on ground 1 or 2, and a repeat
unfoldable pub run_of : Opening → Book → ℕ
run_of o [] = 0
run_of o (e ∷ es) =
    cond (became_past e || is_repeat o e es) 0 (cond (of_kind closed e) (suc (run_of o es)) (run_of o es))

-- the book's hours of the month n, if closed on ground 1 or 2
unfoldable pub hours_at : Opening → ℕ → Book → PastHours
hours_at o n [] = None
hours_at o n (e ∷ es) = cond (became_past e && eqb (month_number (month_of o es)) n) (Some e.out.hours) (hours_at o n es)

-- the first, or else the second
unfoldable pub or_else_past : PastHours → PastHours → PastHours
or_else_past None q = q
or_else_past (Some hs) q = Some hs

-- of the latest closing on 1 or 2
unfoldable pub latest_hours : Book → PastHours
latest_hours [] = None
latest_hours (e ∷ es) = cond (became_past e) (Some e.out.hours) (latest_hours es)

-- past: the book's hours of the same month last year, if closed on ground 1 or 2; else of the latest closing on 1 or 2; else none
unfoldable pub past_of : Opening → Book → PastHours
past_of o es = or_else_past (hours_at o (month_number (month_of o es) - 12) es) (latest_hours es)

-- the sum of the book's month volumes
unfoldable pub volumes : Book → ℕ
volumes [] = 0
volumes (e ∷ es) = cond (of_kind closed e) (e.out.volume + volumes es) (volumes es)

-- AT A CLOSING: with these, the marks and the opening's contract
unfoldable pub inputs_of : Opening → Book → List ℕ → Inputs
inputs_of o es marks =
    record {
      contract = kept o.asked o.currents o.place;
      marks = marks;
      counted = counted_of (run_of o es) (denials_of es);
      billing = billing_of es;
      control = this_months (of_kind control) es;
      neighbour = neighbour_of (source_of 1 es) (source_of 2 es);
      past = past_of o es;
    }

-- no hours and no volume
abbrev pub empty_on : (ground : ℕ) → Outcome
empty_on g = record { ground = g; hours = []; exact = λ h. record { top = 0; bottom = 1 }; volume = 0 }

-- nothing is worked out at a call that closes no month
abbrev pub nothing : Outcome
nothing = empty_on 0

-- the rules under Closing give ground, hours, exact shares and month volume
unfoldable pub work_out : Opening → Book → Call → Outcome
work_out o es c = cond (is_closing c) (rules (inputs_of o es (marks_of c))) nothing

-- THE BOOK, FED a call's arguments and whether it was accepted. A refused call adds nothing
unfoldable pub feed : Opening → Book → Call → Bool → Book
feed o es c accepted = cond accepted (record { call = c; out = work_out o es c } ∷ es) es
