-- The record and the rows that a book describes, and what it is for a state to be the one that it describes: `Shows`. Assumes nothing.
use Prim.Native.Nat.{ℕ}
use mathlib.Core.Path.{◌≡◌}
use mathlib.Core.Bool.{true, cond, ◌&&◌}
use mathlib.Core.List.{List, [], ◌∷◌}
use lib.Dec.{eqb}
use lib.ListN.{length}
use Rattle.numbers.specs.Lists.{tab}
use Rattle.calendar.specs.Calendar.{is_month, open_hours, month_number}
use Rattle.contract.specs.Contract.{kept}
use Rattle.record.specs.declared.Reading.{Reading}
use Rattle.record.specs.declared.Record.{Record}
use Rattle.record.specs.Record.{kwh, not_given, given_as}
use Rattle.rules.specs.Calls.{Opening, is_closing, marks_of}
use Rattle.rules.specs.Rules.{Measured, missing, hourly, whole, Stated}
use Rattle.model.specs.Model.{State, state, row_of}
use Rattle.model.specs.Sound.{Sound}
use Rattle.history.specs.Book.{Entry, Book, control, failed, admitted, closed, of_kind, source_or_reason, measured_by, reading_of}
use Rattle.history.specs.Book.{is_from, is_faulty, month_of, denials_of, discards, billing_of, this_months, as_stated, source_of, is_repeat}
use Rattle.history.specs.Book.{became_past, run_of, volumes, work_out}
use Rattle.history.proofs.Rows.{Holds}
use Rattle.std.specs.Prelude.{None, Some}

-- WHAT A BOOK DESCRIBES
-- a reading as the record has it, and the hours of it that the store has
unfoldable pub given_by : Measured → Reading
given_by missing = not_given
given_by (hourly hs) = given_as 0
given_by (whole v) = given_as v

unfoldable pub stated_by : Stated → Reading
stated_by None = not_given
stated_by (Some v) = given_as v

unfoldable pub hours_read : Measured → List ℕ
hours_read missing = []
hours_read (hourly hs) = hs
hours_read (whole v) = []

-- in service, unless a failure came after the last admission, or else the opening
unfoldable pub serving_of : Book → ℕ
serving_of [] = 1
serving_of (e ∷ es) = cond (of_kind failed e) 0 (cond (of_kind admitted e) 1 (serving_of es))

-- the month of the last failure of reason 1 or 2, 0 for none
unfoldable pub fault_of : Opening → Book → ℕ
fault_of o [] = 0
fault_of o (e ∷ es) = cond (is_faulty e) (month_number (month_of o es)) (fault_of o es)

-- the month of the latest closing on ground 1 or 2, 0 for none
unfoldable pub latest_of : Opening → Book → ℕ
latest_of o [] = 0
latest_of o (e ∷ es) = cond (became_past e) (month_number (month_of o es)) (latest_of o es)

-- of the last closing of the calendar month r on ground 1 or 2: the year and the hours
unfoldable pub year_in : Opening → Book → ℕ → ℕ
year_in o [] r = 0
year_in o (e ∷ es) r = cond (became_past e && eqb r (row_of (month_of o es))) (month_of o es).year (year_in o es r)

unfoldable pub last_in : Opening → Book → ℕ → List ℕ
last_in o [] r = []
last_in o (e ∷ es) r = cond (became_past e && eqb r (row_of (month_of o es))) e.out.hours (last_in o es r)

-- the hours in row r
unfoldable pub contents : Opening → Book → ℕ → List ℕ
contents o es r =
    cond (eqb r 12) (hours_read (billing_of es))
    (cond (eqb r 13) (hours_read (this_months (of_kind control) es)) (last_in o es r))

-- the record
unfoldable pub point_of : Opening → Book → Record
point_of o es =
    record {
      opened = 1;
      contract = kept o.asked o.currents o.place;
      date = month_of o es;
      service = record { run = run_of o es; serving = serving_of es; denials = denials_of es; fault = fault_of o es };
      past = record { years = tab 12 (year_in o es); latest = latest_of o es };
      readings =
          record {
            billing = given_by (billing_of es);
            control = given_by (this_months (of_kind control) es);
            first = stated_by (source_of 1 es);
            second = stated_by (source_of 2 es);
          };
      total = kwh (volumes es);
    }

-- the state with that record and a store
abbrev pub seen : Opening → Book → List ℕ → State
seen o es store = state (point_of o es) store

-- what unfolds with an entry, by one name
unfoldable pub look_backs : Unit {0}
unfolding given_by stated_by hours_read serving_of fault_of latest_of year_in last_in of_kind source_or_reason measured_by reading_of marks_of
    is_from is_faulty
    month_of denials_of discards billing_of this_months as_stated source_of
    is_repeat became_past run_of volumes work_out is_closing
look_backs = tt

-- WHAT HOLDS OF A BOOK
-- a reading of the form that a meter of a kind gives, of a month of t hours
unfoldable pub OfItsMeter : ℕ → ℕ → Measured → Type 0
OfItsMeter kind t missing = Unit {0}
OfItsMeter kind t (hourly hs) = (kind ≡ 1) × (length hs ≡ t)
OfItsMeter kind t (whole v) = kind ≡ 2

-- only a month that is calculated was closed, and on ground 1 or 2 with as many hours as it has
pub record Entered (o : Opening) (e : Entry) (es : Book) : Type 0 where
  pub month : of_kind closed e ≡ true → is_month (month_of o es) ≡ true
  pub long : became_past e ≡ true → length e.out.hours ≡ open_hours (month_of o es)

unfoldable pub MonthsClosed : Opening → Book → Type 0
MonthsClosed o [] = is_month o.date ≡ true
MonthsClosed o (e ∷ es) = Entered o e es × MonthsClosed o es

-- THE STATE IS THE ONE THAT THE BOOK DESCRIBES
pub record Shows (o : Opening) (es : Book) (s : State) : Type 0 where
  pub sound : Sound s
  pub point : s.point ≡ point_of o es
  pub rows : Holds (contents o es) s.store
  pub billing : OfItsMeter o.asked.billing (open_hours (month_of o es)) (billing_of es)
  pub control : OfItsMeter o.asked.control (open_hours (month_of o es)) (this_months (of_kind control) es)
  pub months : MonthsClosed o es

-- so it is the state seen from the book, with its store
pub as_seen : {o : Opening} {es : Book} {s : State} → Shows o es s → s ≡ seen o es s.store
as_seen {s = s} h = λ i. state (h.point i) s.store
