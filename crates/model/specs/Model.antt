-- The model of a point: what each call answers, and the record and store that it leaves (document 01, 'What a point keeps' and 'Closing').
use Rattle.std.specs.Prelude.{ℕ, ◌+◌, ◌-◌, ◌≡◌, Bool, true, false, not, cond, ◌&&◌, List, [], length, set, eqb, leb, Option, option_map}
use Rattle.numbers.specs.Lists.{at}
use Rattle.calendar.specs.declared.Date.{Date}
use Rattle.calendar.specs.Calendar.{open_hours, month_number, date_of, next_month}
use Rattle.store.specs.Store.{row_part}
use Rattle.record.specs.declared.Service.{Service}
use Rattle.record.specs.declared.Past.{Past}
use Rattle.record.specs.declared.Reading.{Reading}
use Rattle.record.specs.declared.Readings.{Readings}
use Rattle.record.specs.declared.Record.{Record}
use Rattle.record.specs.Record.{is_set, kwh, not_given, given_as, no_readings, with_service, with_readings, with_serving, with_denials, with_run, with_billing}
use Rattle.record.specs.Record.{with_control, with_first, with_second}
use Rattle.store.specs.Store.{as_row, with_hours, without_hours}
use Rattle.rules.specs.declared.Figures.{Figures}
use Rattle.rules.specs.Calls.{MeterReading, billing_hours, control_hours, billing_volume, control_volume, neighbour}
use Rattle.rules.specs.Calls.{Report, failure, admission, denial, permission, Call, read, report, closing, is_closing, marks_of, buffer_of, is_fault}
use Rattle.rules.specs.Rules.{Measured, missing, hourly, whole, Stated, PastHours, Inputs, Outcome}
use Rattle.rules.specs.Rules.{counted_of, neighbour_of, rules, becomes_past, figures, no_figures}
use Rattle.model.specs.declared.Answer.{Answer}
use Rattle.model.specs.Refusals.{refuse_anyone, own_refusal, wrong_day}
use Rattle.std.specs.Prelude.{None, Some}

-- what a point keeps: its record and its store
pub record State : Type 0 where
  pub point : Record
  pub store : List ℕ

abbrev pub state : Record → List ℕ → State
state r store = record { point = r; store = store }

-- this month's billing reading is no longer given, and its row 12 and volume become 0
abbrev pub discarded : State → State
discarded s =
    state (with_readings s.point (with_billing s.point.readings not_given)) (without_hours 12 s.store)

-- a neighbour reading of source 1 or 2
abbrev pub with_source : Readings → ℕ → Reading → Readings
with_source g source x = cond (eqb source 1) (with_first g x) (with_second g x)

-- FAILURE
-- an earlier 1 or 2 at most 12 months back (year × 12 + month; the same month counts)
abbrev pub fault_within_year : ℕ → ℕ → Bool
fault_within_year fault month = not (eqb fault 0) && leb month (fault + 12)

-- out of service. With reason 1 or 2: a repeat makes the run 0; then, repeat or not, the month is kept as the last fault
abbrev pub after_failure : Service → Date → ℕ → Service
after_failure s d reason =
    record s {
      run = cond (is_fault reason && fault_within_year s.fault (month_number d)) 0 s.run;
      serving = 0;
      fault = cond (is_fault reason) (month_number d) s.fault;
    }

-- CLOSING
-- a reading that the record holds, of a meter of a kind, with the hours of its row
unfoldable pub measured_in : ℕ → Reading → List ℕ → Measured
measured_in kind g hs = cond (is_set g.given) (cond (eqb kind 1) (hourly hs) (whole g.volume.0)) missing

-- a neighbour reading that the record holds
unfoldable pub stated_in : Reading → Stated
stated_in g = cond (is_set g.given) (Some g.volume.0) None

-- the row of a calendar month
abbrev pub row_of : Date → ℕ
row_of d = d.month - 1

-- the hours of a past month in its row
abbrev pub row_hours : State → Date → List ℕ
row_hours s d = row_part s.store (row_of d) (open_hours d)

abbrev pub last_year : Date → Date
last_year d = record { year = d.year - 1; month = d.month }

-- the past month is the same month last year, if its row holds that year; else the latest past month; else none
unfoldable pub past_month : Record → Option Date
past_month r =
    cond (eqb (at r.past.years (row_of r.date)) (r.date.year - 1)) (Some (last_year r.date))
    (cond (eqb r.past.latest 0) None (Some (date_of r.past.latest)))

-- the past is the hours in its row
unfoldable pub past_in : State → PastHours
past_in s = option_map (row_hours s) (past_month s.point)

-- what counts at a closing, from the record and the store: only the state at closing counts for the whole month (H)
unfoldable pub inputs : State → List ℕ → Inputs
inputs s marks =
    record {
      contract = s.point.contract;
      marks = marks;
      counted = counted_of s.point.service.run s.point.service.denials;
      billing = measured_in s.point.contract.billing s.point.readings.billing (row_part s.store 12 (open_hours s.point.date));
      control = measured_in s.point.contract.control s.point.readings.control (row_part s.store 13 (open_hours s.point.date));
      neighbour = neighbour_of (stated_in s.point.readings.first) (stated_in s.point.readings.second);
      past = past_in s;
    }

-- in grounds 1 and 2 only, the hours become that calendar month's row and the latest past, and the run is 0; otherwise the run grows by 1
abbrev pub past_after : Bool → Past → Date → Past
past_after new p d =
    record { years = cond new (set p.years (row_of d) d.year) p.years; latest = cond new (month_number d) p.latest }

abbrev pub run_after : Bool → ℕ → ℕ
run_after new run = cond new 0 (run + 1)

abbrev pub rows_after : Bool → List ℕ → Date → List ℕ → List ℕ
rows_after new hs d store = cond new (with_hours (row_of d) hs store) store

-- the total grows, rows 12 and 13 and the readings clear, the next month opens
abbrev pub point_after : Bool → ℕ → Record → Record
point_after new volume r =
    record r {
      date = next_month r.date;
      service = with_run r.service (run_after new r.service.run);
      past = past_after new r.past r.date;
      readings = no_readings;
      total = kwh (r.total.0 + volume);
    }

abbrev pub store_after : Bool → List ℕ → Date → List ℕ → List ℕ
store_after new hs d store = without_hours 13 (without_hours 12 (rows_after new hs d store))

unfoldable pub closed_with : Outcome → State → State
closed_with u s =
    state (point_after (becomes_past u) u.volume s.point) (store_after (becomes_past u) u.hours s.point.date s.store)

-- WHAT AN ACCEPTED CALL LEAVES. A reading is given, with the volume of an integral or neighbour one; hours are written only into their own row
unfoldable pub after_reading : State → MeterReading → State
after_reading s (billing_hours hs) = state (with_readings s.point (with_billing s.point.readings (given_as 0))) (with_hours 12 hs s.store)
after_reading s (control_hours hs) = state (with_readings s.point (with_control s.point.readings (given_as 0))) (with_hours 13 hs s.store)
after_reading s (billing_volume v) = state (with_readings s.point (with_billing s.point.readings (given_as v))) s.store
after_reading s (control_volume v) = state (with_readings s.point (with_control s.point.readings (given_as v))) s.store
after_reading s (neighbour source v) = state (with_readings s.point (with_source s.point.readings source (given_as v))) s.store

-- what a report makes of the service
abbrev pub service_after : Service → Date → Report → Service
service_after s d (failure reason) = after_failure s d reason
-- back in service
service_after s d admission = with_serving s 1
-- one more
service_after s d denial = with_denials s (s.denials + 1)
-- denials 0
service_after s d permission = with_denials s 0

-- a failure and the second denial discard this month's billing reading
abbrev pub discards_reading : Service → Report → Bool
discards_reading s (failure reason) = true
discards_reading s denial = eqb s.denials 1
discards_reading s _ = false

abbrev pub with_service_after : State → Report → State
with_service_after s x = state (with_service s.point (service_after s.point.service s.point.date x)) s.store

unfoldable pub after_report : State → Report → State
after_report s x = cond (discards_reading s.point.service x) (discarded (with_service_after s x)) (with_service_after s x)

unfoldable pub accept : State → Call → State
accept s (read reading) = after_reading s reading
accept s (report what) = after_report s what
accept s (closing marks buffer) = closed_with (rules (inputs s marks)) s

-- THE NUMBER that a call returns, 0 where it is accepted
unfoldable pub refusal : State → Call → ℕ
refusal s c = refuse_anyone (length s.store) s.point (own_refusal s.point s.store c)

unfoldable pub accepted : State → Call → Bool
accepted s c = eqb (refusal s c) 0

-- THE STEP: a refused call leaves all as it was
unfoldable pub leaves : State → Call → State
leaves s c = cond (accepted s c) (accept s c) s

-- an answer with ground and figures 0
abbrev pub without_figures : ℕ → Record → Answer
without_figures number r = record { refusal = number; after = r; figures = no_figures }

-- the figures and the hours of an accepted call; only a closing has any. The hour buffer has 744 words, 0 from T on
unfoldable pub figures_of : State → Call → Figures
figures_of s c = cond (is_closing c) (figures (rules (inputs s (marks_of c))) (marks_of c)) no_figures

unfoldable pub hours_out : State → Call → List ℕ
hours_out s c = cond (is_closing c) (as_row (rules (inputs s (marks_of c))).hours) []

-- ground and figures 0, but for a day whose marks are wrong
abbrev pub only_day : ℕ → Figures
only_day day = record no_figures { wrong_day = day }

-- what a refused call has for figures: the day of a closing refused with 42, 43 or 46 (document 02, E8), else 0 throughout
unfoldable pub refused_figures : ℕ → Call → Figures
refused_figures number c = only_day (wrong_day number (marks_of c))

-- THE ANSWER: a refused call returns the record given
unfoldable pub answer : State → Call → Answer
answer s c =
    record {
      refusal = refusal s c;
      after = (leaves s c).point;
      figures = cond (accepted s c) (figures_of s c) (refused_figures (refusal s c) c);
    }

-- the hour buffer after the call; a refused call leaves it
unfoldable pub buffer_after : State → Call → List ℕ
buffer_after s c = cond (accepted s c) (hours_out s c) (buffer_of c)

-- WHAT A CONTRACT SAYS of the call c on the state s, which answers a and leaves the store and the hour buffer so; a call without a buffer has []
pub record Does (s : State) (c : Call) (a : Answer) (store buffer : List ℕ) : Type 0 where
  pub answered : a ≡ answer s c
  pub left : store ≡ (leaves s c).store
  pub buffered : buffer ≡ buffer_after s c
