-- Openings and calls of lines, marks and first days of months, by computation. Assumes nothing.
use Prim.Native.Nat.{ℕ}
use mathlib.Core.Path.{◌≡◌, refl}
use mathlib.Core.List.{List, [], ◌∷◌}
use lib.ListN.{length, replicate}
use Rattle.calendar.specs.declared.Date.{Date}
use Rattle.calendar.specs.Calendar.{is_month}
use Rattle.contract.specs.Contract.{no_cable}
use Rattle.rules.specs.Calls.{billing_hours, control_hours, billing_volume, control_volume, neighbour}
use Rattle.rules.specs.Calls.{failure, admission, denial, permission, read, report, closing}
use Rattle.line_reader.specs.declared.Line.{Line}
use Rattle.line_reader.specs.declared.calls.Call.{Call}
use Rattle.line_reader.specs.declared.calls.Call.TheVariants as call
use Rattle.line_reader.specs.declared.names.Argument.TheVariants as key
use Rattle.line_reader.specs.Codes.{index_of}
use Rattle.line_reader.specs.Changes.{with_call, with_value}
use Rattle.line_reader.specs.Modes.{value_in}
use Rattle.line_reader.specs.Lines.{fresh_line}
use Rattle.line_calls.specs.Calls.{argument_of, field_of, cable_by, asked_by, date_by, opening_by, marks_in, marks_from, call_as, call_by}
use Rattle.line_calls.specs.Week.{first_weekday}

unfoldable call_definitions : Unit {0}
unfolding call_by call_as opening_by date_by asked_by cable_by field_of argument_of value_in index_of marks_in marks_from
call_definitions = tt

abbrev on : ℕ → ℕ → Date
on y m = record { year = y; month = m }

-- an opening with every argument its own value
abbrev full : Line
full =
    with_value key.Year 2023 (with_value key.Month 2
    (with_value key.Billing 11 (with_value key.Control 12 (with_value key.Basis 13 (with_value key.Power 14 (with_value key.Place 15
    (with_value key.Amperes 16 (with_value key.Volts 17 (with_value key.Cosine 18 (with_value key.Phases 19
    (with_value key.Currents 0 (with_call call.Open fresh_line))))))))))))

-- each argument in its place, the list as the currents, and 0 for what is not given
openings :
    (opening_by full (5 ∷ 6 ∷ [])
    ≡ record {
      asked =
          record { billing = 11; control = 12; basis = 13; power = record { 0 = 14 }; cable = record { amperes = 16; volts = 17; cosine = 18; phases = 19 } };
      date = on 2023 2;
      currents = 5 ∷ 6 ∷ [];
      place = 15;
    })
    × (opening_by (with_value key.Year 2023 (with_value key.Month 13 (with_call call.Open fresh_line))) []
    ≡ record {
      asked = record { billing = 0; control = 0; basis = 0; power = record { 0 = 0 }; cable = no_cable };
      date = on 2023 13;
      currents = [];
      place = 0;
    })
    × (opening_by (with_value key.Power 4294967295 (with_value key.Place 4294967295 fresh_line)) (7 ∷ [])
    ≡ record {
      asked = record { billing = 0; control = 0; basis = 0; power = record { 0 = 4294967295 }; cable = no_cable };
      date = on 0 0;
      currents = 7 ∷ [];
      place = 4294967295;
    })
unfolding call_definitions
openings = (refl, refl, refl)

abbrev line : Call → Line
line c =
    with_call c (with_value key.Source 2 (with_value key.Reason 3 (with_value key.Volume 999999999999999999 fresh_line)))

abbrev list : List ℕ
list = 5 ∷ 300 ∷ []

abbrev buffer : List ℕ
buffer = 8 ∷ 9 ∷ []

calls :
    (call_by (line call.BillingHours) list buffer ≡ read (billing_hours list))
    × (call_by (line call.BillingVolume) list buffer ≡ read (billing_volume 999999999999999999))
    × (call_by (line call.ControlHours) list buffer ≡ read (control_hours list))
    × (call_by (line call.ControlVolume) list buffer ≡ read (control_volume 999999999999999999))
    × (call_by (line call.Neighbour) list buffer ≡ read (neighbour 2 999999999999999999))
    × (call_by (line call.Failure) list buffer ≡ report (failure 3))
    × (call_by (line call.Admission) list buffer ≡ report admission)
    × (call_by (line call.Denial) list buffer ≡ report denial)
    × (call_by (line call.Permission) list buffer ≡ report permission)
    × (call_by (line call.Close) (0 ∷ 1 ∷ 2 ∷ 3 ∷ 255 ∷ []) buffer ≡ closing (0 ∷ 1 ∷ 2 ∷ 3 ∷ 255 ∷ []) buffer)
    × (call_by (line call.Close) [] buffer ≡ closing [] buffer)
    × (call_by (with_call call.BillingVolume fresh_line) list buffer ≡ read (billing_volume 0))
    × (call_by (with_call call.Neighbour fresh_line) list buffer ≡ read (neighbour 0 0))
    × (call_by (with_call call.Failure fresh_line) list buffer ≡ report (failure 0))
unfolding call_definitions
calls = (refl, refl, refl, refl, refl, refl, refl, refl, refl, refl, refl, refl, refl, refl)

-- a byte for each number, up to 4,096 of them
marks :
    (marks_from [] ≡ [])
    × (marks_from (0 ∷ 3 ∷ 255 ∷ []) ≡ 0 ∷ 3 ∷ 255 ∷ [])
    × (marks_from (256 ∷ 259 ∷ []) ≡ 0 ∷ 3 ∷ [])
    × (length (marks_from (replicate 743 1)) ≡ 743)
    × (length (marks_from (replicate 745 1)) ≡ 745)
unfolding call_definitions
marks = (refl, refl, refl, refl, refl)

-- Monday is 0. January 2014 starts on a Wednesday; in 2100 there is no leap day, in 2400 there is
weekdays :
    (first_weekday (on 2014 1) ≡ 2)
    × (first_weekday (on 2014 2) ≡ 5)
    × (first_weekday (on 2023 1) ≡ 6)
    × (first_weekday (on 2023 5) ≡ 0)
    × (first_weekday (on 2024 1) ≡ 0)
    × (first_weekday (on 2024 2) ≡ 3)
    × (first_weekday (on 2024 3) ≡ 4)
    × (first_weekday (on 2024 12) ≡ 6)
    × (first_weekday (on 2100 2) ≡ 0)
    × (first_weekday (on 2100 3) ≡ 0)
    × (first_weekday (on 2400 2) ≡ 1)
    × (first_weekday (on 2400 3) ≡ 2)
    × (first_weekday (on 2999 12) ≡ 6)
    × (first_weekday (on 3000 1) ≡ 2)
    × (first_weekday (on 3000 2) ≡ 0)
    × (first_weekday (on 2013 12) ≡ 0)
    × (first_weekday (on 2023 13) ≡ 0)
    × (first_weekday (on 2023 0) ≡ 0)
unfolding first_weekday is_month
weekdays = (refl, refl, refl, refl, refl, refl, refl, refl, refl, refl, refl, refl, refl, refl, refl, refl, refl, refl)
