-- The reasons on values. By computation; assumes nothing.
use Prim.Native.Nat.{ℕ}
use mathlib.Core.Path.{◌≡◌, refl}
use mathlib.Core.List.{List, [], ◌∷◌}
use lib.ListN.{set}
use Rattle.numbers.specs.Lists.{zeros}
use Rattle.numbers.specs.Rounding.{half_up}
use Rattle.calendar.specs.declared.Date.{Date}
use Rattle.calendar.specs.Calendar.{leap_year, is_month, month_days, month_hours, open_hours, date_of}
use Rattle.sharing.specs.Shares.{portion, taken, spread, shares_over, stretched}
use Rattle.power.specs.Power.{formula}
use Rattle.marks.specs.Marks.{peak_count, capacity_sum}
use Rattle.contract.specs.declared.Contract.{Contract}
use Rattle.contract.specs.Contract.{no_cable, power_of}
use Rattle.record.specs.declared.Record.{Record}
use Rattle.record.specs.Record.{kwh, no_readings, fresh_record, fresh_service, with_service, with_readings, with_past, with_serving, with_denials, with_billing}
use Rattle.rules.specs.Rules.{Measured, missing, hourly, whole, PastHours, Inputs, counted_of, neighbour_of}
use Rattle.model.specs.Model.{state, measured_in, stated_in, past_month, past_in, inputs}
use Rattle.std.specs.Prelude.{None, Some}
use Rattle.rules.specs.Grounds.{clause_number}
use Rattle.rules.specs.declared.Clause.TheVariants.{Missed, DeniedTwice, OutOfService}
use Rattle.reasons.specs.Reasons.{clause_of, volume_read, compared_past, compared_by, compared_in, reasons_of}

abbrev pub on : ℕ → ℕ → Date
on y m = record { year = y; month = m }

-- integral meters, 3 kW agreed
abbrev pub contract : Contract
contract = record { billing = 2; control = 2; basis = 1; power = record { 0 = 3 }; cable = no_cable }

-- open in February 2024, with a billing reading or none, in service or not, and denials
abbrev served : ℕ → ℕ → ℕ → Record
served given serving denials =
    with_readings
    (with_service (fresh_record contract (on 2024 2)) (with_denials (with_serving fresh_service serving) denials))
    (with_billing no_readings (record { given = given; volume = kwh 0 }))

clauses :
    (clause_of (served 1 1 0) ≡ None) × (clause_of (served 1 0 2) ≡ None)
    × (clause_of (served 0 1 0) ≡ Some Missed) × (clause_of (served 0 1 1) ≡ Some Missed)
    × (clause_of (served 0 0 0) ≡ Some OutOfService) × (clause_of (served 0 0 1) ≡ Some OutOfService)
    × (clause_of (served 0 1 2) ≡ Some DeniedTwice) × (clause_of (served 0 0 2) ≡ Some DeniedTwice)
unfolding clause_of
clauses = (refl, refl, refl, refl, refl, refl, refl, refl)

-- the numbers of the points
points : (clause_number Missed ≡ 166) × (clause_number DeniedTwice ≡ 178) × (clause_number OutOfService ≡ 179)
points = (refl, refl, refl)

-- B even at 0; K only without a billing reading; nothing of an interval meter
volumes :
    (volume_read (whole 7) (whole 5) ≡ Some 7) × (volume_read (whole 0) (whole 5) ≡ Some 0) × (volume_read (hourly (9 ∷ [])) (whole 5) ≡ None)
    × (volume_read missing (whole 5) ≡ Some 5)
    × (volume_read missing (hourly (9 ∷ [])) ≡ None) × (volume_read missing missing ≡ None)
unfolding volume_read
volumes = (refl, refl, refl, refl, refl, refl)

-- open in February 2024, where row 1 holds a year, and the latest past month
abbrev after : ℕ → ℕ → Record
after year latest = with_past (fresh_record contract (on 2024 2)) (record { years = set (zeros 12) 1 year; latest = latest })

-- February 2023 goes before December 2023, number 24,288; a February of 2022 does not
pasts :
    (past_month (after 2023 24288) ≡ Some (on 2023 2)) × (past_month (after 2022 24288) ≡ Some (on 2023 12))
    × (past_month (after 2022 24266) ≡ Some (on 2022 2)) × (past_month (after 0 24289) ≡ Some (on 2024 1)) × (past_month (after 0 0) ≡ None)
unfolding past_month date_of
pasts = (refl, refl, refl, refl, refl)

unfoldable pub reason_definitions : Unit {0}
unfolding reasons_of clause_of volume_read past_month compared_in compared_by compared_past inputs measured_in stated_in past_in
    counted_of neighbour_of power_of
    open_hours month_hours month_days is_month leap_year date_of formula half_up peak_count capacity_sum portion taken spread shares_over stretched
reason_definitions = tt

-- marks, R, billing and control readings, N, past
abbrev pub inputs_with : List ℕ → ℕ → Measured → Measured → ℕ → PastHours → Inputs
inputs_with marks r b k n past =
    record { contract = contract; marks = marks; counted = r; billing = b; control = k; neighbour = n; past = past }

-- a past of 5 kWh; and C' of a day with one peak and capacity hour, hour 10
abbrev row : PastHours
row = Some (5 ∷ [])

abbrev marked : ℕ → List ℕ
marked m = set (zeros 24) 10 m

-- no C' with R 2, without peak hours, without a past, and with any other reading than K. Values of it are in the crate `whole_months`
sums :
    (compared_in (inputs_with (marked 3) 2 missing (whole 20) 4 row) ≡ None) × (compared_in (inputs_with (marked 2) 3 missing (whole 20) 4 row) ≡ None)
    × (compared_in (inputs_with (marked 3) 3 missing (whole 20) 4 None) ≡ None)
    × (compared_in (inputs_with (marked 3) 3 (whole 20) (whole 20) 4 row) ≡ None)
    × (compared_in (inputs_with (marked 3) 3 missing (hourly (5 ∷ [])) 4 row) ≡ None)
    × (compared_in (inputs_with (marked 3) 3 missing missing 4 row) ≡ None)
unfolding reason_definitions
sums = (refl, refl, refl, refl, refl, refl)

-- without a reading, in service, with two denials: R 3, whatever the run of 0
plain_answer :
    reasons_of (state (with_service (fresh_record contract (on 2023 1)) (with_denials fresh_service 2)) []) []
    ≡ record {
      clause = Some DeniedTwice;
      reading = None;
      neighbour = kwh 0;
      power = record { 0 = 3 };
      peaks = 0;
      run = 0;
      denials = 2;
      counted = 3;
      past = None;
      compared = None;
    }
unfolding reason_definitions
plain_answer = refl
