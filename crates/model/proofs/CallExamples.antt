-- What the calls leave and answer, and what an opening does, on values. By computation; assumes nothing.
use Prim.Native.Nat.{ℕ}
use mathlib.Core.Path.{◌≡◌, refl}
use mathlib.Core.Bool.{Bool, true, false}
use mathlib.Core.List.{List, [], ◌∷◌, ◌++◌}
use lib.ListN.{set, replicate}
use Rattle.std.specs.Prelude.{Option, None, Some}
use Rattle.numbers.specs.Lists.{at, zeros, padded}
use Rattle.numbers.specs.Rounding.{half_up}
use Rattle.calendar.specs.declared.Date.{Date}
use Rattle.calendar.specs.Calendar.{month_number, date_of, next_month}
use Rattle.sharing.specs.Shares.{portion, taken, spread, shares_over}
use Rattle.power.specs.Power.{power_on}
use Rattle.marks.specs.Marks.{first_day, working_days, capacity_sum, capacity_of}
use Rattle.contract.specs.Contract.{no_cable, kept, power_of}
use Rattle.record.specs.declared.Record.{Record}
use Rattle.record.specs.declared.Readings.{Readings}
use Rattle.record.specs.declared.Service.{Service}
use Rattle.record.specs.Record.{kwh, not_given, given_as, no_readings, zero_record, fresh_record, fresh_service}
use Rattle.record.specs.Record.{with_date, with_service, with_readings, with_past, with_denials}
use Rattle.record.specs.Record.{with_billing, with_control, with_first, with_second}
use Rattle.store.specs.Store.{put_row}
use Rattle.rules.specs.Calls.{Opening, MeterReading, billing_hours, control_hours, billing_volume, control_volume, neighbour}
use Rattle.rules.specs.Calls.{failure, admission, denial, permission, Call, read, report, closing, is_closing, marks_of, buffer_of}
use Rattle.rules.specs.Rules.{missing, hourly, whole, counted_of, neighbour_of, as_read, by_weights, evenly, by_contract, on_past, on_control, on_billing}
use Rattle.rules.specs.Rules.{rules, becomes_past, figures, no_figures}
use Rattle.model.specs.Model.{State, state, fault_within_year, after_failure, measured_in, stated_in, row_of, row_hours, last_year, past_month, past_in, inputs}
use Rattle.model.specs.Model.{past_after, run_after, rows_after, store_after, closed_with, after_reading, after_report, accept, refusal, accepted, leaves}
use Rattle.model.specs.declared.Answer.{Answer}
use Rattle.model.specs.Refusals.{wrong_day}
use Rattle.model.specs.Model.{figures_of, hours_out, only_day, refused_figures, answer, buffer_after}
use Rattle.model.specs.Opening.{opens, opened, open_leaves, open_answer}
use Rattle.model.proofs.Examples.{refusal_definitions, on, contract, point, served_so, out, denied, opening}
use Rattle.model.proofs.Examples.{lone_peaks, two_capacities, many_peaks}

unfoldable call_definitions : Unit {0}
unfolding refusal_definitions date_of accept after_reading after_report past_month past_in measured_in stated_in inputs counted_of neighbour_of
    closed_with becomes_past next_month padded put_row
call_definitions = tt

-- what a closing works out, and what a call is answered with
unfoldable answer_definitions : Unit {0}
unfolding call_definitions rules on_billing on_control on_past by_contract evenly by_weights as_read figures power_of half_up portion taken spread
    shares_over working_days capacity_sum capacity_of is_closing marks_of buffer_of refusal accepted leaves figures_of hours_out refused_figures
    wrong_day first_day answer buffer_after opens opened open_leaves open_answer kept power_on
answer_definitions = tt

-- FAULTS: at most 12 months back, and the same month; 0 is no fault, whatever the month
repeats :
    (fault_within_year 24277 24289 ≡ true) × (fault_within_year 24277 24290 ≡ false) × (fault_within_year 24277 24277 ≡ true)
    × (fault_within_year 0 24277 ≡ false)
    × (fault_within_year 0 12 ≡ false)
repeats = (refl, refl, refl, refl, refl)

abbrev faulted : ℕ → Service
faulted n = served_so 5 1 1 n

failures :
    (after_failure (faulted 24278) (on 2023 2) 1 ≡ served_so 0 0 1 24278)
    × (after_failure (faulted 24266) (on 2023 2) 2 ≡ served_so 0 0 1 24278)
    × (after_failure (faulted 24265) (on 2023 2) 1 ≡ served_so 5 0 1 24278)
    × (after_failure (faulted 0) (on 2023 2) 1 ≡ served_so 5 0 1 24278)
    × (after_failure (faulted 24277) (on 2023 2) 3 ≡ served_so 5 0 1 24277)
    × (after_failure (faulted 24277) (on 2023 2) 4 ≡ served_so 5 0 1 24277)
unfolding month_number
failures = (refl, refl, refl, refl, refl, refl)

-- DENIALS: the second discards the billing reading, the first does not; a permission leaves the run
abbrev metered : Record
metered = with_readings (point 2 2) (with_billing (point 2 2).readings (given_as 9))

denials :
    ((accept (state metered []) (report denial)).point ≡ with_service metered (with_denials fresh_service 1))
    × ((accept (state (denied 1 metered) []) (report denial)).point ≡ with_service (point 2 2) (with_denials fresh_service 2))
    × ((accept (state (with_service (point 2 2) (served_so 5 0 2 0)) []) (report permission)).point.service ≡ served_so 5 0 0 0)
unfolding call_definitions
denials = (refl, refl, refl)

abbrev every : Readings
every = record { billing = given_as 1; control = given_as 2; first = given_as 3; second = given_as 4 }

-- the first denial and a permission leave the billing reading, and the second denial the other readings
kept_readings :
    (accept (state (denied 1 metered) []) (report permission) ≡ state metered [])
    × ((accept (state metered (8 ∷ [])) (report denial)).store ≡ 8 ∷ [])
    × ((accept (state (with_readings (denied 1 (point 2 2)) every) []) (report denial)).point.readings ≡ with_billing every not_given)
unfolding call_definitions
kept_readings = (refl, refl, refl)

-- READINGS: hours go into their own row, 12 or 13, with 0 past their end and no volume; volumes touch no row
abbrev empty : List ℕ
empty = zeros 10416

abbrev after : Record → MeterReading → ℕ → ℕ
after r x k = at (accept (state r empty) (read x)).store k

rows :
    (after (point 1 1) (billing_hours (7 ∷ [])) 8928 ≡ 7) × (after (point 1 1) (billing_hours (7 ∷ [])) 8929 ≡ 0)
    × (after (point 1 1) (billing_hours (7 ∷ [])) 9672 ≡ 0)
    × (after (point 1 1) (control_hours (7 ∷ [])) 9672 ≡ 7) × (after (point 1 1) (control_hours (7 ∷ [])) 8928 ≡ 0)
    × ((accept (state (point 1 1) []) (read (billing_hours (7 ∷ [])))).point ≡ with_readings (point 1 1) (with_billing (point 1 1).readings (given_as 0)))
    × ((accept (state (point 1 1) []) (read (control_hours (7 ∷ [])))).point ≡ with_readings (point 1 1) (with_control (point 1 1).readings (given_as 0)))
unfolding call_definitions
rows = (refl, refl, refl, refl, refl, refl, refl)

volumes :
    (accept (state (point 2 2) []) (read (billing_volume 9)) ≡ state metered [])
    × (accept (state (point 2 2) []) (read (control_volume 9)) ≡ state (with_readings (point 2 2) (with_control (point 2 2).readings (given_as 9))) [])
    × (accept (state (point 2 2) []) (read (neighbour 1 9)) ≡ state (with_readings (point 2 2) (with_first (point 2 2).readings (given_as 9))) [])
    × (accept (state (point 2 2) []) (read (neighbour 2 9)) ≡ state (with_readings (point 2 2) (with_second (point 2 2).readings (given_as 9))) [])
unfolding call_definitions
volumes = (refl, refl, refl, refl)

-- a point with these readings, and a store of a word
abbrev beside : Readings → State
beside g = state (with_readings (point 2 2) g) (8 ∷ [])

-- each reading replaces its own, and leaves the others and the store
own_place :
    (accept (beside every) (read (billing_volume 9)) ≡ beside (with_billing every (given_as 9)))
    × (accept (beside every) (read (control_volume 9)) ≡ beside (with_control every (given_as 9)))
    × (accept (beside every) (read (neighbour 1 2)) ≡ beside (with_first every (given_as 2)))
    × (accept (beside every) (read (neighbour 2 1)) ≡ beside (with_second every (given_as 1)))
unfolding call_definitions
own_place = (refl, refl, refl, refl)

-- a failure discards the reading, its volume and row 12; an admission puts back in service and leaves all else
discards :
    ((accept (state metered []) (report (failure 3))).point ≡ out (point 2 2))
    × (at (accept (state metered (set empty 8928 7)) (report (failure 3))).store 8928 ≡ 0)
    × (at (accept (state metered (set empty 9672 7)) (report (failure 3))).store 9672 ≡ 7)
    × (accept (state (out metered) []) (report admission) ≡ state metered [])
unfolding call_definitions
discards = (refl, refl, refl, refl)

-- a failure and a reading of billing hours leave row 11 and row 13 as they are, and one of control hours row 12
own_rows :
    (at (accept (state metered (set empty 8927 7)) (report (failure 1))).store 8927 ≡ 7)
    × (at (accept (state (point 1 1) (set empty 8927 7)) (read (billing_hours (5 ∷ [])))).store 8927 ≡ 7)
    × (at (accept (state (point 1 1) (set empty 9672 7)) (read (billing_hours (5 ∷ [])))).store 9672 ≡ 7)
    × (at (accept (state (point 1 1) (set empty 9671 7)) (read (control_hours (5 ∷ [])))).store 9671 ≡ 7)
    × (at (accept (state (point 1 1) (set empty 8929 7)) (read (billing_hours (5 ∷ [])))).store 8929 ≡ 0)
unfolding call_definitions
own_rows = (refl, refl, refl, refl, refl)

-- THE PAST: no row of January 2014 holds 2013; a row of two years ago is no past but as the latest; last year's row goes before the latest,
-- with last year's hours
abbrev filled : Date → List ℕ → ℕ → State
filled d years latest = state (with_past (with_date (point 1 2) d) (record { years = years; latest = latest })) (replicate 744 1 ++ replicate 744 2)

pasts :
    (past_in (filled (on 2014 1) (zeros 12) 0) ≡ None) × (past_in (filled (on 2025 2) (set (zeros 12) 1 2023) 0) ≡ None)
    × (past_in (filled (on 2025 2) (set (zeros 12) 1 2023) 24278) ≡ Some (replicate 672 2))
    × (past_in (filled (on 2025 2) (set (set (zeros 12) 1 2024) 0 2025) 24301) ≡ Some (replicate 696 2))
    × (past_in (filled (on 2025 2) (set (zeros 12) 0 2025) 24301) ≡ Some (replicate 744 1))
unfolding call_definitions
pasts = (refl, refl, refl, refl, refl)

-- the row of a month, its hours, and the month a year before
own_row :
    (row_of (on 2024 1) ≡ 0)
    × (row_of (on 2024 12) ≡ 11)
    × (last_year (on 2024 3) ≡ on 2023 3)
    × (last_year (on 2014 1) ≡ on 2013 1)
    × (row_hours (filled (on 2025 1) (zeros 12) 0) (on 2023 2) ≡ replicate 672 2)
    × (row_hours (filled (on 2025 1) (zeros 12) 0) (on 2023 1) ≡ replicate 744 1)
unfolding call_definitions
own_row = (refl, refl, refl, refl, refl, refl)

abbrev past_of : Date → List ℕ → ℕ → Option Date
past_of d years latest = past_month (filled d years latest).point

-- the month that is the past: last year's where its row holds that year, else the latest, and none where there is no latest
past_months :
    (past_of (on 2025 2) (set (zeros 12) 1 2024) 24301 ≡ Some (on 2024 2))
    × (past_of (on 2025 2) (set (zeros 12) 1 2023) 24278 ≡ Some (on 2023 2))
    × (past_of (on 2025 12) (set (zeros 12) 11 2024) 24312 ≡ Some (on 2024 12))
    × (past_of (on 2025 2) (set (zeros 12) 11 2024) 24300 ≡ Some (on 2024 12))
    × (past_of (on 2025 2) (set (zeros 12) 0 2024) 0 ≡ None)
unfolding call_definitions
past_months = (refl, refl, refl, refl, refl)

-- WHAT COUNTS: a reading that is given counts as the hours of its row with an interval meter, and as its volume with an integral one
readings :
    (measured_in 1 (given_as 0) (7 ∷ []) ≡ hourly (7 ∷ []))
    × (measured_in 2 (given_as 9) (7 ∷ []) ≡ whole 9)
    × (measured_in 2 (given_as 0) (7 ∷ []) ≡ whole 0)
    × (measured_in 1 not_given (7 ∷ []) ≡ missing)
    × (measured_in 2 not_given (7 ∷ []) ≡ missing)
    × (stated_in (given_as 9) ≡ Some 9)
    × (stated_in (given_as 0) ≡ Some 0)
    × (stated_in not_given ≡ None)
unfolding call_definitions
readings = (refl, refl, refl, refl, refl, refl, refl, refl)

-- 672 hours of 7 of the billing meter, or of 8 of the control meter, in a row that goes on with the same
abbrev billed : List ℕ
billed = zeros 8928 ++ replicate 744 7

abbrev controlled : List ℕ
controlled = zeros 9672 ++ replicate 744 8

-- billing hours, a control volume and the second neighbour reading, with a run of 5; and control hours, both neighbour readings and last year's
-- row, with denials 2
abbrev with_run_5 : Record
with_run_5 =
    with_readings (with_service (point 1 2) (served_so 5 1 1 0))
    (record { billing = given_as 0; control = given_as 20; first = not_given; second = given_as 4 })

abbrev denied_twice : Record
denied_twice =
    with_past (with_readings (with_service (point 2 1) (served_so 0 1 2 0))
    (record { billing = not_given; control = given_as 0; first = given_as 3; second = given_as 4 }))
    (record { years = set (zeros 12) 1 2022; latest = 24266 })

-- each counts from its own place
counts :
    (inputs (state with_run_5 billed) (1 ∷ 2 ∷ [])
    ≡ record {
      contract = contract 1 2;
      marks = 1 ∷ 2 ∷ [];
      counted = 6;
      billing = hourly (replicate 672 7);
      control = whole 20;
      neighbour = 4;
      past = None;
    })
    × (inputs (state denied_twice controlled) []
    ≡ record {
      contract = contract 2 1;
      marks = [];
      counted = 3;
      billing = missing;
      control = hourly (replicate 672 8);
      neighbour = 3;
      past = Some (zeros 672);
    })
unfolding call_definitions
counts = (refl, refl)

-- A CLOSING of December 2024 with a volume of 7, all in its first hour: on ground 1 the month becomes the past and the run is 0; on ground
-- 7 neither, and the run grows. The total grows, the readings and row 12 clear, January 2025 opens
abbrev december : ℕ → List ℕ → ℕ → Record
december run years latest =
    with_past (with_service (with_date (point 1 2) (on 2024 12)) (served_so run 1 1 0))
    (record { years = years; latest = latest })

abbrev ended : ℕ → State
ended g =
    closed_with (record { ground = g; hours = 7 ∷ []; exact = λ h. record { top = 7; bottom = 1 }; volume = 7 })
    (state (with_readings (december 5 (zeros 12) 0) (with_billing no_readings (given_as 0))) (set empty 8928 9))

abbrev begun : ℕ → List ℕ → ℕ → Record
begun run years latest =
    record {
      opened = 1;
      contract = contract 1 2;
      date = on 2025 1;
      service = served_so run 1 1 0;
      past = record { years = years; latest = latest };
      readings = no_readings;
      total = record { 0 = 7 };
    }

closings :
    ((ended 1).point ≡ begun 0 (set (zeros 12) 11 2024) 24300) × ((ended 7).point ≡ begun 6 (zeros 12) 0)
    × (at (ended 1).store 8184 ≡ 7) × (at (ended 7).store 8184 ≡ 0) × (at (ended 1).store 8928 ≡ 0) × (at (ended 7).store 8928 ≡ 0)
unfolding call_definitions
closings = (refl, refl, refl, refl, refl, refl)

-- of a closing on ground 1 or 2 and of another: the past, the run and the rows
parts_after :
    (past_after true (record { years = replicate 12 2020; latest = 5 }) (on 2024 1) ≡ record { years = set (replicate 12 2020) 0 2024; latest = 24289 })
    × (past_after true (record { years = zeros 12; latest = 5 }) (on 2024 12) ≡ record { years = set (zeros 12) 11 2024; latest = 24300 })
    × (past_after false (record { years = replicate 12 2020; latest = 5 }) (on 2024 1) ≡ record { years = replicate 12 2020; latest = 5 })
    × (run_after true 5 ≡ 0)
    × (run_after false 5 ≡ 6)
    × (run_after false 0 ≡ 1)
    × (at (rows_after true (7 ∷ []) (on 2024 1) empty) 0 ≡ 7)
    × (at (rows_after true (7 ∷ []) (on 2024 2) empty) 744 ≡ 7)
    × (rows_after false (7 ∷ []) (on 2024 1) (8 ∷ []) ≡ 8 ∷ [])
unfolding call_definitions
parts_after = (refl, refl, refl, refl, refl, refl, refl, refl, refl)

-- words in row 11, at both ends of rows 12 and 13, and in row 0
abbrev worded : List ℕ
worded = set (set (set (set (set (set empty 8927 1) 8928 2) 9671 3) 9672 4) 10415 5) 0 6

abbrev left : Bool → ℕ → ℕ
left new k = at (store_after new (7 ∷ []) (on 2024 2) worded) k

-- rows 12 and 13 clear, and of the others only the row of the month changes
rows_clear :
    (left true 8928 ≡ 0)
    × (left true 9671 ≡ 0)
    × (left true 9672 ≡ 0)
    × (left true 10415 ≡ 0)
    × (left true 8927 ≡ 1)
    × (left true 0 ≡ 6)
    × (left true 744 ≡ 7)
    × (left false 9672 ≡ 0)
    × (left false 744 ≡ 0)
unfolding call_definitions
rows_clear = (refl, refl, refl, refl, refl, refl, refl, refl, refl)

-- a closing with a volume of 30 kWh, of a point with a total of 12
abbrev totalled : ℕ → Record
totalled v = record (point 1 2) { total = kwh v }

abbrev grown : ℕ → Record
grown g =
    (closed_with (record { ground = g; hours = []; exact = λ h. record { top = 0; bottom = 1 }; volume = 30 }) (state (totalled 12) [])).point

-- the volume comes to the total that there was, on every ground; ground 2 too makes a past
totals :
    (grown 9 ≡ record (totalled 42) { date = on 2023 3; service = served_so 1 1 0 0 })
    × (grown 2 ≡ record (totalled 42) { date = on 2023 3; past = record { years = set (zeros 12) 1 2023; latest = 24278 } })
unfolding call_definitions
totals = (refl, refl)

-- CALLS. Closings of a month of two hours: on ground 1, with 7 kWh read in the first, and on ground 8, 100 kWh in each. The marks are of 2 hours,
-- the hour buffer has 3 words
abbrev shut : Call
shut = closing (0 ∷ 0 ∷ []) (9 ∷ 9 ∷ 9 ∷ [])

abbrev with_hours_read : State
with_hours_read = state (with_readings (point 1 2) (with_billing no_readings (given_as 0))) (zeros 8928 ++ (7 ∷ []))

abbrev without_reading : State
without_reading = state (point 1 2) []

abbrev march : Record
march = fresh_record (contract 1 2) (on 2023 3)

-- the hours and the volume are those of the rules, and the buffer that is handed in counts for nothing
closes :
    ((accept with_hours_read shut).point ≡ record march { past = record { years = set (zeros 12) 1 2023; latest = 24278 }; total = kwh 7 })
    × ((accept without_reading shut).point ≡ record march { service = served_so 1 1 0 0; total = kwh 200 })
    × (at (accept with_hours_read shut).store 744 ≡ 7)
    × (hours_out with_hours_read shut ≡ 7 ∷ zeros 743)
    × (hours_out without_reading shut ≡ 100 ∷ 100 ∷ zeros 742)
    × (hours_out without_reading (report denial) ≡ [])
    × (hours_out without_reading (read (billing_hours (7 ∷ []))) ≡ [])
unfolding answer_definitions
closes = (refl, refl, refl, refl, refl, refl, refl)

-- a day with a capacity hour, its second; and two hours read
abbrev day : List ℕ
day = 0 ∷ 2 ∷ zeros 22

abbrev two_hours_read : State
two_hours_read = state with_hours_read.point (zeros 8928 ++ (5 ∷ 7 ∷ []))

-- C is the 7 kWh read in that hour, or 100 on ground 8; a call that is no closing has no figures
figured :
    (figures_of two_hours_read (closing day [])
    ≡ record { ground = 1; volume = kwh 12; capacity = record { 0 = 7 }; sum = kwh 7; days = 1; wrong_day = 0 })
    × (figures_of without_reading (closing day (0 ∷ 0 ∷ []))
    ≡ record { ground = 8; volume = kwh 2400; capacity = record { 0 = 100 }; sum = kwh 100; days = 1; wrong_day = 0 })
    × (figures_of without_reading (report denial) ≡ no_figures)
    × (figures_of with_hours_read (read (billing_hours [])) ≡ no_figures)
unfolding answer_definitions
figured = (refl, refl, refl, refl)

-- a point with its whole store
abbrev whole_store : Record → State
whole_store r = state r empty

-- the number of a call: anyone's before its own; accepted is 0 and no other
numbered :
    (refusal without_reading (report permission) ≡ 1)
    × (refusal (whole_store zero_record) (report permission) ≡ 2)
    × (refusal (whole_store (with_date (point 1 2) (on 3000 1))) (report permission) ≡ 3)
    × (refusal (whole_store (point 1 2)) (report permission) ≡ 34)
    × (refusal (whole_store (point 1 2)) (report denial) ≡ 0)
    × (refusal (whole_store (point 1 2)) (read (billing_volume 5)) ≡ 20)
    × (accepted without_reading (report denial) ≡ false)
    × (accepted (whole_store (point 1 2)) (report permission) ≡ false)
    × (accepted (whole_store (point 1 2)) (report denial) ≡ true)
unfolding answer_definitions
numbered = (refl, refl, refl, refl, refl, refl, refl, refl, refl)

-- a point with a store of a word, on which number 1 refuses every call
abbrev refused_on : State
refused_on = state metered (7 ∷ [])

-- a refused call leaves record, store and hour buffer, and answers its number and the record, without figures
refused_calls :
    (leaves refused_on (report denial) ≡ refused_on)
    × (leaves refused_on shut ≡ refused_on)
    × ((leaves (whole_store metered) (report permission)).point ≡ metered)
    × (answer refused_on shut ≡ record { refusal = 1; after = metered; figures = no_figures })
    × (answer (whole_store metered) (report permission) ≡ record { refusal = 34; after = metered; figures = no_figures })
    × (buffer_after refused_on shut ≡ 9 ∷ 9 ∷ 9 ∷ [])
    × (buffer_after refused_on (report denial) ≡ [])
unfolding answer_definitions
refused_calls = (refl, refl, refl, refl, refl, refl, refl)

-- WHICH DAY: closings of February 2023, which begins with some days and ends with one more
abbrev closing_with : List ℕ → List ℕ → Answer
closing_with first last = answer (whole_store (point 1 2)) (closing (padded 648 first ++ last) (9 ∷ []))

abbrev refused_on_day : ℕ → ℕ → Answer
refused_on_day number day = record { refusal = number; after = point 1 2; figures = only_day day }

-- 42 on the last day before 43 and 46 on earlier ones; 43 on day 2 before 46 on day 1; 46 on the last day and on the first, before 44; with 44 no day
refused_days :
    (closing_with (lone_peaks ++ two_capacities) many_peaks ≡ refused_on_day 42 28)
    × (closing_with (lone_peaks ++ two_capacities) two_capacities ≡ refused_on_day 43 2)
    × (closing_with [] lone_peaks ≡ refused_on_day 46 28)
    × (closing_with lone_peaks lone_peaks ≡ refused_on_day 46 1)
    × (closing_with [] (zeros 24) ≡ refused_on_day 44 0)
unfolding answer_definitions
refused_days = (refl, refl, refl, refl, refl)

abbrev hours_of : ℕ → List ℕ
hours_of n = replicate n 7

-- an accepted one leaves what it makes of them
accepted_calls :
    ((leaves (whole_store metered) (report denial)).point ≡ denied 1 metered)
    × (at (leaves (whole_store (point 1 2)) (read (billing_hours (hours_of 672)))).store 9599 ≡ 7)
    × (answer (whole_store metered) (report denial) ≡ record { refusal = 0; after = denied 1 metered; figures = no_figures })
    × (buffer_after (whole_store metered) (report denial) ≡ [])
    × (buffer_after (whole_store (point 1 2)) (read (billing_hours (hours_of 672))) ≡ [])
unfolding answer_definitions
accepted_calls = (refl, refl, refl, refl, refl)

-- OPENING: 100 kW agreed, February 2023, and the same with a month that there is not
abbrev asked : ℕ → Opening
asked m = opening 2023 m 1 2 1 100 no_cable [] 0

abbrev used : List ℕ
used = replicate 10416 7

-- opening clears the store: in service, the named month open, all else 0 or missing; refused, it returns zeros, not open, and leaves the store
openings :
    (opens (asked 2) used ≡ true)
    × (opens (asked 13) used ≡ false)
    × (opens (asked 2) [] ≡ false)
    × ((opened (asked 2)).point
    ≡ record {
      opened = 1;
      contract = contract 1 2;
      date = on 2023 2;
      service = served_so 0 1 0 0;
      past = record { years = zeros 12; latest = 0 };
      readings = no_readings;
      total = kwh 0;
    })
    × ((open_leaves (asked 2) used).point ≡ point 1 2)
    × (at (open_leaves (asked 2) used).store 0 ≡ 0)
    × (at (open_leaves (asked 2) used).store 10415 ≡ 0)
    × (at (open_leaves (asked 13) used).store 10415 ≡ 7)
    × (open_leaves (asked 2) (7 ∷ []) ≡ state zero_record (7 ∷ []))
    × ((open_leaves (asked 13) used).point ≡ zero_record)
    × (open_answer (asked 2) used ≡ record { refusal = 0; after = point 1 2; figures = no_figures })
    × (open_answer (asked 13) used ≡ record { refusal = 10; after = zero_record; figures = no_figures })
    × (open_answer (asked 13) [] ≡ record { refusal = 1; after = zero_record; figures = no_figures })
unfolding answer_definitions
openings = (refl, refl, refl, refl, refl, refl, refl, refl, refl, refl, refl, refl, refl)
