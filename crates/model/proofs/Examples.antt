-- The refusals number by number, on values. By computation; assumes nothing.
use Prim.Native.Nat.{ℕ}
use mathlib.Core.Path.{◌≡◌, refl}
use mathlib.Core.Bool.{true, false}
use mathlib.Core.List.{List, [], ◌∷◌, ◌++◌}
use lib.ListN.{set, replicate}
use Rattle.numbers.specs.Lists.{zeros, none_above}
use Rattle.calendar.specs.declared.Date.{Date}
use Rattle.calendar.specs.Calendar.{leap_year, is_month, month_days, month_hours, open_hours, month_number}
use Rattle.numbers.specs.Rounding.{half_up}
use Rattle.sharing.specs.Shares.{portion, taken, spread, shares_over}
use Rattle.power.specs.declared.Cable.{Cable}
use Rattle.power.specs.Power.{formula, cable_fits, agreed_fits, list_fits, shared_power, power_on}
use Rattle.marks.specs.Marks.{high, crowded, doubled, unmatched, first_day}
use Rattle.contract.specs.declared.Contract.{Contract}
use Rattle.contract.specs.Contract.{no_cable, kept}
use Rattle.record.specs.declared.Record.{Record}
use Rattle.record.specs.declared.Readings.{Readings}
use Rattle.record.specs.declared.Service.{Service}
use Rattle.record.specs.Record.{given_as, no_readings, zero_record, fresh_record, with_contract, with_date, with_service, with_readings}
use Rattle.record.specs.Record.{with_serving, with_denials, with_billing, with_control, with_first, with_second}
use Rattle.validity.specs.Valid.{volume_limit, valid}
use Rattle.store.specs.Store.{store_fits}
use Rattle.rules.specs.Calls.{Opening, MeterReading, billing_hours, control_hours, billing_volume, control_volume, neighbour}
use Rattle.rules.specs.Calls.{Report, failure, admission, denial, permission, read, report, closing}
use Rattle.model.specs.Refusals.{refuse, refuse_anyone, refuse_reading, reading_number, report_number, own_refusal, open_refusal}
use Rattle.model.specs.Refusals.{wrong_day, is_barred, not_month, hour_above, volume_above, source_given, is_source, is_reason}

unfoldable pub refusal_definitions : Unit {0}
unfolding refuse reading_number report_number own_refusal open_refusal valid volume_limit none_above store_fits is_month month_days month_hours
    open_hours leap_year month_number cable_fits agreed_fits list_fits high crowded doubled unmatched
refusal_definitions = tt

abbrev pub on : ℕ → ℕ → Date
on y m = record { year = y; month = m }

-- meters, 100 kW agreed, open in February 2023, T 672
abbrev pub contract : ℕ → ℕ → Contract
contract b k = record { billing = b; control = k; basis = 1; power = record { 0 = 100 }; cable = no_cable }

abbrev pub point : ℕ → ℕ → Record
point b k = fresh_record (contract b k) (on 2023 2)

-- run, in service or not, denials, month of the last fault
abbrev pub served_so : ℕ → ℕ → ℕ → ℕ → Service
served_so run serving denials fault = record { run = run; serving = serving; denials = denials; fault = fault }

-- ANYONE: 1 before 2 before 3 before the call's own
any_number :
    (refuse_anyone 10415 zero_record 20 ≡ 1) × (refuse_anyone 10417 (point 1 2) 20 ≡ 1) × (refuse_anyone 10416 zero_record 20 ≡ 2)
    × (refuse_anyone 10416 (with_date (point 1 2) (on 3000 2)) 20 ≡ 2)
    × (refuse_anyone 10416 (with_date (point 1 2) (on 3000 1)) 20 ≡ 3) × (refuse_anyone 10416 (with_date (point 1 2) (on 2999 12)) 20 ≡ 20)
    × (refuse_anyone 10416 (point 1 2) 0 ≡ 0)
unfolding refusal_definitions
any_number = (refl, refl, refl, refl, refl, refl, refl)

-- a test that holds gives its number, and else the rest of the list has its say
first_number :
    (refuse true 5 7 ≡ 5)
    × (refuse false 5 7 ≡ 7)
    × (refuse true 5 0 ≡ 5)
    × (refuse false 5 0 ≡ 0)
unfolding refuse
first_number = (refl, refl, refl, refl)

-- OPENING
abbrev pub opening : ℕ → ℕ → ℕ → ℕ → ℕ → ℕ → Cable → List ℕ → ℕ → Opening
opening y m b k basis p cable currents place =
    record {
      asked = record { billing = b; control = k; basis = basis; power = record { 0 = p }; cable = cable };
      date = on y m;
      currents = currents;
      place = place;
    }

abbrev cable : ℕ → ℕ → ℕ → ℕ → Cable
cable i u c f = record { amperes = i; volts = u; cosine = c; phases = f }

-- a bad cable, list and place are nothing to basis 1; two numbers that apply give the lower one
opening_numbers :
    (open_refusal 10415 (opening 2013 1 0 3 0 0 no_cable [] 0) ≡ 1) × (open_refusal 10416 (opening 2013 12 0 0 1 100 no_cable [] 0) ≡ 10)
    × (open_refusal 10416 (opening 3000 1 1 0 1 100 no_cable [] 0) ≡ 10) × (open_refusal 10416 (opening 2023 0 1 0 1 100 no_cable [] 0) ≡ 10)
    × (open_refusal 10416 (opening 2023 1 0 0 0 100 no_cable [] 0) ≡ 11) × (open_refusal 10416 (opening 2023 1 3 0 1 100 no_cable [] 0) ≡ 11)
    × (open_refusal 10416 (opening 2023 1 1 3 1 100 no_cable [] 0) ≡ 11) × (open_refusal 10416 (opening 2023 1 1 0 0 100 no_cable [] 0) ≡ 12)
    × (open_refusal 10416 (opening 2023 1 1 0 4 100 no_cable [] 0) ≡ 12) × (open_refusal 10416 (opening 2023 1 1 0 1 0 no_cable [] 0) ≡ 12)
    × (open_refusal 10416 (opening 2023 1 1 0 2 1000001 no_cable [] 0) ≡ 12) × (open_refusal 10416 (opening 2023 1 1 0 3 0 (cable 0 230 900 1) [] 0) ≡ 13)
    × (open_refusal 10416 (opening 2023 1 1 0 2 100 no_cable [] 0) ≡ 14)
    × (open_refusal 10416 (opening 2023 1 1 0 2 100 no_cable (replicate 65 1) 0) ≡ 14)
    × (open_refusal 10416 (opening 2023 1 1 0 2 100 no_cable (1 ∷ 2001 ∷ []) 0) ≡ 14)
    × (open_refusal 10416 (opening 2023 1 1 0 2 100 no_cable (1 ∷ 0 ∷ []) 0) ≡ 14)
    × (open_refusal 10416 (opening 2023 1 1 0 2 100 no_cable (1 ∷ 1 ∷ []) 2) ≡ 14)
    × (open_refusal 10416 (opening 2023 1 1 0 2 100 no_cable (1 ∷ 1 ∷ []) 1) ≡ 0)
    × (open_refusal 10416 (opening 2014 1 1 0 1 1000000 (cable 0 0 0 9) [] 7) ≡ 0)
    × (open_refusal 10416 (opening 2999 12 1 2 3 0 (cable 2000 250000 0 3) [] 0) ≡ 0)
unfolding refusal_definitions
opening_numbers = (refl, refl, refl, refl, refl, refl, refl, refl, refl, refl, refl, refl, refl, refl, refl, refl, refl, refl, refl, refl)

-- each limit of an opening from its inner side, and number 1 for a store of a word too many
opening_limits :
    (open_refusal 10417 (opening 2023 1 1 0 1 100 no_cable [] 0) ≡ 1)
    × (open_refusal 10416 (opening 2014 1 1 0 1 1 no_cable [] 0) ≡ 0)
    × (open_refusal 10416 (opening 2999 12 2 1 1 100 no_cable [] 0) ≡ 0)
    × (open_refusal 10416 (opening 2023 13 1 0 1 100 no_cable [] 0) ≡ 10)
    × (open_refusal 10416 (opening 2023 1 1 2 2 1 no_cable (2000 ∷ []) 0) ≡ 0)
    × (open_refusal 10416 (opening 2023 1 1 2 2 1000000 no_cable (replicate 64 1) 63) ≡ 0)
    × (open_refusal 10416 (opening 2023 1 1 2 2 0 no_cable (replicate 64 1) 63) ≡ 12)
    × (open_refusal 10416 (opening 2023 1 1 2 1 1000001 no_cable [] 0) ≡ 12)
    × (open_refusal 10416 (opening 2023 1 1 2 2 1000000 no_cable (replicate 64 1) 64) ≡ 14)
    × (open_refusal 10416 (opening 2023 1 1 2 3 0 (cable 1 1 1000 1) [] 0) ≡ 0)
    × (open_refusal 10416 (opening 2023 1 1 2 3 0 (cable 1 1 1001 1) [] 0) ≡ 13)
    × (open_refusal 10416 (opening 2023 1 1 2 3 0 (cable 1 1 900 2) [] 0) ≡ 13)
unfolding refusal_definitions power_on
opening_limits = (refl, refl, refl, refl, refl, refl, refl, refl, refl, refl, refl, refl)

-- an integral billing meter on basis 1: 669 kW passes and 670 do not, whatever the control meter is
integral_agreed :
    (open_refusal 10416 (opening 2023 1 2 0 1 669 no_cable [] 0) ≡ 0)
    × (open_refusal 10416 (opening 2023 1 2 0 1 670 no_cable [] 0) ≡ 15)
    × (open_refusal 10416 (opening 2023 1 2 1 1 669 no_cable [] 0) ≡ 0)
    × (open_refusal 10416 (opening 2023 1 2 1 1 670 no_cable [] 0) ≡ 15)
    × (open_refusal 10416 (opening 2023 1 2 2 1 1 no_cable [] 0) ≡ 0)
    × (open_refusal 10416 (opening 2023 1 2 2 1 1000000 no_cable [] 0) ≡ 15)
    × (open_refusal 10416 (opening 2023 1 1 0 1 670 no_cable [] 0) ≡ 0)
    × (open_refusal 10416 (opening 2023 1 1 1 1 670 no_cable [] 0) ≡ 0)
    × (open_refusal 10416 (opening 2023 1 1 2 1 1000000 no_cable [] 0) ≡ 0)
unfolding refusal_definitions power_on
integral_agreed = (refl, refl, refl, refl, refl, refl, refl, refl, refl)

-- on basis 2 it is the share: of 1,339 kW by two equal cables 670 for the first and 669 for the other, and of 10,000 by 64 no more than 157
integral_shared :
    (open_refusal 10416 (opening 2023 1 2 0 2 1339 no_cable (1 ∷ 1 ∷ []) 0) ≡ 15)
    × (open_refusal 10416 (opening 2023 1 2 0 2 1339 no_cable (1 ∷ 1 ∷ []) 1) ≡ 0)
    × (open_refusal 10416 (opening 2023 1 2 0 2 669 no_cable (7 ∷ []) 0) ≡ 0)
    × (open_refusal 10416 (opening 2023 1 2 0 2 670 no_cable (7 ∷ []) 0) ≡ 15)
    × (open_refusal 10416 (opening 2023 1 2 0 2 10000 no_cable (replicate 64 1) 63) ≡ 0)
    × (open_refusal 10416 (opening 2023 1 1 0 2 1339 no_cable (1 ∷ 1 ∷ []) 0) ≡ 0)
unfolding refusal_definitions power_on shared_power shares_over spread taken portion half_up
integral_shared = (refl, refl, refl, refl, refl, refl)

-- on basis 3 the formula at t = 1: 1339 × 250 × 1000 / 500,000 is 669.5 and counts as 670, and 15 × 22,339 × 999 / 500,000 is just below; with one
-- phase the same of three times as many volts
integral_cabled :
    (open_refusal 10416 (opening 2023 1 2 0 3 0 (cable 1339 250 1000 3) [] 0) ≡ 15)
    × (open_refusal 10416 (opening 2023 1 2 0 3 0 (cable 15 22339 999 3) [] 0) ≡ 0)
    × (open_refusal 10416 (opening 2023 1 2 0 3 0 (cable 1339 750 1000 1) [] 0) ≡ 15)
    × (open_refusal 10416 (opening 2023 1 2 0 3 0 (cable 15 67017 999 1) [] 0) ≡ 0)
    × (open_refusal 10416 (opening 2023 1 2 0 3 670 (cable 100 230 0 3) [] 0) ≡ 0)
    × (open_refusal 10416 (opening 2023 1 1 0 3 0 (cable 1339 250 1000 3) [] 0) ≡ 0)
unfolding refusal_definitions power_on formula half_up
integral_cabled = (refl, refl, refl, refl, refl, refl)

-- 1 and 10 to 14 come before 15, where P is 670 kW or more by what is asked for; the last place has no share
before_15 :
    (open_refusal 10415 (opening 2023 1 2 0 1 1000000 no_cable [] 0) ≡ 1)
    × (open_refusal 10416 (opening 2023 0 2 0 1 1000000 no_cable [] 0) ≡ 10)
    × (open_refusal 10416 (opening 2023 1 2 3 1 1000000 no_cable [] 0) ≡ 11)
    × (open_refusal 10416 (opening 2023 1 2 0 1 1000001 no_cable [] 0) ≡ 12)
    × (open_refusal 10416 (opening 2023 1 2 0 0 1000000 (cable 2000 250000 1000 3) [] 0) ≡ 12)
    × (open_refusal 10416 (opening 2023 1 2 0 3 1000000 (cable 2000 250000 1000 2) [] 0) ≡ 13)
    × (open_refusal 10416 (opening 2023 1 2 0 2 1000000 no_cable (1 ∷ 2001 ∷ []) 1) ≡ 14)
    × (open_refusal 10416 (opening 2023 1 2 0 2 1000000 no_cable (replicate 65 1) 0) ≡ 14)
    × (open_refusal 10416 (opening 2023 1 2 0 2 1000000 no_cable (1 ∷ []) 1) ≡ 14)
unfolding refusal_definitions
before_15 = (refl, refl, refl, refl, refl, refl, refl, refl, refl)

-- what is kept: P on basis 1 and 2, with a share of 0 too, the cable alone on basis 3
opening_keeps :
    (kept (opening 2023 1 1 0 1 100 (cable 5 5 5 1) (9 ∷ []) 3).asked (9 ∷ []) 3 ≡ contract 1 0)
    × ((kept (opening 2023 1 1 0 2 1 no_cable [] 0).asked (1 ∷ 1 ∷ []) 0).power.0 ≡ 1)
    × ((kept (opening 2023 1 1 0 2 1 no_cable [] 0).asked (1 ∷ 1 ∷ []) 1).power.0 ≡ 0)
    × ((kept (opening 2023 1 1 0 3 77 (cable 100 230 0 3) [] 0).asked [] 0).power.0 ≡ 0)
    × ((kept (opening 2023 1 1 0 3 77 (cable 100 230 0 3) [] 0).asked [] 0).cable ≡ cable 100 230 0 3)
unfolding kept power_on shared_power shares_over spread taken portion half_up
opening_keeps = (refl, refl, refl, refl, refl)

-- METER READERS
-- the lowest of 20 to 24 whose test holds, 0 where none does
reading_order :
    (refuse_reading true true true true true ≡ 20)
    × (refuse_reading false true true true true ≡ 21)
    × (refuse_reading false false true true true ≡ 22)
    × (refuse_reading false false false true true ≡ 23)
    × (refuse_reading false false false false true ≡ 24)
    × (refuse_reading false false false false false ≡ 0)
unfolding refuse
reading_order = (refl, refl, refl, refl, refl, refl)

-- barred is out of service or denials 2, whatever the run
barred :
    (is_barred (served_so 0 1 0 0) ≡ false)
    × (is_barred (served_so 2 1 1 0) ≡ false)
    × (is_barred (served_so 0 1 2 0) ≡ true)
    × (is_barred (served_so 0 0 0 0) ≡ true)
    × (is_barred (served_so 1 0 1 0) ≡ true)
barred = (refl, refl, refl, refl, refl)

-- T of February is 672 hours, and 696 in a leap year; an hour may be 1,000,000, and a volume T × 1,000,000
limits :
    (not_month (point 1 2) (replicate 671 0) ≡ true)
    × (not_month (point 1 2) (replicate 672 0) ≡ false)
    × (not_month (point 1 2) (replicate 673 0) ≡ true)
    × (not_month (with_date (point 1 2) (on 2024 2)) (replicate 696 0) ≡ false)
    × (hour_above (0 ∷ 1000000 ∷ []) ≡ false)
    × (hour_above (0 ∷ 1000001 ∷ []) ≡ true)
    × (hour_above [] ≡ false)
    × (volume_above (point 1 2) 672000000 ≡ false)
    × (volume_above (point 1 2) 672000001 ≡ true)
    × (volume_above (with_date (point 1 2) (on 2024 2)) 696000000 ≡ false)
    × (volume_above (with_date (point 1 2) (on 3000 1)) 744000000 ≡ false)
unfolding refusal_definitions
limits = (refl, refl, refl, refl, refl, refl, refl, refl, refl, refl, refl)

-- sources are 1 and 2, and reasons 1 to 4
sources :
    (is_source 0 ≡ false)
    × (is_source 1 ≡ true)
    × (is_source 2 ≡ true)
    × (is_source 3 ≡ false)
    × (is_reason 0 ≡ false)
    × (is_reason 1 ≡ true)
    × (is_reason 2 ≡ true)
    × (is_reason 3 ≡ true)
    × (is_reason 4 ≡ true)
    × (is_reason 5 ≡ false)
sources = (refl, refl, refl, refl, refl, refl, refl, refl, refl, refl)

abbrev given : Readings → Record
given g = with_readings (point 1 1) g

-- a neighbour reading is given for its own source alone
source_is_given :
    (source_given (given (with_first no_readings (given_as 0))) 1 ≡ true)
    × (source_given (given (with_first no_readings (given_as 0))) 2 ≡ false)
    × (source_given (given (with_second no_readings (given_as 0))) 1 ≡ false)
    × (source_given (given (with_second no_readings (given_as 0))) 2 ≡ true)
    × (source_given (given (with_control (with_billing no_readings (given_as 0)) (given_as 0))) 1 ≡ false)
    × (source_given (given (with_control (with_billing no_readings (given_as 0)) (given_as 0))) 2 ≡ false)
source_is_given = (refl, refl, refl, refl, refl, refl)

abbrev hours : ℕ → List ℕ
hours n = replicate n 7

abbrev number : Record → MeterReading → ℕ
number r x = own_refusal r [] (read x)

-- the other form, no such meter, no such source
reading_20 :
    (number (point 2 2) (billing_hours (hours 672)) ≡ 20) × (number (point 1 2) (billing_volume 5) ≡ 20)
    × (number (point 1 0) (control_hours (hours 672)) ≡ 20)
    × (number (point 1 2) (control_hours (hours 672)) ≡ 20) × (number (point 1 0) (control_volume 5) ≡ 20)
    × (number (point 1 1) (control_volume 5) ≡ 20)
    × (number (point 1 0) (neighbour 0 5) ≡ 20) × (number (point 1 0) (neighbour 3 5) ≡ 20) × (number (point 1 0) (neighbour 2 5) ≡ 0)
unfolding refusal_definitions
reading_20 = (refl, refl, refl, refl, refl, refl, refl, refl, refl)

-- a meter is the one that the reading names: another has the form of the reading, or there is none
own_meter :
    (number (point 1 2) (billing_hours (hours 672)) ≡ 0)
    × (number (point 2 1) (billing_hours (hours 672)) ≡ 20)
    × (number (point 0 1) (billing_hours (hours 672)) ≡ 20)
    × (number (point 2 1) (control_hours (hours 672)) ≡ 0)
    × (number (point 2 1) (billing_volume 5) ≡ 0)
    × (number (point 0 2) (billing_volume 5) ≡ 20)
    × (number (point 2 1) (control_volume 5) ≡ 20)
    × (number (point 1 2) (control_volume 5) ≡ 0)
unfolding refusal_definitions
own_meter = (refl, refl, refl, refl, refl, refl, refl, refl)

abbrev pub out : Record → Record
out r = with_service r (with_serving r.service 0)

abbrev pub denied : ℕ → Record → Record
denied n r = with_service r (with_denials r.service n)

-- out of service or with two denials a billing reading is refused, a control reading and a neighbour's are not
reading_21 :
    (number (out (point 2 2)) (billing_volume 5) ≡ 21) × (number (denied 2 (point 2 2)) (billing_volume 5) ≡ 21)
    × (number (denied 1 (point 2 2)) (billing_volume 5) ≡ 0)
    × (number (out (point 1 2)) (billing_hours []) ≡ 21) × (number (out (point 2 2)) (control_volume 5) ≡ 0)
    × (number (denied 2 (point 2 1)) (neighbour 1 5) ≡ 0)
unfolding refusal_definitions
reading_21 = (refl, refl, refl, refl, refl, refl)

-- once a month each; the lower number where two apply
reading_22 :
    (number (with_readings (point 2 2) (with_billing (point 2 2).readings (given_as 1))) (billing_volume 672000001) ≡ 22)
    × (number (with_readings (point 2 2) (with_control (point 2 2).readings (given_as 1))) (control_volume 5) ≡ 22)
    × (number (with_readings (point 2 2) (with_first (point 2 2).readings (given_as 1))) (neighbour 1 5) ≡ 22)
    × (number (with_readings (point 2 2) (with_first (point 2 2).readings (given_as 1))) (neighbour 2 5) ≡ 0)
    × (number (with_readings (point 2 2) (with_second (point 2 2).readings (given_as 1))) (neighbour 2 5) ≡ 22)
unfolding refusal_definitions
reading_22 = (refl, refl, refl, refl, refl)

-- a reading is the one that the call names: another one given is nothing to it
own_reading :
    (number (given (with_billing no_readings (given_as 0))) (billing_hours []) ≡ 22)
    × (number (given (with_billing no_readings (given_as 0))) (control_hours (hours 672)) ≡ 0)
    × (number (given (with_control no_readings (given_as 0))) (billing_hours (hours 672)) ≡ 0)
    × (number (given (with_control no_readings (given_as 0))) (control_hours []) ≡ 22)
    × (number (given (with_first no_readings (given_as 0))) (control_hours (hours 672)) ≡ 0)
    × (number (with_readings (point 2 2) (with_control no_readings (given_as 1))) (billing_volume 5) ≡ 0)
    × (number (with_readings (point 2 2) (with_first (with_billing no_readings (given_as 1)) (given_as 1))) (control_volume 5) ≡ 0)
    × (number (with_readings (point 2 2) (with_second no_readings (given_as 1))) (neighbour 1 5) ≡ 0)
    × (number (with_readings (point 2 2) (with_first no_readings (given_as 1))) (neighbour 1 672000001) ≡ 22)
unfolding refusal_definitions
own_reading = (refl, refl, refl, refl, refl, refl, refl, refl, refl)

-- T hours, each at most 1,000,000; a volume at most T × 1,000,000
reading_23_24 :
    (number (point 1 1) (billing_hours (hours 671)) ≡ 23) × (number (point 1 1) (billing_hours (1000001 ∷ hours 672)) ≡ 23)
    × (number (point 1 1) (control_hours (hours 673)) ≡ 23)
    × (number (point 1 1) (billing_hours (1000001 ∷ hours 671)) ≡ 24) × (number (point 1 1) (billing_hours (1000000 ∷ hours 671)) ≡ 0)
    × (number (point 1 1) (control_hours (1000001 ∷ hours 671)) ≡ 24) × (number (point 2 2) (billing_volume 672000001) ≡ 24)
    × (number (point 2 2) (billing_volume 672000000) ≡ 0)
    × (number (point 2 2) (control_volume 672000001) ≡ 24) × (number (point 2 2) (neighbour 1 672000001) ≡ 24)
    × (number (point 2 2) (neighbour 2 672000000) ≡ 0)
unfolding refusal_definitions
reading_23_24 = (refl, refl, refl, refl, refl, refl, refl, refl, refl, refl, refl)

-- NETWORK FIRM
abbrev reported : Record → Report → ℕ
reported r x = own_refusal r [] (report x)

network :
    (reported (out (point 1 2)) (failure 9) ≡ 30) × (reported (point 1 2) (failure 0) ≡ 31) × (reported (point 1 2) (failure 5) ≡ 31)
    × (reported (point 1 2) (failure 4) ≡ 0)
    × (reported (point 1 2) admission ≡ 32) × (reported (out (point 1 2)) admission ≡ 0) × (reported (denied 2 (point 1 2)) denial ≡ 33)
    × (reported (denied 1 (point 1 2)) denial ≡ 0)
    × (reported (point 1 2) permission ≡ 34) × (reported (denied 1 (point 1 2)) permission ≡ 0)
unfolding refusal_definitions
network = (refl, refl, refl, refl, refl, refl, refl, refl, refl, refl)

-- each test looks at its own field: service, denials or reason, and none at the run
own_field :
    (reported (point 1 2) (failure 1) ≡ 0)
    × (reported (out (point 1 2)) (failure 1) ≡ 30)
    × (reported (out (denied 1 (point 1 2))) (failure 1) ≡ 30)
    × (reported (point 1 2) (failure 2) ≡ 0)
    × (reported (point 1 2) (failure 3) ≡ 0)
    × (reported (out (denied 1 (point 1 2))) admission ≡ 0)
    × (reported (with_service (point 1 2) (served_so 2 1 0 0)) denial ≡ 0)
    × (reported (with_service (point 1 2) (served_so 0 1 2 0)) denial ≡ 33)
    × (reported (with_service (point 1 2) (served_so 1 1 0 0)) permission ≡ 34)
    × (reported (with_service (point 1 2) (served_so 0 1 2 0)) permission ≡ 0)
unfolding refusal_definitions
own_field = (refl, refl, refl, refl, refl, refl, refl, refl, refl, refl)

-- SETTLEMENT: not T marks, and no number before. More of whole months of marks is in the crate `whole_months`
abbrev pub closed : List ℕ → ℕ → ℕ
closed marks n = own_refusal (point 1 2) [] (closing marks (zeros n))

settlement : (closed [] 744 ≡ 40) × (closed (4 ∷ []) 743 ≡ 40) × (closed (zeros 671) 744 ≡ 40) × (closed (zeros 673) 744 ≡ 40)
unfolding refusal_definitions
settlement = (refl, refl, refl, refl)

-- a point with an integral billing meter and 1,000,000 kW, opened earlier, goes on: a reading, a report, and a closing up to its buffer's length
abbrev large : Record
large =
    with_contract (point 2 0)
    (record { billing = 2; control = 0; basis = 1; power = record { 0 = 1000000 }; cable = no_cable })

opened_earlier :
    (refuse_anyone 10416 large 0 ≡ 0)
    × (number large (billing_volume 5) ≡ 0)
    × (reported large (failure 1) ≡ 0)
    × (own_refusal large [] (closing (zeros 672) (zeros 743)) ≡ 44)
unfolding refusal_definitions
opened_earlier = (refl, refl, refl, refl)

-- a closing of no month, which has no hours and so no marks, with a store of a word and a buffer
abbrev of_none : ℕ → ℕ → ℕ
of_none word n = own_refusal zero_record (word ∷ []) (closing [] (zeros n))

-- 44 before 45, each at its limit from both sides; 45 is of the store, and not of the buffer
last_numbers :
    (of_none 3000001 743 ≡ 44)
    × (of_none 3000001 745 ≡ 44)
    × (of_none 3000000 743 ≡ 44)
    × (of_none 3000001 744 ≡ 45)
    × (of_none 3000000 744 ≡ 0)
    × (own_refusal zero_record [] (closing [] (replicate 744 3000001)) ≡ 0)
unfolding refusal_definitions
last_numbers = (refl, refl, refl, refl, refl, refl)

-- over the marks of February 2023: 41 on the last day before 42 on the first; 42 on the last day before 43 on the first; 43 on the last day before
-- 46 on the first; and 46 on the last day before 44
mark_numbers :
    (closed (set (replicate 17 1 ++ zeros 655) 671 4) 0 ≡ 41)
    × (closed (2 ∷ (2 ∷ (zeros 653 ++ replicate 17 1))) 0 ≡ 42)
    × (closed (1 ∷ (zeros 669 ++ (2 ∷ 2 ∷ []))) 0 ≡ 43)
    × (closed (set (zeros 672) 671 1) 0 ≡ 46)
unfolding refusal_definitions
mark_numbers = (refl, refl, refl, refl)

-- WHICH DAY (document 02, E8). Days without a fault, with peaks alone, with two capacity hours, and with 17 peaks
abbrev no_fault : List ℕ
no_fault = 1 ∷ 3 ∷ zeros 22

abbrev pub lone_peaks : List ℕ
lone_peaks = 1 ∷ zeros 23

abbrev pub two_capacities : List ℕ
two_capacities = 2 ∷ 3 ∷ zeros 22

abbrev pub many_peaks : List ℕ
many_peaks = 3 ∷ (replicate 16 1 ++ zeros 7)

-- each number has its own first day, counted from 1, whichever the other faults' days are; no other number has a day
abbrev six_days : List ℕ
six_days = no_fault ++ (lone_peaks ++ (two_capacities ++ (many_peaks ++ (two_capacities ++ many_peaks))))

wrong_days :
    (wrong_day 42 six_days ≡ 4)
    × (wrong_day 43 six_days ≡ 3)
    × (wrong_day 46 six_days ≡ 2)
    × (wrong_day 46 lone_peaks ≡ 1)
    × (wrong_day 43 (no_fault ++ two_capacities) ≡ 2)
    × (wrong_day 43 lone_peaks ≡ 0)
    × (wrong_day 0 six_days ≡ 0)
    × (wrong_day 3 six_days ≡ 0)
    × (wrong_day 40 six_days ≡ 0)
    × (wrong_day 41 six_days ≡ 0)
    × (wrong_day 44 six_days ≡ 0)
    × (wrong_day 45 six_days ≡ 0)
    × (wrong_day 47 six_days ≡ 0)
unfolding wrong_day first_day
wrong_days = (refl, refl, refl, refl, refl, refl, refl, refl, refl, refl, refl, refl, refl)

-- 23 marks are no day
no_whole_day : (wrong_day 42 (replicate 23 1) ≡ 0) × (wrong_day 43 (replicate 23 2) ≡ 0) × (wrong_day 46 (replicate 23 1) ≡ 0)
unfolding wrong_day first_day
no_whole_day = (refl, refl, refl)
