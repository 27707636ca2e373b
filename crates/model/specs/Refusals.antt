-- Who causes which number (document 01, and E3 and E8 of document 02): the one list of refusals. Each is asked from its top, and the first number that
-- applies is returned, 0 where none does: the lowest, but for 46, which is asked before 44 and 45.
use Rattle.std.specs.Prelude.{ℕ, ◌/◌, Bool, false, not, cond, ◌&&◌, ◌||◌, List, length, eqb, leb, ltb}
use Rattle.numbers.specs.Lists.{none_above}
use Rattle.calendar.specs.Calendar.{is_month, open_hours}
use Rattle.power.specs.Power.{cable_fits, agreed_fits, list_fits, power_on}
use Rattle.marks.specs.Marks.{is_crowded, is_doubled, is_unmatched, high, crowded, doubled, unmatched, first_day}
use Rattle.contract.specs.Contract.{meters_fit, integral_on_big_load, is_agreed}
use Rattle.record.specs.declared.Record.{Record}
use Rattle.record.specs.declared.Service.{Service}
use Rattle.record.specs.Record.{is_set}
use Rattle.validity.specs.Valid.{valid, volume_limit}
use Rattle.store.specs.Store.{store_fits}
use Rattle.rules.specs.Calls.{Opening, MeterReading, billing_hours, control_hours, billing_volume, control_volume, neighbour}
use Rattle.rules.specs.Calls.{Report, failure, admission, denial, permission, Call, read, report, closing}

-- the number where the test holds, else the rest of the list
unfoldable pub refuse : Bool → ℕ → ℕ → ℕ
refuse test number rest = cond test number rest

-- ANYONE, before what the call itself has to say
abbrev pub refuse_anyone : ℕ → Record → ℕ → ℕ
refuse_anyone words r rest =
    -- 1 store not 10,416 words
    refuse (not (eqb words 10416)) 1
    -- 2 record not open, a field outside the limits here or not 0 where it has to be, ..: the tests of `valid`
    (refuse (not (valid r)) 2
    -- 3 the calendar is over (year 3000)
    (refuse (eqb r.date.year 3000) 3 rest))

-- CONTRACT STAFF, opening, of a store of so many words; opening has only 1 of anyone's numbers. What is asked for has to fit before P is known
abbrev pub refuse_asked : ℕ → Opening → ℕ → ℕ
refuse_asked words o rest =
    refuse (not (eqb words 10416)) 1
    -- 10 year or month
    (refuse (not (is_month o.date)) 10
    -- 11 meter kind
    (refuse (not (meters_fit o.asked)) 11
    -- 12 basis not 1 to 3, or power 0 or above 1,000,000 on basis 1 or 2
    (refuse (not (eqb o.asked.basis 3 || (is_agreed o.asked.basis && agreed_fits o.asked.power.0))) 12
    -- 13 cable value on basis 3
    (refuse (eqb o.asked.basis 3 && not (cable_fits o.asked.cable)) 13
    -- 14 on basis 2, list empty or above 64, a current outside 1 to 2,000, or place outside the list
    (refuse (eqb o.asked.basis 2 && not (list_fits o.currents o.place)) 14 rest)))))

-- P, the point's own: on basis 2 its share, on basis 3 the formula at t = 1
abbrev pub asked_power : Opening → ℕ
asked_power o = power_on o.asked.basis o.asked.power.0 o.currents o.place o.asked.cable

-- 15 an integral billing meter where P is 670 kW or more (document 02, E3), after 14
unfoldable pub open_refusal : ℕ → Opening → ℕ
open_refusal words o = refuse_asked words o (refuse (integral_on_big_load o.asked.billing (asked_power o)) 15 0)

-- METER READERS: which of 20 to 24 applies; 20 no such meter, or a reading of the other form, or neighbour source not 1 or 2
abbrev pub refuse_reading : Bool → Bool → Bool → Bool → Bool → ℕ
refuse_reading t20 t21 t22 t23 t24 = refuse t20 20 (refuse t21 21 (refuse t22 22 (refuse t23 23 (refuse t24 24 0))))

-- 21 billing reading while out of service or with denials 2
abbrev pub is_barred : Service → Bool
is_barred s = not (is_set s.serving) || eqb s.denials 2

-- 23 not T hours
abbrev pub not_month : Record → List ℕ → Bool
not_month r hours = not (eqb (length hours) (open_hours r.date))

-- 24 an hour above 1,000,000, or a volume above T × 1,000,000
abbrev pub hour_above : List ℕ → Bool
hour_above hours = not (none_above 1000000 hours)

abbrev pub volume_above : Record → ℕ → Bool
volume_above r v = ltb (volume_limit r.date) v

-- 22 already given: the neighbour reading of a source
abbrev pub source_given : Record → ℕ → Bool
source_given r source = is_set (cond (eqb source 1) r.readings.first.given r.readings.second.given)

-- neighbour source 1 or 2; reason 1 to 4
abbrev pub is_source : ℕ → Bool
is_source source = eqb source 1 || eqb source 2

abbrev pub is_reason : ℕ → Bool
is_reason reason = leb 1 reason && leb reason 4

-- the numbers of each reading
abbrev pub billing_hours_number : Record → List ℕ → ℕ
billing_hours_number r hours =
    refuse_reading (not (eqb r.contract.billing 1)) (is_barred r.service) (is_set r.readings.billing.given) (not_month r hours) (hour_above hours)

abbrev pub control_hours_number : Record → List ℕ → ℕ
control_hours_number r hours =
    refuse_reading (not (eqb r.contract.control 1)) false (is_set r.readings.control.given) (not_month r hours) (hour_above hours)

abbrev pub billing_volume_number : Record → ℕ → ℕ
billing_volume_number r v =
    refuse_reading (not (eqb r.contract.billing 2)) (is_barred r.service) (is_set r.readings.billing.given) false (volume_above r v)

abbrev pub control_volume_number : Record → ℕ → ℕ
control_volume_number r v =
    refuse_reading (not (eqb r.contract.control 2)) false (is_set r.readings.control.given) false (volume_above r v)

abbrev pub neighbour_number : Record → ℕ → ℕ → ℕ
neighbour_number r source v = refuse_reading (not (is_source source)) false (source_given r source) false (volume_above r v)

-- NETWORK FIRM
-- 30 failure while out of service; 31 reason not 1 to 4
abbrev pub failure_number : Record → ℕ → ℕ
failure_number r reason = refuse (not (is_set r.service.serving)) 30 (refuse (not (is_reason reason)) 31 0)

-- 32 admission while in service
abbrev pub admission_number : Record → ℕ
admission_number r = refuse (is_set r.service.serving) 32 0

-- 33 denial with two
abbrev pub denial_number : Record → ℕ
denial_number r = refuse (eqb r.service.denials 2) 33 0

-- 34 permission with none
abbrev pub permission_number : Record → ℕ
permission_number r = refuse (eqb r.service.denials 0) 34 0

-- SETTLEMENT, closing, of a record, the store, marks and hour buffer
abbrev pub closing_number : Record → List ℕ → List ℕ → List ℕ → ℕ
closing_number r store marks buffer =
    -- 40 not T marks
    refuse (not (eqb (length marks) (open_hours r.date))) 40
    -- 41 mark above 3
    (refuse (high marks) 41
    -- 42 over 16 peak hours in a day
    (refuse (crowded marks (length marks / 24)) 42
    -- 43 two or more capacity hours in a day
    (refuse (doubled marks (length marks / 24)) 43
    -- 46 peak hours in a day without a capacity hour (document 02, E8), after 43 and before 44
    (refuse (unmatched marks (length marks / 24)) 46
    -- 44 hour buffer not 744
    (refuse (not (eqb (length buffer) 744)) 44
    -- 45 a word above 3,000,000 in rows 0 to 11, or above 1,000,000 in 12 or 13
    (refuse (not (store_fits store)) 45 0))))))

-- which day's marks are wrong (document 02, E8): with 42, 43 and 46 the first such day, counted from 1, and else 0
unfoldable pub wrong_day : ℕ → List ℕ → ℕ
wrong_day number marks =
    cond (eqb number 42) (first_day is_crowded marks (length marks / 24))
    (cond (eqb number 43) (first_day is_doubled marks (length marks / 24))
    (cond (eqb number 46) (first_day is_unmatched marks (length marks / 24)) 0))

-- the number of a reading, of a report, and of any call, after anyone's
unfoldable pub reading_number : Record → MeterReading → ℕ
reading_number r (billing_hours hours) = billing_hours_number r hours
reading_number r (control_hours hours) = control_hours_number r hours
reading_number r (billing_volume v) = billing_volume_number r v
reading_number r (control_volume v) = control_volume_number r v
reading_number r (neighbour source v) = neighbour_number r source v

unfoldable pub report_number : Record → Report → ℕ
report_number r (failure reason) = failure_number r reason
report_number r admission = admission_number r
report_number r denial = denial_number r
report_number r permission = permission_number r

unfoldable pub own_refusal : Record → List ℕ → Call → ℕ
own_refusal r store (read reading) = reading_number r reading
own_refusal r store (report what) = report_number r what
own_refusal r store (closing marks buffer) = closing_number r store marks buffer
