-- Number 2, sentence by sentence: records that it refuses, and their nearest neighbours that pass. By computation; assumes nothing.
use Prim.Native.Nat.{ℕ}
use mathlib.Core.Bool.{true, false}
use mathlib.Core.Path.{◌≡◌, refl}
use lib.ListN.{set}
use Rattle.numbers.specs.Lists.{zeros}
use Rattle.calendar.specs.declared.Date.{Date}
use Rattle.calendar.specs.Calendar.{leap_year, is_month, month_days, month_hours, open_hours, month_number}
use Rattle.power.specs.declared.Cable.{Cable}
use Rattle.power.specs.Power.{cable_fits}
use Rattle.contract.specs.declared.Contract.{Contract}
use Rattle.contract.specs.Contract.{no_cable}
use Rattle.record.specs.declared.Reading.{Reading}
use Rattle.record.specs.declared.Record.{Record}
use Rattle.record.specs.Record.{kwh, not_given, given_as, no_readings, no_past, zero_record, fresh_record, with_contract, with_date, with_service, with_past}
use Rattle.record.specs.Record.{with_readings, with_serving, with_denials, with_run}
use Rattle.validity.specs.Valid.{volume_limit, valid}

unfoldable Passes : Record → Type 0
Passes r = valid r ≡ true

unfoldable Fails : Record → Type 0
Fails r = valid r ≡ false

-- what number 2 is worked out with, by one name
unfoldable valid_definitions : Unit {0}
unfolding valid is_month cable_fits volume_limit open_hours month_hours month_days leap_year month_number
valid_definitions = tt

-- a point with an interval billing meter and an integral control meter, 100 kW agreed, open in March 2024
abbrev meters : ℕ → ℕ → Contract
meters b k = record { billing = b; control = k; basis = 1; power = record { 0 = 100 }; cable = no_cable }

abbrev march : Date
march = record { year = 2024; month = 3 }

abbrev point : Record
point = fresh_record (meters 1 2) march

abbrev opened : ℕ → Record
opened flag =
    record { opened = flag; contract = meters 1 2; date = march; service = point.service; past = no_past; readings = no_readings; total = kwh 0 }

is_open_lem : Fails zero_record × Fails (opened 0) × Fails (opened 2) × Passes (opened 1)
unfolding Passes Fails valid_definitions
is_open_lem = (refl, refl, refl, refl)

-- the contract
abbrev with : Contract → Record
with c = with_contract point c

billing_meter : Fails (with (meters 0 2)) × Passes (with (meters 1 2)) × Passes (with (meters 2 2)) × Fails (with (meters 3 2))
unfolding Passes Fails valid_definitions
billing_meter = (refl, refl, refl, refl)

control_meter : Passes (with (meters 1 0)) × Passes (with (meters 1 1)) × Passes (with (meters 1 2)) × Fails (with (meters 1 3))
unfolding Passes Fails valid_definitions
control_meter = (refl, refl, refl, refl)

-- a basis with its power and cable
abbrev based : ℕ → ℕ → Cable → Record
based b p k = with (record { billing = 1; control = 2; basis = b; power = record { 0 = p }; cable = k })

abbrev integral : ℕ → ℕ → Cable → Record
integral b p k = with (record { billing = 2; control = 0; basis = b; power = record { 0 = p }; cable = k })

abbrev cable : ℕ → ℕ → ℕ → ℕ → Cable
cable i u c f = record { amperes = i; volts = u; cosine = c; phases = f }

basis : Fails (based 0 100 no_cable) × Passes (based 1 100 no_cable) × Passes (based 2 100 no_cable) × Passes (based 3 0 (cable 1 230 0 1))
    × Fails (based 4 0 no_cable)
    × Fails (based 4 0 (cable 1 230 0 1))
unfolding Passes Fails valid_definitions
basis = (refl, refl, refl, refl, refl, refl)

power_limit : Passes (based 1 0 no_cable) × Passes (based 1 1000000 no_cable) × Fails (based 1 1000001 no_cable) × Passes (based 2 0 no_cable)
    × Fails (based 2 1000001 no_cable)
unfolding Passes Fails valid_definitions
power_limit = (refl, refl, refl, refl, refl)

cable_limits :
    Fails (based 3 0 (cable 0 230 900 1)) × Passes (based 3 0 (cable 1 230 900 1)) × Passes (based 3 0 (cable 2000 230 900 1))
    × Fails (based 3 0 (cable 2001 230 900 1))
    × Fails (based 3 0 (cable 1 0 900 1)) × Passes (based 3 0 (cable 1 1 900 1)) × Passes (based 3 0 (cable 1 250000 900 1))
    × Fails (based 3 0 (cable 1 250001 900 1))
    × Passes (based 3 0 (cable 1 230 0 1)) × Passes (based 3 0 (cable 1 230 1000 1)) × Fails (based 3 0 (cable 1 230 1001 1))
    × Fails (based 3 0 (cable 1 230 900 0)) × Fails (based 3 0 (cable 1 230 900 2)) × Passes (based 3 0 (cable 1 230 900 3))
    × Fails (based 3 0 (cable 1 230 900 4))
unfolding Passes Fails valid_definitions
cable_limits = (refl, refl, refl, refl, refl, refl, refl, refl, refl, refl, refl, refl, refl, refl, refl)

-- an integral billing meter with any P: number 2 does not ask what an opening is asked with 15
integral_meter :
    Passes (integral 1 669 no_cable) × Passes (integral 1 670 no_cable) × Passes (integral 1 1000000 no_cable) × Passes (integral 2 1000000 no_cable)
    × Passes (integral 3 0 (cable 2000 250000 1000 3))
unfolding Passes valid_definitions
integral_meter = (refl, refl, refl, refl, refl)

unused_fields :
    Fails (based 1 100 (cable 1 0 0 0)) × Fails (based 1 100 (cable 0 1 0 0)) × Fails (based 2 100 (cable 0 0 1 0)) × Fails (based 2 100 (cable 0 0 0 1))
    × Passes (based 2 100 (cable 0 0 0 0)) × Fails (based 3 1 (cable 1 230 900 1)) × Passes (based 3 0 (cable 1 230 900 1))
unfolding Passes Fails valid_definitions
unused_fields = (refl, refl, refl, refl, refl, refl, refl)

-- the open month
abbrev on : ℕ → ℕ → Record
on y m = with_date point (record { year = y; month = m })

open_month :
    Fails (on 2013 12) × Passes (on 2014 1) × Fails (on 2024 0) × Passes (on 2024 12) × Fails (on 2024 13) × Passes (on 2999 12) × Passes (on 3000 1)
    × Fails (on 3000 2) × Fails (on 3001 1)
unfolding Passes Fails valid_definitions
open_month = (refl, refl, refl, refl, refl, refl, refl, refl, refl)

-- run, service, denials, last fault; March 2024 is month 24,291
run_limit : Passes (with_service point (with_run point.service 12000)) × Fails (with_service point (with_run point.service 12001))
unfolding Passes Fails valid_definitions
run_limit = (refl, refl)

in_or_out : Passes (with_service point (with_serving point.service 0)) × Passes (with_service point (with_serving point.service 1))
    × Fails (with_service point (with_serving point.service 2))
unfolding Passes Fails valid_definitions
in_or_out = (refl, refl, refl)

denials_limit : Passes (with_service point (with_denials point.service 2)) × Fails (with_service point (with_denials point.service 3))
unfolding Passes Fails valid_definitions
denials_limit = (refl, refl)

abbrev faulted : Record → ℕ → Record
faulted r n = with_service r (record { run = 0; serving = 1; denials = 0; fault = n })

last_fault :
    Passes (faulted point 0) × Fails (faulted point 1) × Fails (faulted point 24168) × Passes (faulted point 24169) × Passes (faulted point 24291)
    × Fails (faulted point 24292) × Passes (faulted (on 3000 1) 36000) × Fails (faulted (on 3000 1) 36001)
unfolding Passes Fails valid_definitions
last_fault = (refl, refl, refl, refl, refl, refl, refl, refl)

-- rows and the latest past: the row of a calendar month, 0 for January, that holds a year
abbrev rowed : Record → ℕ → ℕ → ℕ → Record
rowed r row y latest = with_past r (record { years = set (zeros 12) row y; latest = latest })

row_years :
    Fails (rowed point 0 2013 0) × Passes (rowed point 0 2014 0) × Passes (rowed point 1 2024 0) × Fails (rowed point 2 2024 0)
    × Passes (rowed point 2 2023 0)
    × Fails (rowed point 11 2024 0) × Passes (rowed (on 3000 1) 11 2999 0) × Fails (rowed (on 3000 1) 0 3000 0)
unfolding Passes Fails valid_definitions
row_years = (refl, refl, refl, refl, refl, refl, refl, refl)

-- February 2024 is month 24,290; December 2013, in its row, is before the calendar
latest_past :
    Passes (rowed point 1 2024 24290) × Fails (rowed point 2 2024 24291) × Passes (rowed point 0 2014 24169) × Fails (rowed point 11 2013 24168)
    × Passes (rowed (on 3000 1) 11 2999 36000)
unfolding Passes Fails valid_definitions
latest_past = (refl, refl, refl, refl, refl)

in_its_row : Fails (rowed point 1 2023 24290) × Fails (rowed point 0 2024 24290) × Passes (rowed point 1 2023 24278)
    × Fails (rowed point 1 0 24290) × Fails (rowed point 1 0 1)
unfolding Passes Fails valid_definitions
in_its_row = (refl, refl, refl, refl, refl)

-- readings; T of March is 744
abbrev read : Contract → Reading → Reading → Reading → Reading → Record
read c b k f s = with_readings (with c) (record { billing = b; control = k; first = f; second = s })

abbrev reading : ℕ → ℕ → Reading
reading flag v = record { given = flag; volume = kwh v }

flags :
    Passes (read (meters 1 2) (reading 1 0) not_given not_given not_given) × Fails (read (meters 1 2) (reading 2 0) not_given not_given not_given)
    × Passes (read (meters 1 2) not_given (reading 1 0) not_given not_given) × Fails (read (meters 1 2) not_given (reading 2 0) not_given not_given)
    × Passes (read (meters 1 2) not_given not_given (reading 1 0) (reading 1 0)) × Fails (read (meters 1 2) not_given not_given (reading 2 0) not_given)
    × Fails (read (meters 1 2) not_given not_given not_given (reading 2 0))
unfolding Passes Fails valid_definitions
flags = (refl, refl, refl, refl, refl, refl, refl)

-- a volume of a reading that is not given, or comes from an interval meter
no_volume :
    Fails (read (meters 2 2) (reading 0 1) not_given not_given not_given) × Passes (read (meters 2 2) (reading 1 1) not_given not_given not_given)
    × Fails (read (meters 1 2) (reading 1 1) not_given not_given not_given) × Passes (read (meters 1 2) (reading 1 0) not_given not_given not_given)
    × Fails (read (meters 1 1) not_given (reading 1 1) not_given not_given) × Passes (read (meters 1 1) not_given (reading 1 0) not_given not_given)
    × Fails (read (meters 1 2) not_given (reading 0 1) not_given not_given) × Passes (read (meters 1 2) not_given (reading 1 1) not_given not_given)
    × Fails (read (meters 1 1) not_given not_given (reading 0 1) not_given) × Passes (read (meters 1 1) not_given not_given (reading 1 1) not_given)
    × Fails (read (meters 1 1) not_given not_given not_given (reading 0 1)) × Passes (read (meters 1 1) not_given not_given not_given (reading 1 1))
unfolding Passes Fails valid_definitions
no_volume = (refl, refl, refl, refl, refl, refl, refl, refl, refl, refl, refl, refl)

-- a control reading without a control meter
form_lacking : Fails (read (meters 1 0) not_given (reading 1 0) not_given not_given) × Passes (read (meters 1 0) not_given not_given not_given not_given)
unfolding Passes Fails valid_definitions
form_lacking = (refl, refl)

volume_limits :
    Passes (read (meters 2 2) (given_as 744000000) not_given not_given not_given)
    × Fails (read (meters 2 2) (given_as 744000001) not_given not_given not_given)
    × Passes (read (meters 2 2) not_given (given_as 744000000) not_given not_given)
    × Fails (read (meters 2 2) not_given (given_as 744000001) not_given not_given)
    × Passes (read (meters 2 2) not_given not_given (given_as 744000000) not_given)
    × Fails (read (meters 2 2) not_given not_given (given_as 744000001) not_given)
    × Passes (read (meters 2 2) not_given not_given not_given (given_as 744000000))
    × Fails (read (meters 2 2) not_given not_given not_given (given_as 744000001))
unfolding Passes Fails valid_definitions
volume_limits = (refl, refl, refl, refl, refl, refl, refl, refl)

abbrev totalled : ℕ → Record
totalled v =
    record { opened = 1; contract = meters 1 2; date = march; service = point.service; past = no_past; readings = no_readings; total = kwh v }

total_limit : Passes (totalled 30000000000000) × Fails (totalled 30000000000001)
unfolding Passes Fails valid_definitions
total_limit = (refl, refl)

-- what number 2 does not ask: a latest past beside filled rows, the newest row as the latest past, no billing reading while out of service
not_asked :
    Passes (rowed point 1 2024 0)
    × Passes (with_past point (record { years = set (set (zeros 12) 1 2024) 0 2023; latest = 24277 }))
    × Passes (with_service (read (meters 1 2) (given_as 0) not_given not_given not_given) (with_serving point.service 0))
unfolding Passes Fails valid_definitions
not_asked = (refl, refl, refl)
