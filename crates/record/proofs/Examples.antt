-- Records made and changed, on values: what is 0, and what each replacement leaves. By computation; assumes nothing.
use Prim.Native.Nat.{ℕ}
use mathlib.Core.Path.{◌≡◌, refl}
use mathlib.Core.Bool.{true, false}
use mathlib.Core.List.{[], ◌∷◌}
use Rattle.calendar.specs.declared.Date.{Date}
use Rattle.contract.specs.declared.Contract.{Contract}
use Rattle.record.specs.declared.Service.{Service}
use Rattle.record.specs.declared.Past.{Past}
use Rattle.record.specs.declared.Readings.{Readings}
use Rattle.record.specs.declared.ReadingOf.TheVariants.{Billing, Control, First, Second}
use Rattle.record.specs.Record.{is_set, kwh, not_given, given_as, no_readings, no_past, no_service, zero_record, fresh_service, fresh_record}
use Rattle.record.specs.Record.{with_contract, with_date, with_service, with_past, with_readings, with_serving, with_denials, with_run}
use Rattle.record.specs.Record.{with_billing, with_control, with_first, with_second, with_reading}

-- only 1 is yes
flags : (is_set 0 ≡ false) × (is_set 1 ≡ true) × (is_set 2 ≡ false)
flags = (refl, refl, refl)

-- a reading that is not given has no volume, and a given one that of the meter
readings : (not_given ≡ record { given = 0; volume = kwh 0 }) × (given_as 7 ≡ record { given = 1; volume = kwh 7 })
    × (no_readings ≡ record { billing = not_given; control = not_given; first = not_given; second = not_given })
readings = (refl, refl, refl)

-- twelve rows without a year, and no latest past month
pasts : no_past ≡ record { years = 0 ∷ 0 ∷ 0 ∷ 0 ∷ 0 ∷ 0 ∷ 0 ∷ 0 ∷ 0 ∷ 0 ∷ 0 ∷ 0 ∷ []; latest = 0 }
pasts = refl

-- A SERVICE: run, in service or not, denials, month of the last fault
abbrev serving : ℕ → ℕ → ℕ → ℕ → Service
serving r s n f = record { run = r; serving = s; denials = n; fault = f }

services : (no_service ≡ serving 0 0 0 0) × (fresh_service ≡ serving 0 1 0 0) × (with_serving (serving 5 6 7 8) 1 ≡ serving 5 1 7 8)
    × (with_denials (serving 5 6 7 8) 1 ≡ serving 5 6 1 8)
    × (with_run (serving 5 6 7 8) 1 ≡ serving 1 6 7 8)
services = (refl, refl, refl, refl, refl)

-- THE RECORD after a refused opening is 0 in each field; after an accepted one it is open, in service, and has the contract and the month
abbrev asked : Contract
asked =
    record {
      billing = 1;
      control = 2;
      basis = 3;
      power = record { 0 = 4 };
      cable = record { amperes = 5; volts = 6; cosine = 7; phases = 8 };
    }

abbrev march : Date
march = record { year = 2024; month = 3 }

zeroes :
    zero_record
    ≡ record {
      opened = 0;
      contract =
          record {
            billing = 0;
            control = 0;
            basis = 0;
            power = record { 0 = 0 };
            cable = record { amperes = 0; volts = 0; cosine = 0; phases = 0 };
          };
      date = record { year = 0; month = 0 };
      service = serving 0 0 0 0;
      past = no_past;
      readings = no_readings;
      total = record { 0 = 0 };
    }
zeroes = refl

fresh :
    fresh_record asked march
    ≡ record { opened = 1; contract = asked; date = march; service = serving 0 1 0 0; past = no_past; readings = no_readings; total = record { 0 = 0 } }
fresh = refl

-- A PART REPLACED, and no other
abbrev newer : Past
newer = record { years = 2023 ∷ []; latest = 24277 }

abbrev read : ℕ → ℕ → ℕ → ℕ → Readings
read b k f s = record { billing = given_as b; control = given_as k; first = given_as f; second = given_as s }

replaced :
    (with_contract zero_record asked ≡ record zero_record { contract = asked }) × (with_date zero_record march ≡ record zero_record { date = march })
    × (with_service zero_record (serving 5 6 7 8) ≡ record zero_record { service = serving 5 6 7 8 })
    × (with_past zero_record newer ≡ record zero_record { past = newer })
    × (with_readings zero_record (read 1 2 3 4) ≡ record zero_record { readings = read 1 2 3 4 })
replaced = (refl, refl, refl, refl, refl)

-- a reading of the four, by its own name and by the word for it
given :
    (with_billing (read 1 2 3 4) (given_as 9) ≡ read 9 2 3 4) × (with_control (read 1 2 3 4) (given_as 9) ≡ read 1 9 3 4)
    × (with_first (read 1 2 3 4) (given_as 9) ≡ read 1 2 9 4) × (with_second (read 1 2 3 4) (given_as 9) ≡ read 1 2 3 9)
    × (with_reading (read 1 2 3 4) Billing (given_as 9) ≡ read 9 2 3 4) × (with_reading (read 1 2 3 4) Control (given_as 9) ≡ read 1 9 3 4)
    × (with_reading (read 1 2 3 4) First (given_as 9) ≡ read 1 2 9 4) × (with_reading (read 1 2 3 4) Second (given_as 9) ≡ read 1 2 3 9)
given = (refl, refl, refl, refl, refl, refl, refl, refl)
