-- Records made and changed (document 01, 'What a point keeps'). What a call replaces has a function that replaces it.
use Rattle.std.specs.Prelude.{ℕ, Bool, eqb}
use Rattle.numbers.specs.Lists.{zeros}
use Rattle.units.specs.declared.Kwh.{Kwh}
use Rattle.calendar.specs.declared.Date.{Date}
use Rattle.contract.specs.declared.Contract.{Contract}
use Rattle.contract.specs.Contract.{no_power, no_cable}
use Rattle.record.specs.declared.Service.{Service}
use Rattle.record.specs.declared.Past.{Past}
use Rattle.record.specs.declared.Reading.{Reading}
use Rattle.record.specs.declared.Readings.{Readings}
use Rattle.record.specs.declared.Record.{Record}
use Rattle.record.specs.declared.ReadingOf.{ReadingOf}
use Rattle.record.specs.declared.ReadingOf.TheVariants.{Billing, Control, First, Second}

-- a flag: 1 for yes
abbrev pub is_set : ℕ → Bool
is_set flag = eqb flag 1

abbrev pub kwh : ℕ → Kwh
kwh v = record { 0 = v }

-- a reading that is not given, and one that is, with its volume, 0 for hours
abbrev pub not_given : Reading
not_given = record { given = 0; volume = kwh 0 }

abbrev pub given_as : ℕ → Reading
given_as v = record { given = 1; volume = kwh v }

abbrev pub no_readings : Readings
no_readings = record { billing = not_given; control = not_given; first = not_given; second = not_given }

-- no row holds a year, and there is no latest past month
abbrev pub no_past : Past
no_past = record { years = zeros 12; latest = 0 }

abbrev pub no_service : Service
no_service = record { run = 0; serving = 0; denials = 0; fault = 0 }

-- an opening refused returns a record of zeros, not open
abbrev pub zero_record : Record
zero_record =
    record {
      opened = 0;
      contract = record { billing = 0; control = 0; basis = 0; power = no_power; cable = no_cable };
      date = record { year = 0; month = 0 };
      service = no_service;
      past = no_past;
      readings = no_readings;
      total = kwh 0;
    }

-- in service, with no run, denial or fault
abbrev pub fresh_service : Service
fresh_service = record no_service { serving = 1 }

-- as an opening leaves it: the point is in service, the named month is open, all else is 0 or missing
abbrev pub fresh_record : Contract → Date → Record
fresh_record c d =
    record {
      opened = 1;
      contract = c;
      date = d;
      service = fresh_service;
      past = no_past;
      readings = no_readings;
      total = kwh 0;
    }

-- A PART REPLACED
abbrev pub with_contract : Record → Contract → Record
with_contract r c = record r { contract = c }

abbrev pub with_date : Record → Date → Record
with_date r d = record r { date = d }

abbrev pub with_service : Record → Service → Record
with_service r s = record r { service = s }

abbrev pub with_past : Record → Past → Record
with_past r p = record r { past = p }

abbrev pub with_readings : Record → Readings → Record
with_readings r g = record r { readings = g }

abbrev pub with_serving : Service → ℕ → Service
with_serving s flag = record s { serving = flag }

abbrev pub with_denials : Service → ℕ → Service
with_denials s n = record s { denials = n }

abbrev pub with_run : Service → ℕ → Service
with_run s n = record s { run = n }

abbrev pub with_billing : Readings → Reading → Readings
with_billing g x = record g { billing = x }

abbrev pub with_control : Readings → Reading → Readings
with_control g x = record g { control = x }

abbrev pub with_first : Readings → Reading → Readings
with_first g x = record g { first = x }

abbrev pub with_second : Readings → Reading → Readings
with_second g x = record g { second = x }

-- the reading of one of the four replaced
abbrev pub with_reading : Readings → ReadingOf → Reading → Readings
with_reading g Billing x = with_billing g x
with_reading g Control x = with_control g x
with_reading g First x = with_first g x
with_reading g Second x = with_second g x
