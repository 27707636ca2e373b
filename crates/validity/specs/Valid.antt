-- Number 2 (document 01, 'Who causes which number'): when a record is one that a point can have. A test for each sentence, in the order of the record.
use Rattle.std.specs.Prelude.{ℕ, ◌+◌, ◌*◌, Bool, true, not, cond, ◌&&◌, ◌||◌, List, [], ◌∷◌, leb, ltb, eqb}
use Rattle.numbers.specs.Lists.{all_to, at}
use Rattle.calendar.specs.declared.Date.{Date}
use Rattle.calendar.specs.Calendar.{is_open, open_hours, month_number, is_month_number, year_of, place_of}
use Rattle.units.specs.Volumes.{greatest_total}
use Rattle.power.specs.declared.Cable.{Cable}
use Rattle.power.specs.Power.{cable_fits}
use Rattle.contract.specs.declared.Contract.{Contract}
use Rattle.contract.specs.Contract.{is_billing_kind, is_control_kind, is_agreed}
use Rattle.record.specs.declared.Service.{Service}
use Rattle.record.specs.declared.Past.{Past}
use Rattle.record.specs.declared.Reading.{Reading}
use Rattle.record.specs.declared.Readings.{Readings}
use Rattle.record.specs.declared.Record.{Record}
use Rattle.record.specs.Record.{is_set}

-- whether every test of a list holds
abbrev pub all_from : Bool → List Bool → Bool
all_from so [] = so
all_from so (t ∷ ts) = all_from (so && t) ts

abbrev pub all_of : List Bool → Bool
all_of ts = all_from true ts

-- a cable's values where the basis has no cable
abbrev pub is_no_cable : Cable → Bool
is_no_cable k = eqb k.amperes 0 && eqb k.volts 0 && eqb k.cosine 0 && eqb k.phases 0

-- what the basis does not use is 0
abbrev pub rest_is_zero : Contract → Bool
rest_is_zero c = cond (eqb c.basis 3) (eqb c.power.0 0) (is_no_cable c.cable)

abbrev pub contract_tests : Contract → List Bool
contract_tests c =
    -- "billing meter 1 interval or 2 integral"
    is_billing_kind c.billing
    -- "control meter 0 none, 1 interval, 2 integral"
    ∷ is_control_kind c.control
    -- "basis": one of three
    ∷ (is_agreed c.basis || eqb c.basis 3)
    -- "with P, 0 to 1,000,000"
    ∷ leb c.power.0 1000000
    -- "or the cable values as given", within the limits of basis 3
    ∷ (not (eqb c.basis 3) || cable_fits c.cable)
    -- "fields that the basis doesn't use are 0"
    ∷ rest_is_zero c
    ∷ []

abbrev pub service_tests : Service → Date → List Bool
service_tests s d =
    -- "run of missed months (0 to 12,000)"
    leb s.run 12000
    -- "in or out of service"
    ∷ leb s.serving 1
    -- "denials 0 to 2"
    ∷ leb s.denials 2
    -- "a last fault neither 0 nor in 2014 to 2999"
    ∷ (eqb s.fault 0 || is_month_number s.fault)
    -- "a date after the open month": the last fault
    ∷ leb s.fault (month_number d)
    ∷ []

-- the row of calendar month k + 1 holds no year, or a year y of 2014 to 2999 whose month k + 1 is before the open month
abbrev pub year_before : ℕ → ℕ → Date → Bool
year_before y k d =
    eqb y 0 || (leb 2014 y && leb y 2999 && ltb (month_number (record { year = y; month = k + 1 })) (month_number d))

abbrev pub year_fits : List ℕ → Date → ℕ → Bool
year_fits years d k = year_before (at years k) k d

-- the row of the latest past month holds its year, or there is no such month
abbrev pub latest_in_row : Past → Bool
latest_in_row p = eqb p.latest 0 || eqb (at p.years (place_of p.latest)) (year_of p.latest)

abbrev pub past_tests : Past → Date → List Bool
past_tests p d =
    -- "for each calendar month the year its row holds, 0 for none", and "a row's year [..] not before" the open month
    all_to (year_fits p.years d) 12
    -- "the latest past month, 0 for none", and "the latest past not before" the open month
    ∷ (eqb p.latest 0 || (is_month_number p.latest && ltb p.latest (month_number d)))
    -- "the latest past month not in its row"
    ∷ latest_in_row p
    ∷ []

-- T × 1,000,000
unfoldable pub volume_limit : Date → ℕ
volume_limit d = open_hours d * 1000000

-- of a meter that the contract has or lacks, and that is integral, or a neighbour's, or not
abbrev pub reading_tests : Reading → Bool → Bool → ℕ → List Bool
reading_tests g has whole limit =
    -- "for each of this month's readings whether it is given"
    leb g.given 1
    -- "and the volume of an integral or neighbour one, else 0"
    ∷ (eqb g.volume.0 0 || (is_set g.given && whole))
    -- "a reading given of a form the contract lacks"
    ∷ (has || not (is_set g.given))
    -- "or with a volume above T × 1,000,000"
    ∷ leb g.volume.0 limit
    ∷ []

abbrev pub readings_tests : Readings → Contract → ℕ → List Bool
readings_tests g c limit =
    all_of (reading_tests g.billing true (eqb c.billing 2) limit)
    ∷ all_of (reading_tests g.control (not (eqb c.control 0)) (eqb c.control 2) limit)
    ∷ all_of (reading_tests g.first true true limit)
    ∷ all_of (reading_tests g.second true true limit)
    ∷ []

abbrev pub record_tests : Record → List Bool
record_tests r =
    -- "record not open"
    is_set r.opened
    ∷ all_of (contract_tests r.contract)
    -- "open year and month, January 3000 (T 744) included"
    ∷ is_open r.date
    ∷ all_of (service_tests r.service r.date)
    ∷ all_of (past_tests r.past r.date)
    ∷ all_of (readings_tests r.readings r.contract (volume_limit r.date))
    -- "running total, at most 30,000,000,000,000"
    ∷ leb r.total.0 greatest_total
    ∷ []

-- NUMBER 2 does not apply
unfoldable pub valid : Record → Bool
valid r = all_of (record_tests r)
