-- What number 2 tells of a record that passes it, and how a record passes it. Assumes nothing.
use Prim.Native.Nat.{ℕ, ◌≤◌, zero-le}
use mathlib.Core.Path.{◌≡◌, refl}
use mathlib.Core.Bool.{Bool, true, false, not, ◌&&◌, ◌||◌, false≢true}
use mathlib.Core.List.{List, [], ◌∷◌}
use native.Mathlib.Omega.{arith}
use borrow.Author.Tests.{leb-true, le-leb, eqb-true}
use lib.Dec.{leb, ltb, eqb}
use Rattle.numbers.specs.Lists.{all_to}
use Rattle.numbers.proofs.Laws.{by_cases, both, or_true}
use Rattle.calendar.specs.declared.Date.{Date}
use Rattle.calendar.specs.Calendar.{is_open, month_number, is_month_number}
use Rattle.units.specs.Volumes.{greatest_total}
use Rattle.contract.specs.declared.Contract.{Contract}
use Rattle.record.specs.declared.Service.{Service}
use Rattle.record.specs.declared.Past.{Past}
use Rattle.record.specs.declared.Readings.{Readings}
use Rattle.record.specs.declared.Record.{Record}
use Rattle.record.specs.Record.{is_set, not_given, given_as, no_readings}
use Rattle.validity.specs.Valid.{all_from, all_of, contract_tests, service_tests, year_fits, latest_in_row, past_tests, reading_tests, readings_tests}
use Rattle.validity.specs.Valid.{volume_limit, record_tests, valid}

-- every test of a list, one by one
abbrev pub EachTest : List Bool → Type 0
EachTest [] = Unit {0}
EachTest (t ∷ ts) = (t ≡ true) × EachTest ts

first_held : (so : Bool) (ts : List Bool) → all_from so ts ≡ true → so ≡ true
first_held so [] h = h
first_held true (t ∷ ts) h = refl
first_held false (t ∷ ts) h = first_held false ts h

each_from : (so : Bool) (ts : List Bool) → all_from so ts ≡ true → EachTest ts
each_from so [] h = tt
each_from true (t ∷ ts) h = (first_held t ts h, each_from t ts h)
each_from false (t ∷ ts) h = absurd (false≢true (first_held false ts h))

pub each_test : (ts : List Bool) → all_of ts ≡ true → EachTest ts
each_test ts h = each_from true ts h

pub all : (ts : List Bool) → EachTest ts → all_of ts ≡ true
all [] e = refl
all (true ∷ ts) e = all ts e.1
all (false ∷ ts) e = absurd (false≢true e.0)

-- a record that passes, part by part
pub record Valid (r : Record) : Type 0 where
  pub opened : is_set r.opened ≡ true
  pub contract : all_of (contract_tests r.contract) ≡ true
  pub month : is_open r.date ≡ true
  pub service : all_of (service_tests r.service r.date) ≡ true
  pub past : all_of (past_tests r.past r.date) ≡ true
  pub readings : all_of (readings_tests r.readings r.contract (volume_limit r.date)) ≡ true
  pub total : leb r.total.0 greatest_total ≡ true

pub valid_parts : (r : Record) → valid r ≡ true → Valid r
unfolding valid
valid_parts r h =
    let e = each_test (record_tests r) h in
    record {
      opened = e.0;
      contract = e.1.0;
      month = e.1.1.0;
      service = e.1.1.1.0;
      past = e.1.1.1.1.0;
      readings = e.1.1.1.1.1.0;
      total = e.1.1.1.1.1.1.0;
    }

pub valid_from : (r : Record) → Valid r → valid r ≡ true
unfolding valid
valid_from r v = all (record_tests r) (v.opened, (v.contract, (v.month, (v.service, (v.past, (v.readings, (v.total, tt)))))))

-- run, service, denials and last fault
pub record ServiceFits (s : Service) (d : Date) : Type 0 where
  pub run : s.run ≤ 12000
  pub serving : s.serving ≤ 1
  pub denials : s.denials ≤ 2
  pub month : eqb s.fault 0 || is_month_number s.fault ≡ true
  pub before : s.fault ≤ month_number d

pub service_parts : (s : Service) (d : Date) → all_of (service_tests s d) ≡ true → ServiceFits s d
service_parts s d h =
    let e = each_test (service_tests s d) h in
    record {
      run = leb-true _ _ e.0;
      serving = leb-true _ _ e.1.0;
      denials = leb-true _ _ e.1.1.0;
      month = e.1.1.1.0;
      before = leb-true _ _ e.1.1.1.1.0;
    }

pub service_from : (s : Service) (d : Date) → ServiceFits s d → all_of (service_tests s d) ≡ true
service_from s d f =
    all (service_tests s d) (
      le-leb s.run 12000 f.run,
      (le-leb s.serving 1 f.serving, (le-leb s.denials 2 f.denials, (f.month, (le-leb s.fault (month_number d) f.before, tt)))),
    )

-- what the calls need of a record that passes
pub denials_most : (r : Record) → valid r ≡ true → r.service.denials ≤ 2
denials_most r h = (service_parts r.service r.date (valid_parts r h).service).denials

pub fault_most : (r : Record) → valid r ≡ true → r.service.fault ≤ 36000
fault_most r h =
    let f = service_parts r.service r.date (valid_parts r h).service in
    by_cases (eqb r.service.fault 0)
    (λ t. omega (arith, eqb-true r.service.fault 0 t))
    (λ g.
    let m = both (leb 24169 r.service.fault) (leb r.service.fault 36000) (rw g at f.month) in
    leb-true _ _ m.1)

-- rows and the latest past
pub record PastFits (p : Past) (d : Date) : Type 0 where
  pub years : all_to (year_fits p.years d) 12 ≡ true
  pub latest : eqb p.latest 0 || (is_month_number p.latest && ltb p.latest (month_number d)) ≡ true
  pub row : latest_in_row p ≡ true

pub past_parts : (p : Past) (d : Date) → all_of (past_tests p d) ≡ true → PastFits p d
past_parts p d h =
    let e = each_test (past_tests p d) h in
    record { years = e.0; latest = e.1.0; row = e.1.1.0 }

pub past_from : (p : Past) (d : Date) → PastFits p d → all_of (past_tests p d) ≡ true
past_from p d f = all (past_tests p d) (f.years, (f.latest, (f.row, tt)))

-- the month's readings
pub record ReadingsFit (g : Readings) (c : Contract) (limit : ℕ) : Type 0 where
  pub billing : all_of (reading_tests g.billing true (eqb c.billing 2) limit) ≡ true
  pub control : all_of (reading_tests g.control (not (eqb c.control 0)) (eqb c.control 2) limit) ≡ true
  pub first : all_of (reading_tests g.first true true limit) ≡ true
  pub second : all_of (reading_tests g.second true true limit) ≡ true

pub readings_parts : (g : Readings) (c : Contract) (limit : ℕ) → all_of (readings_tests g c limit) ≡ true → ReadingsFit g c limit
readings_parts g c limit h =
    let e = each_test (readings_tests g c limit) h in
    record { billing = e.0; control = e.1.0; first = e.1.1.0; second = e.1.1.1.0 }

pub readings_from : (g : Readings) (c : Contract) (limit : ℕ) → ReadingsFit g c limit → all_of (readings_tests g c limit) ≡ true
readings_from g c limit f = all (readings_tests g c limit) (f.billing, (f.control, (f.first, (f.second, tt))))

-- a reading that is not given fits any meter
pub missing_fits : (has whole : Bool) (limit : ℕ) → all_of (reading_tests not_given has whole limit) ≡ true
missing_fits has whole limit = all (reading_tests not_given has whole limit) (refl, (refl, (or_true has, (le-leb 0 limit zero-le, tt))))

-- hours of a meter that the contract has, and a volume of an integral one or a neighbour's within the limit
pub hours_fit : (whole : Bool) (limit : ℕ) → all_of (reading_tests (given_as 0) true whole limit) ≡ true
hours_fit whole limit = all (reading_tests (given_as 0) true whole limit) (refl, (refl, (refl, (le-leb 0 limit zero-le, tt))))

pub volume_fits : (v limit : ℕ) → v ≤ limit → all_of (reading_tests (given_as v) true true limit) ≡ true
volume_fits v limit l = all (reading_tests (given_as v) true true limit) (refl, (or_true (eqb v 0), (refl, (le-leb v limit l, tt))))

pub none_fit : (c : Contract) (limit : ℕ) → all_of (readings_tests no_readings c limit) ≡ true
none_fit c limit =
    readings_from no_readings c limit
    (record {
      billing = missing_fits true (eqb c.billing 2) limit;
      control = missing_fits (not (eqb c.control 0)) (eqb c.control 2) limit;
      first = missing_fits true true limit;
      second = missing_fits true true limit;
    })
