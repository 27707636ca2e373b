-- What holds of a point from its opening on. So no call is ever refused with 1, 2 or 45: the law `never_refused`.
use Rattle.std.specs.Prelude.{ℕ, ◌+◌, ◌-◌, ◌*◌, ◌≤◌, ◌<◌, ◌≡◌, true, cond, ◌&&◌, List, length, eqb}
use Rattle.numbers.specs.Lists.{at}
use Rattle.calendar.specs.declared.Date.{Date}
use Rattle.calendar.specs.Calendar.{open_hours, month_number}
use Rattle.units.specs.Volumes.{greatest_month_volume, greatest_total}
use Rattle.record.specs.declared.Reading.{Reading}
use Rattle.record.specs.Record.{is_set}
use Rattle.validity.specs.Valid.{valid}
use Rattle.store.specs.Store.{store_fits}
use Rattle.rules.specs.Rules.{Outcome}
use Rattle.model.specs.Model.{State}

-- the record passes number 2 and has its twelve years, and the store passes numbers 1 and 45
pub record StateFits (s : State) : Type 0 where
  pub record_fits : valid s.point ≡ true
  pub twelve : length s.point.past.years ≡ 12
  pub words : length s.store ≡ 10416
  pub store_fits_lem : store_fits s.store ≡ true

-- a closing that works out u leaves the run and the total within their limits
pub record Room (s : State) (u : Outcome) : Type 0 where
  pub run : s.point.service.run < 12000
  pub total : s.point.total.0 + u.volume ≤ greatest_total

-- the months since January 2014
abbrev pub elapsed : State → ℕ
elapsed s = month_number s.point.date - 24169

-- the run grows by at most 1 a month, and the total by at most 744 × 3,000,000
pub record Sound (s : State) : Type 0 where
  pub fits : StateFits s
  pub run : s.point.service.run ≤ elapsed s
  pub total : s.point.total.0 ≤ greatest_month_volume * elapsed s

-- row r is 0 from its hour `used` on
abbrev pub ZeroFrom : List ℕ → ℕ → ℕ → Type 0
ZeroFrom store r used = (h : ℕ) → used ≤ h → h < 744 → at store (744 * r + h) ≡ 0

-- how many hours of a row are used: those of the month whose year it holds, and of a reading of an interval meter that is given
abbrev pub month_used : List ℕ → ℕ → ℕ
month_used years k = cond (eqb (at years k) 0) 0 (open_hours (record { year = at years k; month = k + 1 }))

abbrev pub reading_used : Reading → ℕ → Date → ℕ
reading_used g kind d = cond (is_set g.given && eqb kind 1) (open_hours d) 0

-- UNUSED WORDS ARE 0
pub record Unused (s : State) : Type 0 where
  pub months : (k : ℕ) → k < 12 → ZeroFrom s.store k (month_used s.point.past.years k)
  pub billing : ZeroFrom s.store 12 (reading_used s.point.readings.billing s.point.contract.billing s.point.date)
  pub control : ZeroFrom s.store 13 (reading_used s.point.readings.control s.point.contract.control s.point.date)
