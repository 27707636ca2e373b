-- What is right of an outcome: hours that sum to its volume, each near its exact share; and of which inputs the rules give it, which are those
-- of a month or of any whole days.
use Rattle.std.specs.Prelude.{ℕ, ◌+◌, ◌*◌, ◌≤◌, ◌<◌, ◌/◌, ◌≡◌, true, false, List, length, eqb}
use Rattle.numbers.specs.Lists.{sum, at, none_above}
use Rattle.units.specs.Volumes.{greatest_volume_read, greatest_month_volume}
use Rattle.power.specs.Power.{cable_fits}
use Rattle.marks.specs.Marks.{crowded}
use Rattle.rules.specs.Rules.{Measured, hourly, whole, PastHours, Inputs, Share, Outcome, hours_in, becomes_past}
use Rattle.std.specs.Prelude.{Some}

-- an hour is less than one kWh from its exact share
pub record NearShare (x : ℕ) (q : Share) : Type 0 where
  pub below : x * q.bottom < q.top + q.bottom
  pub above : q.top < x * q.bottom + q.bottom

-- of t hours, with a volume of at most k
pub record RightUpTo (k t : ℕ) (u : Outcome) : Type 0 where
  pub long : length u.hours ≡ t
  pub sums : sum u.hours ≡ u.volume
  pub near : (h : ℕ) → h < t → NearShare (at u.hours h) (u.exact h)
  pub most : u.volume ≤ k
  -- the hours of ground 1 or 2 fit a row
  pub small : becomes_past u ≡ true → none_above 3000000 u.hours ≡ true

-- at most 744 × 3,000,000
abbrev pub Right : ℕ → Outcome → Type 0
Right t u = RightUpTo greatest_month_volume t u

-- a reading of t hours
pub record HoursFit (t : ℕ) (hs : List ℕ) : Type 0 where
  pub long : length hs ≡ t
  pub small : none_above 1000000 hs ≡ true

-- and the volume of an integral one is at most k
pub record MeasuredFits (k t : ℕ) (m : Measured) : Type 0 where
  pub hours : (hs : List ℕ) → m ≡ hourly hs → HoursFit t hs
  pub volume : (v : ℕ) → m ≡ whole v → v ≤ k

abbrev pub PastHoursFit : PastHours → Type 0
PastHoursFit p = (hs : List ℕ) → p ≡ Some hs → none_above 3000000 hs ≡ true

-- how many days the marks are of
abbrev pub days_of : Inputs → ℕ
days_of i = hours_in i / 24

-- what a point that is closed brings: marks of 1 to 31 whole days that pass 42, a power and readings within their limits. The control volume
-- may be that of a whole month, however few the hours
pub record InputsFit (i : Inputs) : Type 0 where
  pub whole_days : hours_in i ≡ 24 * days_of i
  pub some : 0 < days_of i
  pub few : days_of i ≤ 31
  pub not_crowded : crowded i.marks (days_of i) ≡ false
  pub power : i.contract.power.0 ≤ 1000000
  pub cable : eqb i.contract.basis 3 ≡ true → cable_fits i.contract.cable ≡ true
  pub billing : MeasuredFits (hours_in i * 1000000) (hours_in i) i.billing
  pub control : MeasuredFits greatest_volume_read (hours_in i) i.control
  pub past : PastHoursFit i.past
