-- The grounds of a closing (document 01, 'Closing') stated a second time: what a settlement engineer would check of the ground, the hours, their exact
-- shares and the volume against the marks, the readings, the past and the contract, over all inputs of a point that is closed. What stands in
-- quotation marks is what the engineer would say, and not document 01's words.
use Rattle.std.specs.Prelude.{ℕ, ◌+◌, ◌-◌, ◌*◌, ◌≤◌, ◌<◌, ◌≡◌, ◌≢◌, min, max, true, false, ◌||◌, List, length, eqb}
use Rattle.std.specs.Prelude.{Some, None}
use Rattle.numbers.specs.Lists.{sum_to, at}
use Rattle.contract.specs.declared.Contract.{Contract}
use Rattle.rules.specs.Rules.{Inputs, Outcome, Measured, missing, hourly, whole, Stated, Share, counted_of, neighbour_of, rules, figures}
use Rattle.rules.specs.Right.{InputsFit}
use Rattle.ground_laws.specs.Counted.{peak_hour, other_hour, capacity_hour, peaks_among, days_counted, only, one_each, together, Even, any_hour, past_hour}
use Rattle.ground_laws.specs.Counted.{ToNearest, Running, cable_work, IsPower}

-- R: "the run and this month, and where there are two denials the greater of that and 3"
pub record MonthsCounted (run denials counted : ℕ) : Type 0 where
  pub few : denials ≢ 2 → counted ≡ run + 1
  pub two : denials ≡ 2 → counted ≡ max (run + 1) 3

-- N: "the first neighbour reading if given, whatever the second says; the second if it alone is given; 0 without either"
pub record NeighbourVolume (first second : Stated) (neighbour : ℕ) : Type 0 where
  pub first_given : (v : ℕ) → first ≡ Some v → neighbour ≡ v
  pub second_given : (v : ℕ) → first ≡ None → second ≡ Some v → neighbour ≡ v
  pub none : first ≡ None → second ≡ None → neighbour ≡ 0

-- WHICH GROUND: the readings, R and the past say which it is
pub record Chosen (i : Inputs) (ground : ℕ) : Type 0 where
  -- "the billing meter was read"
  pub billing_hours : (hs : List ℕ) → i.billing ≡ hourly hs → ground ≡ 1
  pub billing_volume : (b : ℕ) → i.billing ≡ whole b → ground ≡ 2
  -- "it was not, but the control meter was"
  pub control_hours : (hs : List ℕ) → i.billing ≡ missing → i.control ≡ hourly hs → ground ≡ 3
  pub by_past : (k : ℕ) (hs : List ℕ) → i.billing ≡ missing → i.control ≡ whole k → i.past ≡ Some hs → i.counted ≤ 2 → ground ≡ 4
  pub tested : (k : ℕ) (hs : List ℕ) → i.billing ≡ missing → i.control ≡ whole k → i.past ≡ Some hs → 2 < i.counted
      → eqb ground 5 || eqb ground 6 ≡ true
  pub by_peaks : (k : ℕ) → i.billing ≡ missing → i.control ≡ whole k → i.past ≡ None → ground ≡ 5
  -- "neither was"
  pub past : (hs : List ℕ) → i.billing ≡ missing → i.control ≡ missing → i.past ≡ Some hs → i.counted ≤ 2 → ground ≡ 7
  pub power : i.billing ≡ missing → i.control ≡ missing → i.past ≡ None → eqb i.contract.basis 3 ≡ false → ground ≡ 8
  pub cable : i.billing ≡ missing → i.control ≡ missing → i.past ≡ None → eqb i.contract.basis 3 ≡ true → ground ≡ 9
  pub late_power : i.billing ≡ missing → i.control ≡ missing → 2 < i.counted → eqb i.contract.basis 3 ≡ false → ground ≡ 8
  pub late_cable : i.billing ≡ missing → i.control ≡ missing → 2 < i.counted → eqb i.contract.basis 3 ≡ true → ground ≡ 9

-- "the hours are as many as the marks, and make up the month volume"
pub record MadeUp (i : Inputs) (u : Outcome) : Type 0 where
  pub long : length u.hours ≡ length i.marks
  pub sums : sum_to (at u.hours) (length i.marks) ≡ u.volume

-- GROUNDS 2, 4, 5 AND 6: "the volume is what was read, less that of the neighbour, and 0 if that is more"
pub record Volume (reading : Measured) (neighbour volume : ℕ) : Type 0 where
  pub read : ℕ
  pub is : reading ≡ whole read
  pub less : volume ≡ read - neighbour

-- "the billing meter was not read, and the volume is that of the control meter"
pub record ControlVolume (i : Inputs) (u : Outcome) : Type 0 where
  pub unread : i.billing ≡ missing
  pub volume : Volume i.control i.neighbour u.volume

-- THE EXACT SHARE of an hour: "q is top / bottom", in whatever terms, as 2 / 4 is 1 / 2
pub record Fraction (q : Share) (top bottom : ℕ) : Type 0 where
  pub some : 0 < q.bottom
  pub is : q.top * bottom ≡ top * q.bottom

-- "p and q are one fraction"
pub record SameShare (p q : Share) : Type 0 where
  pub some : 0 < q.bottom
  pub is : Fraction p q.top q.bottom

-- on grounds 1, 3 and 7: "the hour itself"
pub record ExactAsRead (i : Inputs) (u : Outcome) : Type 0 where
  pub each : (h : ℕ) → h < length i.marks → Fraction (u.exact h) (at u.hours h) 1

-- and on grounds 8 and 9: "V / T"
pub record ExactEvenly (i : Inputs) (u : Outcome) : Type 0 where
  pub each : (h : ℕ) → h < length i.marks → Fraction (u.exact h) u.volume (length i.marks)

-- BY THE PEAK RULE
pub record ByPeaks (i : Inputs) (u : Outcome) : Type 0 where
  pub power : ℕ
  pub is_power : IsPower i.contract power
  -- "the peak hours together get what n hours of P take, and no more than there is"
  pub peaks_get : together (peak_hour i.marks) u.hours (length i.marks) ≡ min u.volume (peaks_among i.marks * power)
  -- "evenly over the peak hours, and evenly over the others"
  pub peaks : Even (peak_hour i.marks) u.hours (length i.marks)
  pub others : Even (other_hour i.marks) u.hours (length i.marks)
  -- "with no peak hour, evenly over all"
  pub all : peaks_among i.marks ≡ 0 → Even any_hour u.hours (length i.marks)
  pub running : 0 < peaks_among i.marks
      → Running (min u.volume (peaks_among i.marks * power)) (only (peak_hour i.marks) one_each) (only (peak_hour i.marks) (at u.hours)) (length i.marks)
  pub others_running :
      Running (u.volume - min u.volume (peaks_among i.marks * power)) (only (other_hour i.marks) one_each) (only (other_hour i.marks) (at u.hours))
      (length i.marks)
  -- "the exact share of a peak hour is A / n, of another (V - A) / (T - n)", and without peak hours that is V / T
  pub exact_peak : (h : ℕ) → h < length i.marks → peak_hour i.marks h ≡ true
      → Fraction (u.exact h) (min u.volume (peaks_among i.marks * power)) (peaks_among i.marks)
  pub exact_other : (h : ℕ) → h < length i.marks → other_hour i.marks h ≡ true
      → Fraction (u.exact h) (u.volume - min u.volume (peaks_among i.marks * power)) (length i.marks - peaks_among i.marks)

-- A VOLUME SHARED BY THE PAST, p(h) in hour h of it and S in all
pub record ByPast (i : Inputs) (volume : ℕ) (hours past : List ℕ) (s : ℕ) : Type 0 where
  pub given : i.past ≡ Some past
  -- "each hour is less than 1 kWh from V × p(h) / S"
  pub below : 0 < s → (h : ℕ) → h < length i.marks → at hours h * s < volume * past_hour past h + s
  pub above : 0 < s → (h : ℕ) → h < length i.marks → volume * past_hour past h < at hours h * s + s
  -- "an hour without consumption in the past gets none"
  pub none : 0 < s → (h : ℕ) → h < length i.marks → past_hour past h ≡ 0 → at hours h ≡ 0
  pub running : 0 < s → Running volume (past_hour past) (at hours) (length i.marks)
  -- "and a past without any is shared evenly"
  pub empty : s ≡ 0 → Even any_hour hours (length i.marks)
  pub empty_running : s ≡ 0 → Running volume one_each (at hours) (length i.marks)

pub record SharedByPast (i : Inputs) (volume : ℕ) (hours : List ℕ) : Type 0 where
  pub past : List ℕ
  pub by_past : ByPast i volume hours past (sum_to (past_hour past) (length i.marks))

-- "the exact share is V × p(h) / S, and V / T where S is 0"
pub record ExactOver (i : Inputs) (u : Outcome) (past : List ℕ) (s : ℕ) : Type 0 where
  pub each : 0 < s → (h : ℕ) → h < length i.marks → Fraction (u.exact h) (u.volume * past_hour past h) s
  pub empty : s ≡ 0 → (h : ℕ) → h < length i.marks → Fraction (u.exact h) u.volume (length i.marks)

pub record ExactByPast (i : Inputs) (u : Outcome) : Type 0 where
  pub each : (past : List ℕ) → i.past ≡ Some past → ExactOver i u past (sum_to (past_hour past) (length i.marks))

-- THE TEST of grounds 5 and 6: "a peak hour would get less than a capacity hour of a working day has by the past", A / n below C' / d
pub record Tested (i : Inputs) (volume : ℕ) (hours : List ℕ) : Type 0 where
  pub late : 2 < i.counted
  pub power : ℕ
  pub is_power : IsPower i.contract power
  pub some : 0 < peaks_among i.marks
  pub less :
      min volume (peaks_among i.marks * power) * days_counted i.marks
      < peaks_among i.marks * together (capacity_hour i.marks) hours (length i.marks)

-- "the past would not give that"
pub record Untested (i : Inputs) (volume : ℕ) : Type 0 where
  pub late : 2 < i.counted
  pub hours : List ℕ
  pub shared : SharedByPast i volume hours
  pub power : ℕ
  pub is_power : IsPower i.contract power
  pub not_less : 0 < peaks_among i.marks
      → peaks_among i.marks * together (capacity_hour i.marks) hours (length i.marks)
      ≤ min volume (peaks_among i.marks * power) * days_counted i.marks

-- THE NINE GROUNDS
-- 1: "the hours are those of the billing meter"
pub record BillingHours (i : Inputs) (u : Outcome) : Type 0 where
  pub hours : i.billing ≡ hourly u.hours
  pub exact : ExactAsRead i u

-- 2: "its volume, by the peak rule"
pub record BillingVolume (i : Inputs) (u : Outcome) : Type 0 where
  pub volume : Volume i.billing i.neighbour u.volume
  pub hours : ByPeaks i u

-- 3: "the billing meter was not read, and the hours are those of the control meter"
pub record ControlHours (i : Inputs) (u : Outcome) : Type 0 where
  pub unread : i.billing ≡ missing
  pub hours : i.control ≡ hourly u.hours
  pub exact : ExactAsRead i u

-- 4: "its volume, by the past, while R is at most 2"
pub record ControlByPast (i : Inputs) (u : Outcome) : Type 0 where
  pub volume : ControlVolume i u
  pub few : i.counted ≤ 2
  pub hours : SharedByPast i u.volume u.hours
  pub exact : ExactByPast i u

-- 5: "its volume, by the peak rule, where there is no past, or R is at least 3 and the test does not allow it"
pub record ControlByPeaks (i : Inputs) (u : Outcome) : Type 0 where
  pub volume : ControlVolume i u
  pub untested : (past : List ℕ) → i.past ≡ Some past → Untested i u.volume
  pub hours : ByPeaks i u

-- 6: "its volume, still by the past, where R is at least 3 and the test allows it"
pub record ControlByPastTested (i : Inputs) (u : Outcome) : Type 0 where
  pub volume : ControlVolume i u
  pub tested : Tested i u.volume u.hours
  pub hours : SharedByPast i u.volume u.hours
  pub exact : ExactByPast i u

-- 7: "no meter was read, and the month is that of the past"
pub record OfPast (i : Inputs) (u : Outcome) : Type 0 where
  pub billing : i.billing ≡ missing
  pub control : i.control ≡ missing
  pub few : i.counted ≤ 2
  pub past : List ℕ
  pub given : i.past ≡ Some past
  pub hours : (h : ℕ) → h < length i.marks → at u.hours h ≡ past_hour past h
  pub exact : ExactAsRead i u

-- 8: "no meter was read, and the agreed power, on basis 2 the point's share of it, flows in every hour"
pub record ByPower (i : Inputs) (u : Outcome) : Type 0 where
  pub billing : i.billing ≡ missing
  pub control : i.control ≡ missing
  pub basis : eqb i.contract.basis 3 ≡ false
  pub volume : u.volume ≡ i.contract.power.0 * length i.marks
  pub even : Even any_hour u.hours (length i.marks)
  pub running : Running u.volume one_each (at u.hours) (length i.marks)
  pub exact : ExactEvenly i u

-- 9: "no meter was read, and what the cable gives in the month goes evenly"
pub record ByCable (i : Inputs) (u : Outcome) : Type 0 where
  pub billing : i.billing ≡ missing
  pub control : i.control ≡ missing
  pub basis : eqb i.contract.basis 3 ≡ true
  pub volume : ToNearest (cable_work i.contract.cable (length i.marks)) 1500000 u.volume
  pub even : Even any_hour u.hours (length i.marks)
  pub running : Running u.volume one_each (at u.hours) (length i.marks)
  pub exact : ExactEvenly i u

-- THE LAWS of an outcome of these inputs
pub record Lawful (i : Inputs) (u : Outcome) : Type 0 where
  pub made_up : MadeUp i u
  pub one : u.ground ≡ 1 → BillingHours i u
  pub two : u.ground ≡ 2 → BillingVolume i u
  pub three : u.ground ≡ 3 → ControlHours i u
  pub four : u.ground ≡ 4 → ControlByPast i u
  pub five : u.ground ≡ 5 → ControlByPeaks i u
  pub six : u.ground ≡ 6 → ControlByPastTested i u
  pub seven : u.ground ≡ 7 → OfPast i u
  pub eight : u.ground ≡ 8 → ByPower i u
  pub nine : u.ground ≡ 9 → ByCable i u

-- WHAT THEY LEAVE OPEN: nothing but the terms of an exact share
pub record Same (u w : Outcome) : Type 0 where
  pub ground : u.ground ≡ w.ground
  pub hours : u.hours ≡ w.hours
  pub volume : u.volume ≡ w.volume
  pub exact : (h : ℕ) → h < length u.hours → SameShare (u.exact h) (w.exact h)

-- THE FIGURES of an outcome: C is what the capacity hours have, d the days with one, capacity C / d
pub record Figured (i : Inputs) (u : Outcome) : Type 0 where
  pub ground : (figures u i.marks).ground ≡ u.ground
  pub volume : (figures u i.marks).volume.0 ≡ u.volume
  pub sum : (figures u i.marks).sum.0 ≡ together (capacity_hour i.marks) u.hours (length i.marks)
  -- "C is at most the month volume"
  pub most : (figures u i.marks).sum.0 ≤ u.volume
  pub days : (figures u i.marks).days ≡ days_counted i.marks
  pub capacity : 0 < days_counted i.marks → ToNearest (figures u i.marks).sum.0 (days_counted i.marks) (figures u i.marks).capacity.0
  pub none : days_counted i.marks ≡ 0 → (figures u i.marks).capacity.0 ≡ 0

-- THE LAWS OF THE GROUNDS, of every input that a point can bring
pub record GroundLaws : Type 0 where
  -- "P is one number"
  pub one_power : (c : Contract) (p q : ℕ) → IsPower c p → IsPower c q → p ≡ q
  -- R and N, which record and book count by the same two definitions
  pub months : (run denials : ℕ) → MonthsCounted run denials (counted_of run denials)
  pub neighbour : (first second : Stated) → NeighbourVolume first second (neighbour_of first second)
  pub chosen : (i : Inputs) → Chosen i (rules i).ground
  pub lawful : (i : Inputs) → InputsFit i → Lawful i (rules i)
  -- "whoever works out a month by these laws gets what the rules get"
  pub complete : (i : Inputs) → InputsFit i → (u : Outcome) → Chosen i u.ground → Lawful i u → Same u (rules i)
  pub figured : (i : Inputs) → InputsFit i → Figured i (rules i)
