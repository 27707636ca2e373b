-- The rules under Closing (document 01): from what counts at a closing to its ground, hours, exact shares, month volume and figures.
-- Who asks says where the inputs come from: a point takes them from its record and store, the book looks back for them.
use Rattle.std.specs.Prelude.{ℕ, Option, None, Some, ◌+◌, ◌-◌, ◌*◌, ◌/◌, Bool, true, false, cond, ◌&&◌, ◌||◌, List, length, eqb}
use Rattle.std.specs.Prelude.{leb, ltb}
use Rattle.numbers.specs.Lists.{sum_to, sum, at}
use Rattle.sharing.specs.Shares.{ones, taken, every, shares, stretched}
use Rattle.power.specs.Power.{formula}
use Rattle.marks.specs.Marks.{peak_at, peak_count, working_days, capacity_sum, capacity_of}
use Rattle.marks.specs.Peak.{peak_part, peak_rule}
use Rattle.contract.specs.declared.Contract.{Contract}
use Rattle.contract.specs.Contract.{power_of}
use Rattle.rules.specs.declared.Figures.{Figures}

-- a reading of the month: none, the hours of an interval meter, or the volume of an integral one
pub data Measured : Type 0 where
  missing : Measured
  hourly : List ℕ → Measured
  whole : ℕ → Measured

-- a neighbour reading of the month: none, or its volume
abbrev pub Stated : Type 0
Stated = Option ℕ

-- the past: none, or its hours
abbrev pub PastHours : Type 0
PastHours = Option (List ℕ)

-- what counts at a closing, of a month or of any whole days: no date counts, since number 40 has made the marks as many as the hours
pub record Inputs : Type 0 where
  pub contract : Contract
  pub marks : List ℕ
  -- R: the missed months that count, this one included
  pub counted : ℕ
  pub billing : Measured
  pub control : Measured
  -- N
  pub neighbour : ℕ
  pub past : PastHours

-- an exact share, top / bottom
pub record Share : Type 0 where
  pub top : ℕ
  pub bottom : ℕ

pub record Outcome : Type 0 where
  pub ground : ℕ
  pub hours : List ℕ
  -- the exact share of each hour
  pub exact : ℕ → Share
  -- V, and in grounds 1, 3 and 7 the sum of the hours
  pub volume : ℕ

-- missed means no billing reading
unfoldable pub is_missed : Measured → Bool
is_missed missing = true
is_missed (hourly hs) = false
is_missed (whole v) = false

-- R is the run plus 1, and 3 if that is less while denials are 2
unfoldable pub counted_of : ℕ → ℕ → ℕ
counted_of run denials = cond (eqb denials 2 && ltb (run + 1) 3) 3 (run + 1)

-- N is the first neighbour reading if given, else the second, else 0
unfoldable pub neighbour_of : Stated → Stated → ℕ
neighbour_of (Some v) second = v
neighbour_of None (Some v) = v
neighbour_of None None = 0

-- T, n and P at a closing, and d of its marks
abbrev pub hours_in : Inputs → ℕ
hours_in i = length i.marks

abbrev pub peaks_in : Inputs → ℕ
peaks_in i = peak_count i.marks

abbrev pub days_in : List ℕ → ℕ
days_in marks = working_days marks (length marks / 24)

abbrev pub point_power : Inputs → ℕ
point_power i = power_of i.contract

-- HOW HOURS ARE FOUND, on ground g
-- as read: the exact share is the value itself
unfoldable pub as_read : ℕ → List ℕ → Outcome
as_read g hs = record { ground = g; hours = hs; exact = λ h. record { top = at hs h; bottom = 1 }; volume = sum hs }

-- V shared by weights: V × w(h) / S, of the weights as they are taken
unfoldable pub by_weights : ℕ → ℕ → List ℕ → Outcome
by_weights g v ws =
    let w : ℕ → ℕ = taken (length ws) every (at ws) in
    record { ground = g; hours = shares v ws; exact = λ h. record { top = v * w h; bottom = sum_to w (length ws) }; volume = v }

-- V by the peak rule: A / n in a peak hour, (V - A) / (T - n) in another; with n = 0 that is V / T, and n = T cannot pass number 42
unfoldable pub by_peaks : ℕ → Inputs → ℕ → Outcome
by_peaks g i v =
    let a : ℕ = peak_part v (point_power i) i.marks in
    record {
      ground = g;
      hours = peak_rule v (point_power i) i.marks;
      exact =
          λ h.
          cond (peak_at i.marks h) (record { top = a; bottom = peaks_in i })
          (record { top = v - a; bottom = hours_in i - peaks_in i });
      volume = v;
    }

-- V evenly over the month
unfoldable pub evenly : ℕ → Inputs → ℕ → Outcome
evenly g i v = by_weights g v (ones (hours_in i))

-- GROUNDS 8 AND 9: basis 1 or 2, V = P × T; basis 3, V = formula at T; evenly
unfoldable pub by_contract : Inputs → Outcome
by_contract i =
    cond (eqb i.contract.basis 3) (evenly 9 i (formula i.contract.cable (hours_in i)))
    (evenly 8 i (hours_in i * point_power i))

-- GROUND 7: no control reading; R at most 2; past: those of the past
unfoldable pub on_past : Inputs → PastHours → Outcome
on_past i None = by_contract i
on_past i (Some hs) = cond (leb i.counted 2) (as_read 7 (stretched hs (hours_in i))) (by_contract i)

-- the test of ground 6: n > 0, and A × d < n × C', so that A / n is below C' / d
abbrev pub ground_six : ℕ → ℕ → ℕ → ℕ → Bool
ground_six a d n c = ltb 0 n && ltb (a * d) (n * c)

-- the same of V and the hours that ground 4 would give
unfoldable pub ground_six_in : Inputs → ℕ → List ℕ → Bool
ground_six_in i v hs =
    ground_six (peak_part v (point_power i) i.marks) (days_in i.marks) (peaks_in i) (capacity_sum i.marks hs)

-- GROUNDS 5 AND 6: R at least 3, past and the test: as ground 4; otherwise the peak rule
unfoldable pub on_tested_past : Inputs → ℕ → List ℕ → Outcome
on_tested_past i v past = cond (ground_six_in i v (shares v past)) (by_weights 6 v past) (by_peaks 5 i v)

-- GROUNDS 4 TO 6: control, integral, V. R at most 2 and past: shared by the past; else 5 and 6; without a past the peak rule
unfoldable pub on_control_past : Inputs → ℕ → PastHours → Outcome
on_control_past i v None = by_peaks 5 i v
on_control_past i v (Some hs) =
    let past : List ℕ = stretched hs (hours_in i) in
    cond (leb i.counted 2) (by_weights 4 v past) (on_tested_past i v past)

-- GROUND 3: control, interval, as read; else 4 to 6 with V = max(0, K - N); else 7 to 9
unfoldable pub on_control : Inputs → Measured → Outcome
on_control i missing = on_past i i.past
on_control i (hourly hs) = as_read 3 hs
on_control i (whole k) = on_control_past i (k - i.neighbour) i.past

-- GROUND 1: billing, interval, as read; GROUND 2: billing, integral, V = max(0, B - N), peak rule; else 3 to 9
unfoldable pub on_billing : Inputs → Measured → Outcome
on_billing i missing = on_control i i.control
on_billing i (hourly hs) = as_read 1 hs
on_billing i (whole b) = by_peaks 2 i (b - i.neighbour)

-- THE RULES: the first ground that fits
unfoldable pub rules : Inputs → Outcome
rules i = on_billing i i.billing

-- ground 1 or 2: the month becomes the past of later ones
unfoldable pub becomes_past : Outcome → Bool
becomes_past u = eqb u.ground 1 || eqb u.ground 2

-- what a closing returns: ground, month volume, C over its hours, d from the marks, and capacity, C/d rounded half up; no day's marks are wrong
unfoldable pub figures : Outcome → List ℕ → Figures
figures u marks =
    record {
      ground = u.ground;
      volume = record { 0 = u.volume };
      capacity = record { 0 = capacity_of (capacity_sum marks u.hours) (days_in marks) };
      sum = record { 0 = capacity_sum marks u.hours };
      days = days_in marks;
      wrong_day = 0;
    }

-- ground and figures 0
abbrev pub no_figures : Figures
no_figures = record { ground = 0; volume = record { 0 = 0 }; capacity = record { 0 = 0 }; sum = record { 0 = 0 }; days = 0; wrong_day = 0 }
