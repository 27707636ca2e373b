-- The rules on values, piece by piece: kinds of calls, R, N, the test of ground 6, d, figures, and the numbers of grounds and points. By
-- computation; assumes nothing. Whole closings are in GroundExamples, here and in `ground_laws`, and those of a month in the crate `whole_months`.
use Prim.Native.Nat.{ℕ}
use mathlib.Core.Path.{◌≡◌, refl}
use mathlib.Core.Bool.{true, false}
use mathlib.Core.List.{List, [], ◌∷◌}
use lib.ListN.{set}
use Rattle.numbers.specs.Lists.{zeros}
use Rattle.numbers.specs.Rounding.{half_up}
use Rattle.sharing.specs.Shares.{portion, taken, spread, shares_over, apart_at, shares_apart, stretched}
use Rattle.power.specs.Power.{formula}
use Rattle.marks.specs.Marks.{peak_count, working_days, capacity_sum, capacity_of}
use Rattle.marks.specs.Peak.{peak_part, peak_rule}
use Rattle.contract.specs.declared.Contract.{Contract}
use Rattle.contract.specs.Contract.{no_cable, power_of}
use Rattle.rules.specs.declared.Figures.{Figures}
use Rattle.rules.specs.declared.Ground.TheVariants.{BillingHours, BillingVolume, ControlHours, ControlByPast}
use Rattle.rules.specs.declared.Ground.TheVariants.{ControlByPeaks, ControlByPastTested, Past, Power, Cable}
use Rattle.rules.specs.declared.Clause.TheVariants.{Missed, DeniedTwice, OutOfService}
use Rattle.rules.specs.Calls.{billing_hours, billing_volume, neighbour, failure, denial, permission, read, report, closing}
use Rattle.rules.specs.Calls.{is_closing, marks_of, buffer_of, is_fault}
use Rattle.rules.specs.Grounds.{ground_number, is_measured, clause_number}
use Rattle.rules.specs.Rules.{Measured, missing, hourly, whole, PastHours, Inputs, is_missed, counted_of, neighbour_of, days_in}
use Rattle.rules.specs.Rules.{as_read, by_weights, by_peaks, evenly, by_contract, on_past, ground_six, ground_six_in, on_tested_past, on_control_past}
use Rattle.rules.specs.Rules.{on_control, on_billing, rules, becomes_past, figures, no_figures}
use Rattle.std.specs.Prelude.{None, Some}

-- only a closing closes, and has marks and an hour buffer
shapes :
    (is_closing (read (billing_volume 5)) ≡ false) × (is_closing (report denial) ≡ false) × (is_closing (closing [] []) ≡ true)
    × (marks_of (read (billing_hours (7 ∷ []))) ≡ []) × (marks_of (report (failure 1)) ≡ []) × (marks_of (closing (3 ∷ []) (9 ∷ [])) ≡ 3 ∷ [])
    × (buffer_of (read (neighbour 1 5)) ≡ []) × (buffer_of (report permission) ≡ []) × (buffer_of (closing (3 ∷ []) (9 ∷ [])) ≡ 9 ∷ [])
unfolding is_closing marks_of buffer_of
shapes = (refl, refl, refl, refl, refl, refl, refl, refl, refl)

-- reasons 1 and 2 are faults
faults : (is_fault 0 ≡ false) × (is_fault 1 ≡ true) × (is_fault 2 ≡ true) × (is_fault 3 ≡ false) × (is_fault 4 ≡ false)
faults = (refl, refl, refl, refl, refl)

-- the grounds by their numbers, and grounds 1 and 2 as those with a billing reading
ground_numbers :
    (ground_number BillingHours ≡ 1) × (ground_number BillingVolume ≡ 2) × (ground_number ControlHours ≡ 3)
    × (ground_number ControlByPast ≡ 4) × (ground_number ControlByPeaks ≡ 5) × (ground_number ControlByPastTested ≡ 6)
    × (ground_number Past ≡ 7) × (ground_number Power ≡ 8) × (ground_number Cable ≡ 9)
ground_numbers = (refl, refl, refl, refl, refl, refl, refl, refl, refl)

measured_grounds :
    (is_measured BillingHours ≡ true) × (is_measured BillingVolume ≡ true) × (is_measured ControlHours ≡ false)
    × (is_measured ControlByPast ≡ false) × (is_measured ControlByPeaks ≡ false) × (is_measured ControlByPastTested ≡ false)
    × (is_measured Past ≡ false) × (is_measured Power ≡ false) × (is_measured Cable ≡ false)
measured_grounds = (refl, refl, refl, refl, refl, refl, refl, refl, refl)

clause_numbers : (clause_number Missed ≡ 166) × (clause_number DeniedTwice ≡ 178) × (clause_number OutOfService ≡ 179)
clause_numbers = (refl, refl, refl)

-- missed is a month with no billing reading, and not one of 0
misses : (is_missed missing ≡ true) × (is_missed (hourly []) ≡ false) × (is_missed (whole 0) ≡ false)
unfolding is_missed
misses = (refl, refl, refl)

-- R: the run plus 1, and 3 if that is less while denials are 2
counts :
    (counted_of 0 0 ≡ 1) × (counted_of 4 0 ≡ 5) × (counted_of 0 1 ≡ 1) × (counted_of 0 2 ≡ 3) × (counted_of 1 2 ≡ 3)
    × (counted_of 2 2 ≡ 3) × (counted_of 5 2 ≡ 6)
    × (counted_of 1 0 ≡ 2) × (counted_of 3 2 ≡ 4)
unfolding counted_of
counts = (refl, refl, refl, refl, refl, refl, refl, refl, refl)

-- N: the first if given, even at 0, else the second, else 0
neighbours :
    (neighbour_of (Some 7) (Some 4) ≡ 7) × (neighbour_of (Some 0) (Some 4) ≡ 0) × (neighbour_of None (Some 4) ≡ 4)
    × (neighbour_of (Some 7) None ≡ 7)
    × (neighbour_of None None ≡ 0)
unfolding neighbour_of
neighbours = (refl, refl, refl, refl, refl)

-- the test of ground 6 is not for marks without peak hours, nor for equal sides; of A 6, d 2, n 3 and C' no two can change places: 12 is not below
-- 3 × 4, and is below 3 × 5. 7 / 2 is below 4 / 1, though both are 4 as rounded capacities. A power of 0 leaves A 0
six :
    (ground_six 6 1 2 3 ≡ false) × (ground_six 6 1 2 4 ≡ true) × (ground_six 0 1 0 4 ≡ false) × (ground_six 0 1 1 0 ≡ false)
    × (ground_six 7 1 2 4 ≡ true)
    × (ground_six 6 2 3 4 ≡ false) × (ground_six 6 2 3 5 ≡ true) × (ground_six 3 1 1 4 ≡ true) × (ground_six 0 0 0 0 ≡ false)
    × (ground_six 0 1 2 3 ≡ true) × (ground_six 6 0 2 3 ≡ true)
unfolding capacity_of half_up
six = (refl, refl, refl, refl, refl, refl, refl, refl, refl, refl, refl)

-- d counts all days: of 29, a capacity hour in the last hour of the first, and in the first and the last hour of the last; a peak alone is none
days :
    (days_in (set (zeros 696) 672 2) ≡ 1) × (days_in (set (set (zeros 696) 23 3) 695 2) ≡ 2)
    × (days_in (set (zeros 48) 24 1) ≡ 0) × (days_in [] ≡ 0)
unfolding working_days
days = (refl, refl, refl, refl)

-- months on grounds 1 and 2 alone become the past
pasts :
    (becomes_past (as_read 0 []) ≡ false) × (becomes_past (as_read 1 []) ≡ true) × (becomes_past (as_read 2 []) ≡ true)
    × (becomes_past (as_read 3 []) ≡ false)
unfolding becomes_past as_read
pasts = (refl, refl, refl, refl)

-- a closing: contract, marks, R, billing and control readings, N, past
abbrev pub agreed : ℕ → Contract
agreed p = record { billing = 2; control = 2; basis = 1; power = record { 0 = p }; cable = no_cable }

abbrev pub inputs_with : Contract → List ℕ → ℕ → Measured → Measured → ℕ → PastHours → Inputs
inputs_with c marks r b k n past =
    record { contract = c; marks = marks; counted = r; billing = b; control = k; neighbour = n; past = past }

-- 31 days with one peak and capacity hour, hour 10; and a past of 5 kWh, all in that hour
abbrev pub marked : List ℕ
marked = set (zeros 744) 10 3

abbrev pub past : PastHours
past = Some (set (zeros 744) 10 5)

-- ground and month volume
abbrev pub GroundAndVolume : Inputs → ℕ → ℕ → Type 0
GroundAndVolume i g v = ((rules i).ground ≡ g) × ((rules i).volume ≡ v)

unfoldable pub rule_definitions : Unit {0}
unfolding rules on_billing on_control on_control_past on_tested_past on_past by_contract evenly by_peaks by_weights as_read ground_six_in power_of
    formula half_up
    peak_part peak_rule peak_count working_days capacity_sum capacity_of portion taken spread shares_over apart_at shares_apart stretched figures
rule_definitions = tt

-- FIGURES: ground, volume, capacity, C and d; no closing that is accepted has a day whose marks are wrong
abbrev pub figures_are : ℕ → ℕ → ℕ → ℕ → ℕ → Figures
figures_are ground volume capacity sum days =
    record {
      ground = ground;
      volume = record { 0 = volume };
      capacity = record { 0 = capacity };
      sum = record { 0 = sum };
      days = days;
      wrong_day = 0;
    }

-- two days: C 4 + 3 in their capacity hours, of V 12, with 5 in a peak hour that is none; d 2; capacity 7 / 2 rounded half up. Without capacity
-- hours C, d and capacity are 0. The last hour of 31 days counts
returned :
    (figures (as_read 1 (set (set (set (zeros 48) 10 4) 11 5) 34 3)) (set (set (set (zeros 48) 10 3) 11 1) 34 2) ≡ figures_are 1 12 4 7 2)
    × (figures (as_read 3 (set (zeros 48) 10 4)) (set (zeros 48) 10 1) ≡ figures_are 3 4 0 0 0)
    × (figures (as_read 1 (set (zeros 744) 743 5)) (set (zeros 744) 743 2) ≡ figures_are 1 5 5 5 1)
    × (no_figures ≡ figures_are 0 0 0 0 0)
unfolding rule_definitions
returned = (refl, refl, refl, refl)
