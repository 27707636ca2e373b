-- Marks that pass and their nearest neighbours that are refused, C and capacity, by computation. Assumes nothing.
use Prim.Native.Nat.{ℕ, zero, suc, ◌<◌}
use mathlib.Core.Path.{◌≡◌, refl}
use mathlib.Core.Bool.{Bool, true, false}
use mathlib.Core.List.{List, [], ◌∷◌, ◌++◌}
use native.Mathlib.Omega.{arith}
use lib.ListN.{get_or, replicate}
use Rattle.numbers.specs.Lists.{none_above}
use Rattle.numbers.specs.Rounding.{half_up}
use Rattle.sharing.specs.Shares.{portion, taken, apart_at, shares_apart}
use Rattle.marks.specs.declared.Survey.{Survey}
use Rattle.marks.specs.declared.days.Day.{Day}
use Rattle.marks.specs.Marks.{working_days, crowded, doubled, unmatched, high, first_day, survey_with, survey_of, capacity_sum, capacity_of}
use Rattle.marks.specs.Marks.{peak_at, peak_count, day_of, is_crowded, is_doubled, is_unmatched, or_day, capacity_in}
use Rattle.marks.specs.Peak.{peak_part, peak_rule, Flags}

-- a day that has some peaks from its first hour on, and then some capacity hours that are no peaks
abbrev day : ℕ → ℕ → ℕ → List ℕ
day peaks capacities others = replicate peaks 1 ++ (replicate capacities 2 ++ replicate others 0)

-- no mark above 3; the first days of 42, 43 and 46; n and d
abbrev surveyed : ℕ → ℕ → ℕ → ℕ → ℕ → Survey
surveyed crowded doubled unmatched n d =
    record { high = false; crowded_day = crowded; doubled_day = doubled; unmatched_day = unmatched; peaks = n; days = d }

-- an ordinary day; a working day with 16 peaks; one whose capacity hour is a peak too
pub passing :
    (survey_of (replicate 24 0) ≡ surveyed 0 0 0 0 0)
    × (survey_of (day 16 1 7) ≡ surveyed 0 0 0 16 1)
    × (survey_of (3 ∷ replicate 23 0) ≡ surveyed 0 0 0 1 1)
    × (survey_of (day 0 1 23) ≡ surveyed 0 0 0 0 1)
unfolding survey_of survey_with high first_day working_days none_above
passing = (refl, refl, refl, refl)

-- 41: a mark of 4; 42: 17 peaks in a day; 43: two capacity hours; 46: a peak hour without one
pub refused :
    ((survey_of (4 ∷ replicate 23 0)).high ≡ true)
    × (survey_of (day 17 1 6) ≡ surveyed 1 0 0 17 1)
    × (survey_of (day 16 2 6) ≡ surveyed 0 1 0 16 1)
    × (survey_of (day 0 2 22) ≡ surveyed 0 1 0 0 1)
    × (survey_of (day 1 0 23) ≡ surveyed 0 0 1 1 0)
    × (survey_of (day 17 0 7) ≡ surveyed 1 0 1 17 0)
    × (survey_of (day 17 2 5) ≡ surveyed 1 1 0 17 1)
unfolding survey_of survey_with high first_day working_days none_above
refused = (refl, refl, refl, refl, refl, refl, refl)

-- whether a number applies to some day, beside which day it is
pub applies :
    (crowded (day 1 1 22 ++ day 17 1 6) 2 ≡ true)
    × (crowded (day 1 1 22 ++ day 17 1 6) 1 ≡ false)
    × (doubled (day 0 1 23 ++ day 0 2 22) 2 ≡ true)
    × (doubled (day 0 1 23 ++ day 0 2 22) 1 ≡ false)
    × (doubled (day 0 1 23 ++ day 1 0 23) 2 ≡ false)
    × (unmatched (day 1 0 23 ++ day 0 1 23) 2 ≡ true)
    × (unmatched (day 0 1 23 ++ day 1 0 23) 1 ≡ false)
    × (unmatched (day 0 2 22 ++ day 0 1 23) 2 ≡ false)
unfolding crowded doubled unmatched
applies = (refl, refl, refl, refl, refl, refl, refl, refl)

-- two days: 17 peaks lie in no single day; a peak and a capacity hour lie in two, and so do two capacity hours
pub two_days_lem :
    (survey_of (day 10 1 13 ++ day 7 1 16) ≡ surveyed 0 0 0 17 2)
    × (survey_of (day 1 0 23 ++ day 0 1 23) ≡ surveyed 0 0 1 1 1)
    × (survey_of ((replicate 23 0 ++ (2 ∷ [])) ++ (2 ∷ replicate 23 0)) ≡ surveyed 0 0 0 0 2)
    × (survey_of (day 1 1 22 ++ day 17 1 6) ≡ surveyed 2 0 0 18 2)
    × (survey_of (day 1 1 22 ++ day 3 1 20) ≡ surveyed 0 0 0 4 2)
    × (survey_of (day 1 1 22 ++ day 0 0 24) ≡ surveyed 0 0 0 1 1)
unfolding survey_of survey_with high first_day working_days none_above
two_days_lem = (refl, refl, refl, refl, refl, refl)

-- WHICH DAY (E8), of four days: the first one, the last, one in the middle; of two days with the fault the earlier; each fault by itself
abbrev four : List ℕ → List ℕ → List ℕ → List ℕ → List ℕ
four a b c d = a ++ (b ++ (c ++ d))

abbrev right : List ℕ
right = day 3 1 20

pub days_found :
    (survey_of (four (day 17 1 6) right right right) ≡ surveyed 1 0 0 26 4)
    × (survey_of (four right right right (day 17 1 6)) ≡ surveyed 4 0 0 26 4)
    × (survey_of (four right (day 0 2 22) right (day 0 24 0)) ≡ surveyed 0 2 0 6 4)
    × (survey_of (four right right (day 1 0 23) (day 16 0 8)) ≡ surveyed 0 0 3 23 2)
    × (survey_of (four (day 1 0 23) (day 0 2 22) (day 17 1 6) (day 18 2 4)) ≡ surveyed 3 2 1 36 3)
unfolding survey_of survey_with high first_day working_days none_above
days_found = (refl, refl, refl, refl, refl)

-- an earlier day stays, also where the day has the fault as well
pub earlier_stays : (or_day 0 5 true ≡ 5) × (or_day 0 5 false ≡ 0) × (or_day 3 5 true ≡ 3) × (or_day 3 5 false ≡ 3)
earlier_stays = (refl, refl, refl, refl)

-- marks 2 and 3 are capacity hours, 0 and 1 are none; past the marks' end there is none
pub sums :
    (capacity_sum (0 ∷ 1 ∷ 2 ∷ 3 ∷ []) (5 ∷ 6 ∷ 7 ∷ 8 ∷ []) ≡ 15)
    × (capacity_sum (2 ∷ []) (5 ∷ 6 ∷ []) ≡ 5)
    × (capacity_sum (2 ∷ 2 ∷ []) (5 ∷ []) ≡ 5)
unfolding capacity_sum
sums = (refl, refl, refl)

pub capacities : (capacity_of 9 2 ≡ 5) × (capacity_of 6 4 ≡ 2) × (capacity_of 5 4 ≡ 1) × (capacity_of 9 0 ≡ 0)
unfolding capacity_of half_up
capacities = (refl, refl, refl, refl)

-- with a single working day capacity is C; what is answered is cut to what 32 bits hold
pub cut :
    (capacity_of 7 1 ≡ 7)
    × (capacity_in 9 2 ≡ 5)
    × (capacity_in 4294967295 1 ≡ 4294967295)
    × (capacity_in 4294967296 1 ≡ 4294967295)
    × (capacity_in 8589934592 2 ≡ 4294967295)
    × (capacity_in 8589934588 2 ≡ 4294967294)
unfolding capacity_of half_up
cut = (refl, refl, refl, refl, refl, refl)

-- hour 743 counts, and an hour 744 would not
pub last_hour : capacity_sum (replicate 743 0 ++ (2 ∷ 2 ∷ [])) (replicate 743 0 ++ (5 ∷ 6 ∷ [])) ≡ 5
unfolding capacity_sum
last_hour = refl

-- one mark of 1, two of 2 and four of 3: n counts 1 and 3
pub peaks_counted : peak_count (0 ∷ 1 ∷ 2 ∷ 2 ∷ 3 ∷ 3 ∷ 3 ∷ 3 ∷ []) ≡ 5
unfolding peak_count
peaks_counted = refl

-- three days, of which only day 1 is marked: it has hours 24 to 47
abbrev middle : List ℕ
middle = replicate 24 0 ++ (replicate 24 3 ++ replicate 24 0)

pub days_apart :
    (day_of middle 0 ≡ record { peaks = 0; capacities = 0 })
    × (day_of middle 1 ≡ record { peaks = 24; capacities = 24 })
    × (day_of middle 2 ≡ record { peaks = 0; capacities = 0 })
days_apart = (refl, refl, refl)

abbrev of_day : ℕ → ℕ → Day
of_day peaks capacities = record { peaks = peaks; capacities = capacities }

abbrev faults_of : ℕ → ℕ → Bool × (Bool × Bool)
faults_of peaks capacities = (is_crowded (of_day peaks capacities), (is_doubled (of_day peaks capacities), is_unmatched (of_day peaks capacities)))

-- 42, 43 and 46 by what a day has: nothing; one capacity hour, and peaks beside it; two, and peaks beside them; peaks alone; 16 and 17 peaks
pub faults :
    (faults_of 0 0 ≡ (false, (false, false)))
    × (faults_of 0 1 ≡ (false, (false, false)))
    × (faults_of 2 1 ≡ (false, (false, false)))
    × (faults_of 0 2 ≡ (false, (true, false)))
    × (faults_of 1 2 ≡ (false, (true, false)))
    × (faults_of 1 0 ≡ (false, (false, true)))
    × (faults_of 16 1 ≡ (false, (false, false)))
    × (faults_of 17 1 ≡ (true, (false, false)))
    × (faults_of 17 0 ≡ (true, (false, true)))
faults = (refl, refl, refl, refl, refl, refl, refl, refl, refl)

-- marks that are no whole days: 23 are no day, and of 25 the last is none's
pub parts_of_days :
    (survey_of (replicate 23 3) ≡ surveyed 0 0 0 0 0)
    × (survey_of (replicate 23 1) ≡ surveyed 0 0 0 0 0)
    × (survey_of (replicate 23 0 ++ (3 ∷ 3 ∷ [])) ≡ surveyed 0 0 0 1 1)
unfolding survey_of survey_with high first_day working_days none_above
parts_of_days = (refl, refl, refl)

-- six hours with peaks at 1 and 3, and capacity hours beside them
abbrev six : List ℕ
six = 0 ∷ 1 ∷ 2 ∷ 3 ∷ 2 ∷ 2 ∷ []

-- A is V, or n × P where that is less
pub peak_parts : (peak_part 10 3 six ≡ 6) × (peak_part 5 3 six ≡ 5) × (peak_part 4 0 six ≡ 0)
unfolding peak_part peak_count
peak_parts = (refl, refl, refl)

-- examples h) and i), rounded half up (E2), and marks without a peak: V goes evenly over all hours
pub peak_rules :
    (peak_rule 10 3 six ≡ 1 ∷ 3 ∷ 1 ∷ 3 ∷ 1 ∷ 1 ∷ [])
    × (peak_rule 5 3 six ≡ 0 ∷ 3 ∷ 0 ∷ 2 ∷ 0 ∷ 0 ∷ [])
    × (peak_rule 4 0 six ≡ 1 ∷ 0 ∷ 1 ∷ 0 ∷ 1 ∷ 1 ∷ [])
    × (peak_rule 7 3 (0 ∷ 2 ∷ 0 ∷ []) ≡ 2 ∷ 3 ∷ 2 ∷ [])
unfolding peak_rule peak_part peak_count shares_apart apart_at taken portion half_up
peak_rules = (refl, refl, refl, refl)

-- flags of three hours, of which the second is no peak; what stands behind these hours says nothing
abbrev flags : List Bool
flags = true ∷ false ∷ true ∷ replicate 741 true

flag : (h : ℕ) → h < 3 → get_or flags h false ≡ peak_at (1 ∷ 2 ∷ 3 ∷ []) h
flag zero l = refl
flag (suc zero) l = refl
flag (suc (suc zero)) l = refl
flag (suc (suc (suc h))) l = absurd (omega (arith, l))

pub flagged : Flags (1 ∷ 2 ∷ 3 ∷ []) flags 3
flagged = record { long = refl; is = flag }
