-- Days and bars at their edges, by computation. Assumes nothing.
use Prim.Native.Nat.{ℕ}
use mathlib.Core.Bool.{true, false}
use mathlib.Core.Path.{◌≡◌, refl}
use mathlib.Core.List.{List, [], ◌∷◌, ◌++◌}
use lib.ListN.{replicate}
use Rattle.numbers.specs.Lists.{zeros}
use Rattle.charts.specs.Charts.{hour_of, day_sum, largest_day, reaches_above}

unfoldable chart_definitions : Unit {0}
unfolding hour_of day_sum largest_day reaches_above
chart_definitions = tt

-- two days: 24 kWh, then 7 in the first hour and 5 in the last; and one hour of a third
abbrev hours : List ℕ
hours = replicate 24 1 ++ (7 ∷ (zeros 22 ++ (5 ∷ 100 ∷ [])))

-- an hour past the list is 0, and so is one of a day that no month has
sums :
    (day_sum hours 0 ≡ 24)
    × (day_sum hours 1 ≡ 12)
    × (day_sum hours 2 ≡ 100)
    × (day_sum hours 3 ≡ 0)
    × (day_sum [] 0 ≡ 0)
    × (day_sum (replicate 744 1) 30 ≡ 24)
    × (day_sum (replicate 768 1) 31 ≡ 0)
    × (day_sum (replicate 24 4294967295) 0 ≡ 103079215080)
    × (hour_of hours 0 23 ≡ 1)
    × (hour_of hours 0 24 ≡ 0)
    × (hour_of hours 1 0 ≡ 7)
    × (hour_of hours 1 23 ≡ 5)
    × (hour_of hours 2 0 ≡ 100)
    × (hour_of hours 2 1 ≡ 0)
unfolding chart_definitions
sums = (refl, refl, refl, refl, refl, refl, refl, refl, refl, refl, refl, refl, refl, refl)

-- of the days that are asked for
largest :
    (largest_day hours 0 ≡ 0) × (largest_day hours 1 ≡ 24) × (largest_day hours 2 ≡ 24) × (largest_day hours 3 ≡ 100)
    × (largest_day hours 31 ≡ 100) × (largest_day [] 31 ≡ 0)
unfolding chart_definitions
largest = (refl, refl, refl, refl, refl, refl)

-- a bar is above row r from more than r fifths of the largest day on; a day without volume has no bar
bars :
    (reaches_above 0 100 0 ≡ false)
    × (reaches_above 1 100 0 ≡ true)
    × (reaches_above 20 100 1 ≡ false)
    × (reaches_above 21 100 1 ≡ true)
    × (reaches_above 40 100 2 ≡ false)
    × (reaches_above 41 100 2 ≡ true)
    × (reaches_above 60 100 3 ≡ false)
    × (reaches_above 61 100 3 ≡ true)
    × (reaches_above 80 100 4 ≡ false)
    × (reaches_above 81 100 4 ≡ true)
    × (reaches_above 100 100 4 ≡ true)
    × (reaches_above 1 1 4 ≡ true)
    × (reaches_above 0 0 0 ≡ false)
    × (reaches_above 1 103079215080 0 ≡ true)
    × (reaches_above 82463372064 103079215080 4 ≡ false)
    × (reaches_above 82463372065 103079215080 4 ≡ true)
unfolding chart_definitions
bars = (refl, refl, refl, refl, refl, refl, refl, refl, refl, refl, refl, refl, refl, refl, refl, refl)
