-- Sets of days, and a month of three days parted and joined, by computation. Assumes nothing.
use Prim.Native.Nat.{ℕ, ◌+◌, ◌*◌}
use mathlib.Core.Path.{◌≡◌, refl}
use mathlib.Core.Bool.{true, false}
use mathlib.Core.List.{List, [], ◌∷◌, ◌++◌}
use lib.ListN.{replicate}
use lib.Bits.{bit_or}
use Rattle.numbers.specs.Lists.{tab, at}
use Rattle.parts.specs.Sets.{in_set, days_between, lies_between, day_count, lies_inside, lies_outside, rank}
use Rattle.parts.specs.Parts.{inside_part, outside_part, chosen_days, joined, sum_outside}

-- 5 is the first and the third day, since 5 = 1 + 4
pub days :
    (in_set 5 0 ≡ true)
    × (in_set 5 1 ≡ false)
    × (in_set 5 2 ≡ true)
    × (in_set 5 3 ≡ false)
    × (in_set 0 0 ≡ false)
    × (in_set 0 31 ≡ false)
unfolding in_set
days = (refl, refl, refl, refl, refl, refl)

-- the last day of a set, with all its 32 days and with that day alone, and the days past it
pub last_days :
    (in_set 4294967295 31 ≡ true)
    × (in_set 4294967295 32 ≡ false)
    × (in_set 4294967295 63 ≡ false)
    × (in_set 2147483648 31 ≡ true)
    × (in_set 2147483648 30 ≡ false)
unfolding in_set
last_days = (refl, refl, refl, refl, refl)

-- 6 = 2 + 4 is the second and the third day, from 1 on and before 3; a month of 31 days has 2^31 - 1, and 32 days fill a word
pub between :
    (days_between 1 3 ≡ 6)
    × (days_between 0 31 ≡ 2147483647)
    × (days_between 0 32 ≡ 4294967295)
    × (days_between 31 32 ≡ 2147483648)
    × (days_between 0 0 ≡ 0)
    × (days_between 2 2 ≡ 0)
    × (days_between 3 1 ≡ 0)
unfolding days_between
between = (refl, refl, refl, refl, refl, refl, refl)

pub between_at :
    (lies_between 1 3 0 ≡ false) × (lies_between 1 3 1 ≡ true) × (lies_between 1 3 2 ≡ true) × (lies_between 1 3 3 ≡ false)
between_at = (refl, refl, refl, refl)

-- of the first and the third day, and of all days of a set; a day past the month does not count
pub counts :
    (day_count 5 31 ≡ 2)
    × (day_count 5 3 ≡ 2)
    × (day_count 5 2 ≡ 1)
    × (day_count 5 0 ≡ 0)
    × (day_count 0 31 ≡ 0)
    × (day_count 4294967295 28 ≡ 28)
    × (day_count 4294967295 40 ≡ 32)
    × (day_count (bit_or 5 6) 31 ≡ 3)
unfolding day_count in_set
counts = (refl, refl, refl, refl, refl, refl, refl, refl)

pub places :
    (chosen_days 5 31 ≡ 0 ∷ 2 ∷ []) × (chosen_days 5 2 ≡ 0 ∷ []) × (chosen_days 0 31 ≡ []) × (chosen_days 7 3 ≡ 0 ∷ 1 ∷ 2 ∷ [])
unfolding chosen_days in_set
places = (refl, refl, refl, refl)

-- the first and the last hour of each day, and of the day past the 32 of a set
pub hours :
    (lies_inside 5 0 ≡ true)
    × (lies_inside 5 23 ≡ true)
    × (lies_inside 5 24 ≡ false)
    × (lies_inside 5 47 ≡ false)
    × (lies_inside 5 48 ≡ true)
    × (lies_inside 5 71 ≡ true)
    × (lies_inside 5 72 ≡ false)
    × (lies_inside 4294967295 767 ≡ true)
    × (lies_inside 4294967295 768 ≡ false)
    × (lies_outside 5 23 ≡ false)
    × (lies_outside 5 24 ≡ true)
unfolding lies_inside in_set
hours = (refl, refl, refl, refl, refl, refl, refl, refl, refl, refl, refl)

-- how many lie inside before an hour: an hour itself does not count
pub ranks :
    (rank 5 0 ≡ 0)
    × (rank 5 23 ≡ 23)
    × (rank 5 24 ≡ 24)
    × (rank 5 48 ≡ 24)
    × (rank 5 50 ≡ 26)
    × (rank 5 72 ≡ 48)
    × (rank 5 744 ≡ 48)
    × (rank 0 72 ≡ 0)
unfolding rank lies_inside in_set
ranks = (refl, refl, refl, refl, refl, refl, refl, refl)

-- hour h of a day k has the entry 100 k + h, so that no two entries of a month are the same
abbrev day : ℕ → List ℕ
day k = tab 24 (λ h. 100 * k + h)

abbrev month : List ℕ
month = day 1 ++ (day 2 ++ day 3)

-- of some days, of none, of all, and of days that the month does not have; of a month of no hours
pub parted :
    (inside_part 5 month ≡ day 1 ++ day 3)
    × (inside_part 0 month ≡ [])
    × (inside_part 7 month ≡ month)
    × (inside_part 4294967292 month ≡ day 3)
    × (inside_part 8 month ≡ [])
    × (inside_part 5 [] ≡ [])
unfolding inside_part lies_inside in_set
parted = (refl, refl, refl, refl, refl, refl)

pub others_parted :
    (outside_part 5 month ≡ day 2)
    × (outside_part 0 month ≡ month)
    × (outside_part 7 month ≡ [])
    × (outside_part 4294967292 month ≡ day 1 ++ day 2)
    × (outside_part 5 [] ≡ [])
unfolding outside_part lies_inside in_set
others_parted = (refl, refl, refl, refl, refl)

-- a part that ends within a day, as the month does
pub part_days : (inside_part 6 (tab 26 (λ h. h)) ≡ 24 ∷ 25 ∷ []) × (outside_part 6 (tab 26 (λ h. h)) ≡ tab 24 (λ h. h))
unfolding inside_part outside_part lies_inside in_set
part_days = (refl, refl)

-- in a buffer that is too short, in one that is longer, and in one of no places
pub in_buffers :
    (tab 25 (at (inside_part 5 month)) ≡ day 1 ++ (300 ∷ []))
    × (tab 50 (at (inside_part 5 month)) ≡ day 1 ++ (day 3 ++ (0 ∷ 0 ∷ [])))
    × (tab 0 (at (inside_part 5 month)) ≡ [])
unfolding inside_part lies_inside in_set
in_buffers = (refl, refl, refl)

-- from a list as long as the part, from one that is shorter, and from one that is longer; on no day and on all; of no hours
pub joined_days :
    (joined 5 (day 8 ++ day 9) month ≡ day 8 ++ (day 2 ++ day 9))
    × (joined 5 (7 ∷ []) month ≡ (7 ∷ replicate 23 0) ++ (day 2 ++ replicate 24 0))
    × (joined 1 (day 8 ++ day 9) month ≡ day 8 ++ (day 2 ++ day 3))
    × (joined 0 (day 8) month ≡ month)
    × (joined 4294967295 (day 7 ++ (day 8 ++ day 9)) month ≡ day 7 ++ (day 8 ++ day 9))
    × (joined 5 (7 ∷ []) [] ≡ [])
unfolding joined rank lies_inside in_set
joined_days = (refl, refl, refl, refl, refl, refl)

-- a day has 24 times its hundreds and the hours 0 to 23, which sum to 276; past 744 words nothing counts
pub sums :
    (sum_outside 5 month ≡ 5076)
    × (sum_outside 0 month ≡ 15228)
    × (sum_outside 7 month ≡ 0)
    × (sum_outside 5 [] ≡ 0)
    × (sum_outside 0 (replicate 745 1) ≡ 744)
unfolding sum_outside lies_inside in_set
sums = (refl, refl, refl, refl, refl)
