-- Sets of days, by computation. Assumes nothing.
use Prim.Native.Nat.{◌^◌}
use mathlib.Core.Path.{◌≡◌, refl}
use mathlib.Core.Bool.{true, false, ◌&&◌}
use lib.Dec.{eqb, leb}
use Rattle.parts.specs.Sets.{in_set, days_between}
use Rattle.spells.specs.Sets.{on_day, days_from, marked, completed, only_before, is_within, days_with}

-- what computes with a set, by one name
unfoldable computing : Unit {0}
unfolding in_set days_between days_from marked completed only_before is_within days_with
computing = tt

-- 5 = 1 + 4 has day 1 and day 3
pub days : (on_day 5 1 ≡ true) × (on_day 5 2 ≡ false) × (on_day 5 3 ≡ true) × (on_day 2147483648 32 ≡ true)
unfolding computing
days = (refl, refl, refl, refl)

-- a word has 32 days
pub words : (days_from 0 33 ≡ 4294967295) × (days_from 0 34 ≡ 0) × (days_from 31 33 ≡ 3221225472) × (days_from 33 33 ≡ 0)
unfolding computing
words = (refl, refl, refl, refl)

-- before day 1 there is no day, whether an event was before or not; before day 3 there are 1 and 2; from 3 on and before 6 there are 3, 4 and 5;
-- with both events on one day there is none. The days of the set stay
pub marks :
    (marked 0 0 1 true ≡ 0)
    × (marked 0 1 1 true ≡ 0)
    × (marked 0 0 3 true ≡ 3)
    × (marked 0 1 3 true ≡ 3)
    × (marked 1 3 6 true ≡ 29)
    × (marked 1 3 6 false ≡ 1)
    × (marked 4 6 6 true ≡ 4)
    × (marked 0 31 31 true ≡ 0)
    × (marked 0 30 31 true ≡ 2 ^ 29)
    × (marked 4 3 6 true ≡ 28)
unfolding computing
marks = (refl, refl, refl, refl, refl, refl, refl, refl, refl, refl)

-- at the end of a month of 31, of 30 and of 28 days, the last day counts too
pub month_ends :
    (completed 0 0 31 true ≡ 2147483647)
    × (completed 3 30 30 true ≡ 536870915)
    × (completed 3 30 30 false ≡ 3)
    × (completed 0 31 31 true ≡ 2 ^ 30)
    × (completed 1 28 28 true ≡ 134217729)
unfolding computing
month_ends = (refl, refl, refl, refl, refl)

-- no day before day 0 and day 1; days 1 and 2 are before day 3 and day 2 is not before itself; and all of a word are before day 33
pub number_2 :
    (only_before 0 0 ≡ true)
    × (only_before 1 0 ≡ false)
    × (only_before 0 1 ≡ true)
    × (only_before 1 1 ≡ false)
    × (only_before 1 2 ≡ true)
    × (only_before 2 2 ≡ false)
    × (only_before 3 3 ≡ true)
    × (only_before 4 3 ≡ false)
    × (only_before 4294967295 33 ≡ true)
    × (only_before 4294967295 32 ≡ false)
unfolding computing
number_2 = (refl, refl, refl, refl, refl, refl, refl, refl, refl, refl)

-- 5 is within 7, and 7 is not within 5; a set is within itself, and nothing within any
pub within : (is_within 7 5 ≡ true) × (is_within 5 7 ≡ false) × (is_within 5 5 ≡ true) × (is_within 0 0 ≡ true) × (is_within 5 2 ≡ false)
    × (is_within 5 0 ≡ true)
unfolding computing
within = (refl, refl, refl, refl, refl, refl)

-- days 3 to 5 of 30, cut at day 4, and every day of a month
pub seen :
    (days_with (λ x. leb 3 x && leb x 5) 30 ≡ 28)
    × (days_with (λ x. leb 3 x && leb x 5) 4 ≡ 12)
    × (days_with (λ x. true) 31 ≡ 2147483647)
    × (days_with (λ x. false) 31 ≡ 0)
    × (days_with (λ x. eqb x 31) 31 ≡ 2 ^ 30)
    × (days_with (λ x. eqb x 31) 30 ≡ 0)
    × (days_with (λ x. eqb x 1) 1 ≡ 1)
unfolding computing
seen = (refl, refl, refl, refl, refl, refl, refl)
