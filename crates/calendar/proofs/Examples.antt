-- Dates at the ends of the calendar and by the leap rule, by computation. Assumes nothing.
use Prim.Native.Nat.{ℕ, ◌+◌}
use mathlib.Core.Bool.{true, false}
use mathlib.Core.List.{List, [], ◌∷◌}
use mathlib.Core.Path.{◌≡◌, refl}
use borrow.Author.Rules.{rules}
use Rattle.std.specs.Prelude.{Some, None}
use Rattle.numbers.specs.Lists.{tab}
use Rattle.calendar.specs.declared.Date.{Date}
use Rattle.calendar.specs.Calendar.{leap_year, is_month, month_days, february_days, month_days_by_cases, month_hours, is_open, open_hours}
use Rattle.calendar.specs.Calendar.{month_number, date_of, date_in, next_month, next_in}
use Rattle.calendar.specs.Calendar.{SameLengths, is_end, is_month_number, month_in, date_given}

abbrev on : ℕ → ℕ → Date
on y m = record { year = y; month = m }

-- two years for each case of the Gregorian rule, the first of each as in example a)
pub februaries :
    (february_days 2400 ≡ 29)
    × (february_days 2000 ≡ 29)
    × (february_days 2100 ≡ 28)
    × (february_days 2200 ≡ 28)
    × (february_days 2024 ≡ 29)
    × (february_days 2104 ≡ 29)
    × (february_days 2023 ≡ 28)
    × (february_days 2102 ≡ 28)
unfolding february_days
februaries = search rules

-- months by these cases, up to the limits and just outside
pub months_by_cases :
    (month_days_by_cases (on 2014 2) ≡ 28)
    × (month_days_by_cases (on 2096 2) ≡ 29)
    × (month_days_by_cases (on 2100 2) ≡ 28)
    × (month_days_by_cases (on 2400 2) ≡ 29)
    × (month_days_by_cases (on 2400 1) ≡ 31)
    × (month_days_by_cases (on 2400 4) ≡ 30)
    × (month_days_by_cases (on 2999 12) ≡ 31)
    × (month_days_by_cases (on 3000 1) ≡ 0)
    × (month_days_by_cases (on 2013 12) ≡ 0)
    × (month_days_by_cases (on 2024 0) ≡ 0)
    × (month_days_by_cases (on 2024 13) ≡ 0)
unfolding february_days month_days_by_cases is_month
months_by_cases = search rules

pub table :
    (month_days (on 2019 2) ≡ 28)
    × (month_days (on 2020 2) ≡ 29)
    × (month_days (on 2200 2) ≡ 28)
    × (month_days (on 2800 2) ≡ 29)
    × (month_days (on 2014 1) ≡ 31)
    × (month_days (on 2999 12) ≡ 31)
    × (month_days (on 3000 1) ≡ 0)
    × (month_days (on 2013 12) ≡ 0)
    × (month_days (on 2023 13) ≡ 0)
    × (month_days (on 2023 0) ≡ 0)
    × (month_hours (on 2023 4) ≡ 720)
    × (open_hours (on 3000 1) ≡ 744)
    × (open_hours (on 3000 2) ≡ 0)
    × (is_open (on 3000 1) ≡ true)
    × (is_open (on 3000 2) ≡ false)
    × (month_number (on 2023 12) ≡ 24288)
    × (date_in 24288 ≡ on 2023 12)
    × (date_in 24169 ≡ on 2014 1)
    × (date_in 24168 ≡ on 0 0)
    × (date_in 36001 ≡ on 3000 1)
    × (date_in 36002 ≡ on 0 0)
    × (next_in (on 2023 12) ≡ on 2024 1)
    × (next_in (on 2024 1) ≡ on 2024 2)
    × (next_in (on 2999 12) ≡ on 3000 1)
    × (next_in (on 3000 1) ≡ on 3000 1)
unfolding leap_year is_month month_days month_hours open_hours month_number date_of date_in next_month next_in
table = search rules

-- the twelve lengths of a common year, of a leap year, and of a year that only the rule of 400 makes one
abbrev lengths : ℕ → List ℕ
lengths y = tab 12 (λ k. month_days (on y (k + 1)))

pub years :
    (lengths 2014 ≡ 31 ∷ 28 ∷ 31 ∷ 30 ∷ 31 ∷ 30 ∷ 31 ∷ 31 ∷ 30 ∷ 31 ∷ 30 ∷ 31 ∷ [])
    × (lengths 2024 ≡ 31 ∷ 29 ∷ 31 ∷ 30 ∷ 31 ∷ 30 ∷ 31 ∷ 31 ∷ 30 ∷ 31 ∷ 30 ∷ 31 ∷ [])
    × (lengths 2400 ≡ 31 ∷ 29 ∷ 31 ∷ 30 ∷ 31 ∷ 30 ∷ 31 ∷ 31 ∷ 30 ∷ 31 ∷ 30 ∷ 31 ∷ [])
unfolding leap_year is_month month_days
years = (refl, refl, refl)

-- what E5 says of February 2024: by the cases it has the 29 days of the condition
pub same : SameLengths → month_days_by_cases (on 2024 2) ≡ 29
unfolding leap_year is_month month_days
same e = e (on 2024 2)

-- leap years and their neighbours, at each of the three rules
pub leaps :
    (leap_year 2015 ≡ false)
    × (leap_year 2016 ≡ true)
    × (leap_year 2017 ≡ false)
    × (leap_year 2100 ≡ false)
    × (leap_year 2104 ≡ true)
    × (leap_year 2400 ≡ true)
    × (leap_year 2500 ≡ false)
unfolding leap_year
leaps = (refl, refl, refl, refl, refl, refl, refl)

-- the first and the last month, and the months and numbers beside them
pub months :
    (is_month (on 2014 1) ≡ true)
    × (is_month (on 2999 12) ≡ true)
    × (is_month (on 2013 12) ≡ false)
    × (is_month (on 3000 1) ≡ false)
    × (is_month (on 2023 0) ≡ false)
    × (is_month (on 2023 13) ≡ false)
unfolding is_month
months = (refl, refl, refl, refl, refl, refl)

-- January 3000 alone is the end; it can be open as the months before it can, and these have their own hours
pub ends :
    (is_end (on 3000 1) ≡ true)
    × (is_end (on 2999 1) ≡ false)
    × (is_end (on 3001 1) ≡ false)
    × (is_end (on 3000 0) ≡ false)
    × (is_end (on 3000 2) ≡ false)
    × (is_open (on 2014 1) ≡ true)
    × (is_open (on 2999 12) ≡ true)
    × (is_open (on 2013 12) ≡ false)
    × (open_hours (on 2023 2) ≡ 672)
    × (open_hours (on 2999 12) ≡ 744)
unfolding leap_year is_month month_days month_hours open_hours
ends = (refl, refl, refl, refl, refl, refl, refl, refl, refl, refl)

-- January 2014 is number 24,169 and December 2999 number 36,000; 36,001 is January 3000, which is no month but can be open
pub numbers :
    (is_month_number 24168 ≡ false)
    × (is_month_number 24169 ≡ true)
    × (is_month_number 36000 ≡ true)
    × (is_month_number 36001 ≡ false)
    × (month_in 24168 ≡ None)
    × (month_in 24169 ≡ Some (on 2014 1))
    × (month_in 36001 ≡ Some (on 3000 1))
    × (month_in 36002 ≡ None)
    × (date_given None ≡ on 0 0)
    × (date_given (Some (on 2023 2)) ≡ on 2023 2)
unfolding month_in date_of
numbers = (refl, refl, refl, refl, refl, refl, refl, refl, refl, refl)
