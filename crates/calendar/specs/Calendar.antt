-- Months (document 01, "Months and marks"; document 02, E5): January 2014 to December 2999, their lengths, and their numbers.
use Rattle.std.specs.Prelude.{ℕ, ◌+◌, ◌-◌, ◌*◌, ◌/◌, ◌%◌, Bool, not, cond, ◌&&◌, ◌||◌, List, [], ◌∷◌, ◌≡◌, Option, None, Some, get_or, leb, eqb}
use Rattle.calendar.specs.declared.Date.{Date}

-- the lengths of the twelve months, a constant table
abbrev pub month_table : List ℕ
month_table = 31 ∷ 28 ∷ 31 ∷ 30 ∷ 31 ∷ 30 ∷ 31 ∷ 31 ∷ 30 ∷ 31 ∷ 30 ∷ 31 ∷ []

-- months run from January 2014 to December 2999
unfoldable pub is_month : Date → Bool
is_month d = leb 1 d.month && leb d.month 12 && leb 2014 d.year && leb d.year 2999

-- E5: February's days by the cases of the Gregorian rule in its own order: a year divisible by 400, by 100, by 4, otherwise
unfoldable pub february_days : ℕ → ℕ
february_days y =
    cond (eqb (y % 400) 0) 29
    (cond (eqb (y % 100) 0) 28
    (cond (eqb (y % 4) 0) 29
    28))

-- the days of a month, February by these cases; a month outside those above has 0
unfoldable pub month_days_by_cases : Date → ℕ
month_days_by_cases d =
    cond (is_month d) (cond (eqb d.month 2) (february_days d.year) (get_or month_table (d.month - 1) 0)) 0

-- the leap years of the Gregorian calendar in one condition
unfoldable pub leap_year : ℕ → Bool
leap_year y = eqb (y % 4) 0 && (not (eqb (y % 100) 0) || eqb (y % 400) 0)

-- the days of a month, February by this condition; a month outside those above has 0
unfoldable pub month_days : Date → ℕ
month_days d =
    cond (is_month d) (cond (leap_year d.year && eqb d.month 2) 29 (get_or month_table (d.month - 1) 0)) 0

-- E5: both give every date the same length, 0 outside the limits included
abbrev pub SameLengths : Type 0
SameLengths = (d : Date) → month_days_by_cases d ≡ month_days d

-- T is 24 times the days
unfoldable pub month_hours : Date → ℕ
month_hours d = 24 * month_days d

-- January 3000, which can be open and is never closed
abbrev pub is_end : Date → Bool
is_end d = eqb d.year 3000 && eqb d.month 1

-- a month that a record can have open, January 3000 included
abbrev pub is_open : Date → Bool
is_open d = is_month d || is_end d

-- T of the open month, January 3000 (T 744) included
unfoldable pub open_hours : Date → ℕ
open_hours d = cond (is_end d) 744 (month_hours d)

-- the number of a month: year × 12 + month
unfoldable pub month_number : Date → ℕ
month_number d = d.year * 12 + d.month

-- the number of a month in 2014 to 2999
abbrev pub is_month_number : ℕ → Bool
is_month_number n = leb 24169 n && leb n 36000

-- of the month whose number is n: its year, and the place of the calendar month, 0 for January
abbrev pub year_of : ℕ → ℕ
year_of n = (n - 1) / 12

abbrev pub place_of : ℕ → ℕ
place_of n = (n - 1) % 12

-- the month whose number is n
unfoldable pub date_of : ℕ → Date
date_of n = record { year = year_of n; month = place_of n + 1 }

-- whether it is from January 2014 to January 3000
abbrev pub is_open_number : ℕ → Bool
is_open_number n = leb 24169 n && leb n 36001

-- the same where it is; else no month
unfoldable pub month_in : ℕ → Option Date
month_in n = cond (is_open_number n) (Some (date_of n)) None

-- the same where it is; else year 0 and month 0
unfoldable pub date_in : ℕ → Date
date_in n = cond (is_open_number n) (date_of n) (record { year = 0; month = 0 })

-- a month, with year 0 and month 0 for none
abbrev pub date_given : Option Date → Date
date_given None = record { year = 0; month = 0 }
date_given (Some d) = d

-- the month after this one: after December, January of the next year
unfoldable pub next_month : Date → Date
next_month d =
    record {
      year = cond (eqb d.month 12) (d.year + 1) d.year;
      month = cond (eqb d.month 12) 1 (d.month + 1);
    }

-- the same where there is such a month; else the date itself
unfoldable pub next_in : Date → Date
next_in d = cond (is_month d) (next_month d) d
