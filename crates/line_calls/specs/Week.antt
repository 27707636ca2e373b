-- Days of the week, by the Gregorian calendar; Monday is 0.
use Rattle.std.specs.Prelude.{ℕ, ◌+◌, ◌-◌, ◌/◌, ◌%◌, cond, List, [], ◌∷◌, ltb, get_or}
use Rattle.calendar.specs.declared.Date.{Date}
use Rattle.calendar.specs.Calendar.{is_open}

-- by how many days the first of a month is later in the week than the first of January, in a year that starts in March
abbrev pub shifts : List ℕ
shifts = 0 ∷ 3 ∷ 2 ∷ 5 ∷ 0 ∷ 3 ∷ 5 ∷ 1 ∷ 4 ∷ 6 ∷ 2 ∷ 4 ∷ []

-- the year that a month belongs to where years start in March, so that a leap day is a year's last
abbrev pub march_year : Date → ℕ
march_year d = d.year - cond (ltb d.month 3) 1 0

-- the day of the week of a month's first day: a year moves it by one day, a leap year by two; 0 where the month cannot be open
unfoldable pub first_weekday : Date → ℕ
first_weekday d =
    let y : ℕ = march_year d in
    cond (is_open d) ((y + y / 4 - y / 100 + y / 400 + get_or shifts (d.month - 1) 0) % 7) 0
