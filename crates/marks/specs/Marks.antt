-- Marks (document 01, 'Months and marks'): one byte an hour, 0 ordinary, 1 planned peak, 2 capacity hour, 3 both.
use Rattle.std.specs.Prelude.{ℕ, zero, suc, ◌+◌, ◌*◌, ◌/◌, min, Bool, cond, not, ◌&&◌, ◌||◌, List, length, eqb, ltb}
use Rattle.numbers.specs.Lists.{sum_to, any_to, count_to, at, none_above}
use Rattle.numbers.specs.Rounding.{half_up}
use Rattle.marks.specs.declared.days.Day.{Day}
use Rattle.marks.specs.declared.Survey.{Survey}

-- a planned peak: marks 1 and 3
abbrev pub is_peak : ℕ → Bool
is_peak m = eqb m 1 || eqb m 3

-- a capacity hour: marks 2 and 3
abbrev pub is_capacity : ℕ → Bool
is_capacity m = eqb m 2 || eqb m 3

-- the same of hour h
abbrev pub peak_at : List ℕ → ℕ → Bool
peak_at marks h = is_peak (at marks h)

abbrev pub capacity_at : List ℕ → ℕ → Bool
capacity_at marks h = is_capacity (at marks h)

-- n, the count of peak hours
unfoldable pub peak_count : List ℕ → ℕ
peak_count marks = count_to (peak_at marks) (length marks)

-- BY DAYS: day k has the hours from 24 k on. Its peak hours, and its capacity hours
abbrev pub day_of : List ℕ → ℕ → Day
day_of marks k =
    record { peaks = count_to (λ h. peak_at marks (24 * k + h)) 24; capacities = count_to (λ h. capacity_at marks (24 * k + h)) 24 }

-- a day is a working day if it has a capacity hour
abbrev pub is_working : Day → Bool
is_working day = ltb 0 day.capacities

-- 42: over 16 peak hours in a day
abbrev pub is_crowded : Day → Bool
is_crowded day = ltb 16 day.peaks

-- 43: two or more capacity hours in a day
abbrev pub is_doubled : Day → Bool
is_doubled day = ltb 1 day.capacities

-- 46 (document 02, E8): peak hours in a day without a capacity hour
abbrev pub is_unmatched : Day → Bool
is_unmatched day = ltb 0 day.peaks && eqb day.capacities 0

-- d, the count of working days among the first k
unfoldable pub working_days : List ℕ → ℕ → ℕ
working_days marks k = count_to (λ j. is_working (day_of marks j)) k

-- whether 42, 43 and 46 apply to one of the first k days
unfoldable pub crowded : List ℕ → ℕ → Bool
crowded marks k = any_to (λ j. is_crowded (day_of marks j)) k

unfoldable pub doubled : List ℕ → ℕ → Bool
doubled marks k = any_to (λ j. is_doubled (day_of marks j)) k

unfoldable pub unmatched : List ℕ → ℕ → Bool
unmatched marks k = any_to (λ j. is_unmatched (day_of marks j)) k

-- WHICH DAY (document 02, E8): the earlier day if there is one, else this day if it is wrong, else 0
abbrev pub or_day : ℕ → ℕ → Bool → ℕ
or_day earlier day wrong = cond (eqb earlier 0) (cond wrong day 0) earlier

-- the first of the first k days that the test holds of, counted from 1, and 0 where it holds of none
unfoldable pub first_day : (Day → Bool) → List ℕ → ℕ → ℕ
first_day test marks zero = 0
first_day test marks (suc k) = or_day (first_day test marks k) (suc k) (test (day_of marks k))

-- 41: a mark above 3
unfoldable pub high : List ℕ → Bool
high marks = not (none_above 3 marks)

-- whether 41 applies, the first days with the fault of 42, of 43 and of 46, n and d; a month's marks are whole days
unfoldable pub survey_with : List ℕ → Bool → Survey
survey_with marks high =
    record {
      high = high;
      crowded_day = first_day is_crowded marks (length marks / 24);
      doubled_day = first_day is_doubled marks (length marks / 24);
      unmatched_day = first_day is_unmatched marks (length marks / 24);
      peaks = count_to (peak_at marks) (24 * (length marks / 24));
      days = working_days marks (length marks / 24);
    }

unfoldable pub survey_of : List ℕ → Survey
survey_of marks = survey_with marks (high marks)

-- C, the sum of the volumes in the capacity hours, over a buffer of 744 words. Past the marks' end there is no capacity hour
unfoldable pub capacity_sum : List ℕ → List ℕ → ℕ
capacity_sum marks hours = sum_to (λ h. cond (capacity_at marks h) (at hours h) 0) 744

-- capacity: C/d rounded half up, and 0 if d = 0
unfoldable pub capacity_of : ℕ → ℕ → ℕ
capacity_of sum days = cond (eqb days 0) 0 (half_up sum days)

-- the same, cut to what 32 bits hold
abbrev pub capacity_in : ℕ → ℕ → ℕ
capacity_in sum days = min (capacity_of sum days) 4294967295
