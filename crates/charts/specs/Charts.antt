-- The days of a month, as the chart shows them.
use Rattle.std.specs.Prelude.{ℕ, zero, suc, ◌+◌, ◌*◌, min, Bool, cond, List, ltb}
use Rattle.numbers.specs.Lists.{at, sum_to}

-- an hour of a day, both counted from 0
unfoldable pub hour_of : List ℕ → ℕ → ℕ → ℕ
hour_of hours day h = cond (ltb day 31) (cond (ltb h 24) (at hours (day * 24 + h)) 0) 0

unfoldable pub day_sum : List ℕ → ℕ → ℕ
day_sum hours day = sum_to (hour_of hours day) 24

unfoldable pub largest_day : List ℕ → ℕ → ℕ
largest_day hours zero = 0
largest_day hours (suc n) = cond (ltb (largest_day hours n) (day_sum hours n)) (day_sum hours n) (largest_day hours n)

-- a bar of five rows is as high as the day's part of the largest, rounded up; no day has 200,000,000,000 kWh
unfoldable pub reaches_above : ℕ → ℕ → ℕ → Bool
reaches_above sum most row = ltb (min row 4 * min most 200000000000) (5 * min sum 200000000000)
