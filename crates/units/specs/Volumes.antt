-- The greatest volumes in kWh that a point has (document 01, 'What a point keeps').
use Rattle.std.specs.Prelude.{ℕ}

-- that a meter can read in a month: 744 hours of 1,000,000
abbrev pub greatest_volume_read : ℕ
greatest_volume_read = 744000000

-- that a month can be closed with, and to which the hours of a past month can sum: 744 hours of 3,000,000
abbrev pub greatest_month_volume : ℕ
greatest_month_volume = 2232000000

-- that the running total can have
abbrev pub greatest_total : ℕ
greatest_total = 30000000000000
