-- What the tests of the limits establish, as the functions and the laws use it.
use Rattle.std.specs.Prelude.{ℕ, ◌≤◌, ◌<◌, ◌≡◌, List, length}
use Rattle.numbers.specs.Lists.{sum_to, at}
use Rattle.units.specs.Volumes.{greatest_volume_read, greatest_month_volume}

-- the numbers of a quotient, within the limits
pub record QuotientFits (v a s : ℕ) : Type 0 where
  pub some : 0 < s
  pub part : a ≤ s
  pub volume : v ≤ greatest_volume_read
  pub weights : s ≤ greatest_month_volume

-- a volume, a number of hours and a buffer's length within the limits
pub record MonthFits (v t size : ℕ) : Type 0 where
  pub volume : v ≤ greatest_volume_read
  pub some : 1 ≤ t
  pub hours : t ≤ 744
  pub room : t ≤ size

-- a place of a list whose weights sum to s, by which v is shared, within the limits
pub record Placed (v s : ℕ) (ws : List ℕ) (place : ℕ) : Type 0 where
  pub inside : place < length ws
  pub long : length ws ≤ 744
  pub volume : v ≤ greatest_volume_read
  pub sum : s ≡ sum_to (at ws) (length ws)
  pub weights : s ≤ greatest_month_volume
