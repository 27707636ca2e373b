-- The greatest volumes, worked out from the greatest hours, by computation. Assumes nothing.
use Prim.Native.Nat.{◌*◌}
use mathlib.Core.Path.{◌≡◌, refl}
use Rattle.units.specs.Volumes.{greatest_volume_read, greatest_month_volume, greatest_total}

-- 744 hours of 1,000,000 read and of 3,000,000 closed with; a total of 30,000,000,000,000
pub greatest :
    (greatest_volume_read ≡ 744 * 1000000)
    × (greatest_month_volume ≡ 744 * 3000000)
    × (greatest_total ≡ 30000 * 1000000000)
greatest = (refl, refl, refl)
