-- At most 4 times 200,000,000,000 fits 64 bits.
use Rattle.std.proofs.Common.{◌≤◌, arith}
use native.Mathlib.Nat.{mul-le-mul}
use Rattle.charts.proofs.reaches.Goals as goal

pub overflow_mul-result : goal.overflow_mul-result
overflow_mul-result c =
    let rows : c.min.result ≤ 4 = omega arith in
    let most : c.min-2.result ≤ 200000000000 = omega arith in
    record { fits = omega (arith, mul-le-mul rows most) }
