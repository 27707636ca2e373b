-- Rounding half up.
use Rattle.std.specs.Prelude.{ℕ, ◌+◌, ◌*◌, ◌/◌, ◌%◌, cond, eqb, leb}

-- x / d in whole numbers, where a half counts as one more; 0 where d is 0
unfoldable pub half_up : ℕ → ℕ → ℕ
half_up x d = cond (eqb d 0) 0 (x / d + cond (leb d (2 * (x % d))) 1 0)
