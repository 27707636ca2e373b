-- Rounding half up gives the whole number nearest to x / d, and of two the greater. Assumes nothing.
use Prim.Native.Nat.{ℕ, ◌+◌, ◌*◌, ◌/◌, ◌%◌, ◌≤◌, ◌<◌}
use mathlib.Core.Path.{◌≡◌, refl}
use mathlib.Core.Bool.{Bool, true, false, cond}
use native.Mathlib.Nat.{div-add-mod', mod-lt, add-mul, mul-le-mul_right}
use native.Mathlib.Omega.{arith}
use native.Mathlib.Decide.{dec_lt}
use lib.Dec.{leb}
use borrow.Author.Tests.{eq-eqb, ne_eqb, leb-true, leb-false}
use Rattle.numbers.specs.Rounding.{half_up}

-- twice x lies from (2 q - 1) d on, and below (2 q + 1) d
pub record Nearest (x d q : ℕ) : Type 0 where
  pub low : 2 * (q * d) ≤ 2 * x + d
  pub high : 2 * x < 2 * (q * d) + d

pub half_up_nearest : (x d : ℕ) → 0 < d → Nearest x d (half_up x d)
unfolding half_up
half_up_nearest x d p = simp (ne_eqb d 0 (omega arith)) (go (leb d (2 * (x % d))) refl)
  where
    go : (b : Bool) → leb d (2 * (x % d)) ≡ b → Nearest x d (x / d + cond b 1 0)
    go true e =
        let l = leb-true d (2 * (x % d)) e in
        record {
          low = omega (arith, div-add-mod' x d, add-mul (x / d) 1 d);
          high = omega (arith, div-add-mod' x d, add-mul (x / d) 1 d, mod-lt x p);
        }
    go false e =
        let l = leb-false d (2 * (x % d)) e in
        record {
          low = omega (arith, div-add-mod' x d, add-mul (x / d) 0 d);
          high = omega (arith, div-add-mod' x d, add-mul (x / d) 0 d);
        }

-- no quotient above k where x is at most k times d
pub half_up_most : (x d k : ℕ) → x ≤ k * d → half_up x d ≤ k
unfolding half_up
half_up_most x d k l =
    elim (dec_lt 0 d) [
      | yes p ↦
          elim (dec_lt k (half_up x d)) [
            | yes g ↦ absurd (omega (arith, (half_up_nearest x d p).low, mul-le-mul_right d g, add-mul k 1 d))
            | no f ↦ omega arith
          ]
      | no f ↦ rw (eq-eqb d 0 (omega arith)) (omega arith)
    ]

-- a half counts as one more
pub worked : (half_up 7 2 ≡ 4) × (half_up 6 4 ≡ 2) × (half_up 5 4 ≡ 1) × (half_up 0 3 ≡ 0) × (half_up 5 0 ≡ 0)
unfolding half_up
worked = (refl, refl, refl, refl, refl)
