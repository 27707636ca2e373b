-- Sets of days: the days from one to another, and those of either of two sets. Assumes nothing.
use mathlib.Core.Path.{◌≡◌, refl, sym, ap, ap₂, ◌∙◌}
use mathlib.Core.Bool.{Bool, true, false, cond, ◌||◌, ◌&&◌, false≢true}
use Prim.Native.Nat.{ℕ, zero, suc, ◌+◌, ◌-◌, ◌*◌, ◌%◌, ◌^◌, ◌≤◌, ◌<◌, max}
use native.Mathlib.Omega.{arith}
use native.Mathlib.Decide.{dec_lt}
use borrow.Author.Tests.{le-leb, lt-leb, lt-ltb, le-ltb}
use lib.Dec.{eqb, leb, ltb}
use lib.Bits.{bit_or}
use lib.Pow.{pow_mono}
use Rattle.std.specs.Int.{bit_at}
use Rattle.std.proofs.lemmas.Nat.Bits.{bit_at-lt, bit_at-zero, bit_at_or, bit_at_above, bit_at_mask_inside, bit_at_mask_below, bit_at_mask_above}
use Rattle.numbers.specs.Lists.{count_to}
use Rattle.numbers.proofs.Laws.{and_false, sum_same, sum_stop, sum_both}
use Rattle.parts.specs.Sets.{in_set, lies_between, days_between, day_count}

-- whether a bit is set
is_one : {x y : ℕ} → x ≡ y → eqb x 1 ≡ eqb y 1
is_one e = ap (λ (x : ℕ). eqb x 1) e

-- a set of days of the first n has no day from n on, and a word none from 32 on
pub past_set : (days n k : ℕ) → days < 2 ^ n → n ≤ k → in_set days k ≡ false
unfolding in_set
past_set days n k d l = is_one (bit_at_above days n k d l)

pub past_word : (days k : ℕ) → days < 4294967296 → 32 ≤ k → in_set days k ≡ false
past_word days k d l = past_set days 32 k d l

pub none_in : (k : ℕ) → in_set 0 k ≡ false
unfolding in_set
none_in k = is_one (bit_at-zero k)

-- the powers of 2 that a word of 64 bits has
pub power_word : (k : ℕ) → k ≤ 32 → 1 * 2 ^ k % 18446744073709551616 ≡ 2 ^ k
power_word k l = let p : 2 ^ k ≤ 2 ^ 32 = pow_mono l in omega arith

pub power_up : (a b : ℕ) → a ≤ b → 2 ^ a ≤ 2 ^ b
power_up a b l = pow_mono l

-- BIT k of the days from a on and before b, and of the days of either set
both_tests : (a b k : ℕ) {u v : Bool} → leb a k ≡ u → ltb k b ≡ v → u && v ≡ lies_between a b k
both_tests a b k e f = sym (ap₂ (λ (u v : Bool). u && v) e f)

pub in_between : (a b k : ℕ) → in_set (days_between a b) k ≡ lies_between a b k
unfolding days_between in_set
in_between a b k =
    elim (dec_lt k a) [
      | yes p ↦ is_one (bit_at_mask_below a b k p) ∙ both_tests a b k (lt-leb a k p) refl
      | no p ↦
          let l : a ≤ k = omega arith in
          elim (dec_lt k b) [
            | yes q ↦ is_one (bit_at_mask_inside a b k l q) ∙ both_tests a b k (le-leb a k l) (lt-ltb k b q)
            | no q ↦
                let m : b ≤ k = omega arith in
                is_one (bit_at_mask_above a b k m) ∙ both_tests a b k (le-leb a k l) (le-ltb k b m)
          ]
    ]

or_bit : (x y : ℕ) → x < 2 → y < 2 → eqb (max x y) 1 ≡ eqb x 1 || eqb y 1
or_bit zero zero p q = refl
or_bit zero (suc zero) p q = refl
or_bit (suc zero) zero p q = refl
or_bit (suc zero) (suc zero) p q = refl
or_bit (suc (suc x)) y p q = absurd (omega arith)
or_bit zero (suc (suc y)) p q = absurd (omega arith)
or_bit (suc zero) (suc (suc y)) p q = absurd (omega arith)

pub in_either : (x y k : ℕ) → in_set (bit_or x y) k ≡ in_set x k || in_set y k
unfolding in_set
in_either x y k = is_one (bit_at_or x y k) ∙ or_bit (bit_at x k) (bit_at y k) (bit_at-lt x k) (bit_at-lt y k)

-- HOW MANY. There are b - a days from a on and before b, and two sets with no day in common have the days of both
count_between : (a b m : ℕ) → m ≤ b → count_to (lies_between a b) m ≡ m - a
count_between a b zero l = omega arith
count_between a b (suc m) l =
    let c = count_between a b m (omega arith) in
    elim (dec_lt m a) [
      | yes p ↦ rw (lt-leb a m p) (omega arith)
      | no p ↦ rw (le-leb a m (omega arith), lt-ltb m b l) (omega arith)
    ]

pub between_count : (a b n : ℕ) → b ≤ n → day_count (days_between a b) n ≡ b - a
unfolding day_count
between_count a b n l =
    sum_same n _ (λ k. cond (lies_between a b k) 1 0) (λ k m. rw (in_between a b k))
    ∙ sum_stop (λ k. cond (lies_between a b k) 1 0) l (λ k m. rw (le-ltb k b m, and_false (leb a k)))
    ∙ count_between a b b (omega arith)

count_or : (a b : Bool) → a && b ≡ false → cond (a || b) 1 0 ≡ cond a 1 0 + cond b 1 0
count_or true true e = absurd (false≢true (sym e))
count_or true false e = refl
count_or false b e = omega arith

pub either_count : (x y n : ℕ) → ((k : ℕ) → k < n → in_set x k && in_set y k ≡ false)
    → day_count (bit_or x y) n ≡ day_count x n + day_count y n
unfolding day_count
either_count x y n e =
    sum_same n _ _ (λ k l. rw (in_either x y k) (count_or (in_set x k) (in_set y k) (e k l))) ∙ sum_both _ _ n
