-- Even sharing over the chosen of n hours, of which there is one at least: each has weight 1, and the others 0. Assumes nothing.
use mathlib.Core.Path.{◌≡◌, refl, sym, ◌∙◌}
use mathlib.Core.Bool.{Bool, true, cond}
use Prim.Native.Nat.{ℕ, suc, ◌*◌, ◌≤◌, ◌<◌}
use native.Mathlib.Nat.{mul-zero, mul-one, zero-mul}
use native.Mathlib.Omega.{arith}
use borrow.Author.Tests.{ne_eqb}
use Rattle.numbers.specs.Lists.{sum_to, count_to}
use Rattle.numbers.proofs.Laws.{by_cases}
use Rattle.sharing.specs.Shares.{one, taken, share}
use Rattle.sharing.proofs.Laws.{Near, portion_above, near_share, share_most}
use Rattle.sharing.proofs.Rule.{even_is, taken_sum}

near_at : {r v x y s t : ℕ} → Near r v x s → x ≡ y → s ≡ t → Near r v y t
near_at near e f = rw (e, f) at near

module _ (n : ℕ) (chosen : ℕ → Bool) (some : 0 < count_to chosen n) where
  pub even_weight : (h : ℕ) → taken n chosen one h ≡ cond (chosen h) 1 0
  even_weight h = sym (even_is n chosen h refl (rw (ne_eqb (count_to chosen n) 0 (omega arith))))

  pub even_sum : sum_to (taken n chosen one) n ≡ count_to chosen n
  even_sum = taken_sum n chosen one ∙ rw (ne_eqb (count_to chosen n) 0 (omega arith))

  even_some : 0 < sum_to (taken n chosen one) n
  even_some = rw even_sum some

  -- a chosen hour is less than one from v / k
  pub even_near : (v h : ℕ) → chosen h ≡ true → Near (share v n (taken n chosen one) h) v 1 (count_to chosen n)
  even_near v h e = near_at (near_share v n (taken n chosen one) even_some h) (rw (even_weight h, e)) even_sum

  -- and at most x where v is at most x for each of them; another has 0
  pub even_most : (v h x : ℕ) → v ≤ x * count_to chosen n → share v n (taken n chosen one) h ≤ cond (chosen h) x 0
  even_most v h x l =
      share_most v n (taken n chosen one) even_some h (cond (chosen h) x 0)
      (rw (even_weight h, even_sum) (by_cases (chosen h) (λ t. rw (t, mul-one) l) (λ f. rw (f, mul-zero, zero-mul) (omega arith))))

-- a volume of 0 gives 0
pub share_none : (n : ℕ) (w : ℕ → ℕ) (h : ℕ) → share 0 n w h ≡ 0
share_none n w h = omega (arith, portion_above 0 (sum_to w (suc h)) (sum_to w n) 0 (omega arith))
