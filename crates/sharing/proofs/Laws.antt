-- What holds of a sharing by weights with a sum above 0, for any number of hours. Assumes nothing.
use mathlib.Core.Path.{◌≡◌, ap₂, ◌∙◌}
use Prim.Native.Nat.{ℕ, zero, suc, ◌+◌, ◌-◌, ◌*◌, ◌/◌, ◌≤◌, ◌<◌}
use native.Mathlib.Nat.{mul-le-mul_left, mul-le-mul_right, mul_comm, le_antisymm, le_trans, le_step, le_refl, add-mul, sub-add_cancel}
use native.Mathlib.Nat.{div-mul-le_self, le-div_iff_mul-le}
use native.Mathlib.Omega.{arith}
use native.Mathlib.Decide.{dec_lt}
use lib.ListN.{length}
use Rattle.numbers.specs.Lists.{sum_to, sum, at}
use Rattle.numbers.proofs.Laws.{sum_tab, sum_up, sum_same, tab_same, length_tab, at_tab}
use Rattle.numbers.proofs.Rounds.{Nearest, half_up_nearest, half_up_most}
use Rattle.sharing.specs.Shares.{portion, up_to, share, spread}

-- THE QUOTIENT: what the rest needs to know of its rounding
-- it is the whole number nearest to v × a / s, and of two the greater
pub portion_nearest : (v a s : ℕ) → 0 < s → Nearest (v * a) s (portion v a s)
unfolding portion
portion_nearest v a s p = half_up_nearest (v * a) s p

-- a bound above, and one below
pub portion_above : (v a s k : ℕ) → v * a ≤ k * s → portion v a s ≤ k
unfolding portion
portion_above v a s k l = half_up_most (v * a) s k l

pub portion_below : (v a s k : ℕ) → 0 < s → 2 * (k * s) ≤ 2 * (v * a) + s → k ≤ portion v a s
portion_below v a s k p l =
    elim (dec_lt (portion v a s) k) [
      | yes g ↦ absurd (omega (arith, (portion_nearest v a s p).high, mul-le-mul_right s g, add-mul (portion v a s) 1 s))
      | no f ↦ omega arith
    ]

-- law: no other number is, so a rest of a half or more counts as one more, and a smaller one as nothing
pub portion_only : (v a s q : ℕ) → 0 < s → Nearest (v * a) s q → q ≡ portion v a s
portion_only v a s q p n = le_antisymm (portion_below v a s q p n.low) (reached (dec_lt q (portion v a s)))
  where
    reached : Dec (q < portion v a s) → portion v a s ≤ q
    reached (yes g) = absurd (omega (arith, n.high, (portion_nearest v a s p).low, mul-le-mul_right s g, add-mul q 1 s))
    reached (no f) = omega arith

-- law: it is one division, rounded down, of twice the product and S by twice S, as the code has it
pub portion_twice : (v a s : ℕ) → 0 < s → (2 * v * a + s) / (2 * s) ≡ portion v a s
portion_twice v a s p =
    le_antisymm
    (portion_below v a s _ p (omega (arith, div-mul-le_self (2 * v * a + s) (2 * s))))
    ((le-div_iff_mul-le {k = 2 * s} (omega arith)).1 (omega (arith, (portion_nearest v a s p).low)))

-- an hour on, by the dividend that is carried
pub portion_on : (v a w s : ℕ) {x : ℕ} → 0 < s → x ≡ 2 * v * a + s → (x + 2 * v * w) / (2 * s) ≡ portion v (a + w) s
portion_on v a w s {x} p e =
    let f : x + 2 * v * w ≡ 2 * v * (a + w) + s = omega (arith, e) in
    rw f (portion_twice v (a + w) s p)

pub portion_none : (v s : ℕ) → portion v 0 s ≡ 0
portion_none v s = omega (arith, portion_above v 0 s 0 (omega arith))

pub portion_all : (v s : ℕ) → 0 < s → portion v s s ≡ v
portion_all v s p = le_antisymm (portion_above v s s v (omega arith)) (portion_below v s s v p (omega arith))

pub portion_up : (v a x s : ℕ) → 0 < s → portion v a s ≤ portion v (a + x) s
portion_up v a x s p = portion_below v (a + x) s _ p (omega (arith, (portion_nearest v a s p).low))

pub portion_most : (v a s : ℕ) → a ≤ s → portion v a s ≤ v
portion_most v a s l = portion_above v a s v (mul-le-mul_left v l)

-- r is less than one from v × x / s
pub record Near (r v x s : ℕ) : Type 0 where
  pub below : r * s < v * x + s
  pub above : v * x < r * s + s

pub portion_near : (v a x s : ℕ) → 0 < s → Near (portion v (a + x) s - portion v a s) v x s
portion_near v a x s p =
    let d = portion v (a + x) s - portion v a s in
    let e : d + portion v a s ≡ portion v (a + x) s = sub-add_cancel (portion_up v a x s p) in
    let f = portion_nearest v a s p in
    let g : Nearest (v * (a + x)) s (d + portion v a s) = rw e (portion_nearest v (a + x) s p) in
    record { below = omega arith; above = omega arith }

-- THE SHARING of v over n hours by the weights w
telescope : (F : ℕ → ℕ) → ((h : ℕ) → F h ≤ F (suc h)) → (n : ℕ) → sum_to (λ h. F (suc h) - F h) n + F 0 ≡ F n
telescope F up zero = omega arith
telescope F up (suc n) = omega (arith, telescope F up n, up n)

module _ (v n : ℕ) (w : ℕ → ℕ) (some : 0 < sum_to w n) where
  pub up_to_up : (h : ℕ) → up_to v n w h ≤ up_to v n w (suc h)
  up_to_up h = portion_up v (sum_to w h) (w h) (sum_to w n) some

  -- the hours before h sum to the quotient of their weights, the whole number nearest to what is theirs
  pub sum_before : (h : ℕ) → sum_to (share v n w) h ≡ up_to v n w h
  sum_before h = omega (arith, telescope (up_to v n w) up_to_up h, portion_none v (sum_to w n))

  pub nearest_before : (h : ℕ) → Nearest (v * sum_to w h) (sum_to w n) (sum_to (share v n w) h)
  nearest_before h = rw (sum_before h) (portion_nearest v (sum_to w h) (sum_to w n) some)

  pub sum_share : sum_to (share v n w) n ≡ v
  sum_share = sum_before n ∙ portion_all v (sum_to w n) some

  pub sum_spread : sum (spread v n w) ≡ v
  unfolding spread
  sum_spread = sum_tab n (share v n w) ∙ sum_share

  pub near_share : (h : ℕ) → Near (share v n w h) v (w h) (sum_to w n)
  near_share h = portion_near v (sum_to w h) (w h) (sum_to w n) some

  -- no share above k where no exact share is
  pub share_most : (h k : ℕ) → v * w h ≤ k * sum_to w n → share v n w h ≤ k
  share_most h k l =
      elim (dec_lt k (share v n w h)) [
        | yes g ↦ absurd
            (omega (
              arith,
              (near_share h).below,
              add-mul (suc k) 0 (sum_to w n),
              mul-le-mul_left (sum_to w n) g,
              mul_comm (sum_to w n) (suc k),
              mul_comm (sum_to w n) (share v n w h),
              add-mul k 1 (sum_to w n),
            ))
        | no f ↦ omega arith
      ]

  pub share_whole : (h : ℕ) → h < n → share v n w h ≤ v
  share_whole h l = omega (arith, portion_most v (sum_to w (suc h)) (sum_to w n) (sum_up w l))

pub length_spread : (v n : ℕ) (w : ℕ → ℕ) → length (spread v n w) ≡ n
unfolding spread
length_spread v n w = length_tab n (share v n w)

pub at_spread : (v n : ℕ) (w : ℕ → ℕ) (h : ℕ) → h < n → at (spread v n w) h ≡ share v n w h
unfolding spread
at_spread v n w h l = at_tab n (share v n w) h l

-- weights that agree in the hours share alike
pub share_same : (v n : ℕ) (w u : ℕ → ℕ) → ((h : ℕ) → h < n → w h ≡ u h) → (h : ℕ) → h < n → share v n w h ≡ share v n u h
share_same v n w u e h l = ap₂ (λ (a b : ℕ). a - b) (up (suc h) l) (up h (le_trans (le_step (le_refl h)) l))
  where
    up : (h : ℕ) → h ≤ n → up_to v n w h ≡ up_to v n u h
    up h l = rw (sum_same h w u (λ k m. e k (le_trans m l)), sum_same n w u e)

pub spread_same : (v n : ℕ) (w u : ℕ → ℕ) → ((h : ℕ) → h < n → w h ≡ u h) → spread v n w ≡ spread v n u
unfolding spread
spread_same v n w u e = tab_same n (share v n w) (share v n u) (share_same v n w u e)
