-- A sharing under way: the laws that answer what a turn of a loop asks. Assumes nothing.
use mathlib.Core.Path.{◌≡◌, refl, sym, ap₂, ◌∙◌}
use mathlib.Core.Bool.{Bool, true, false, cond}
use Prim.Native.Nat.{ℕ, ◌+◌, ◌-◌, ◌*◌, ◌≤◌, ◌<◌}
use native.Mathlib.Nat.{le_trans, mul-le-mul_left, mul-le-mul_right}
use native.Mathlib.Numerals.{add-one}
use mathlib.Core.List.{List, []}
use lib.ListN.{length, set}
use lib.Dec.{eqb}
use native.Mathlib.Omega.{arith}
use Rattle.numbers.specs.Lists.{tab, sum_to, zeros, padded, Filled}
use Rattle.numbers.proofs.Laws.{cond_most, sum_up, sum_most, filled_more, filled_end, filled_padded}
use Rattle.units.specs.Volumes.{greatest_volume_read, greatest_month_volume}
use Rattle.sharing.specs.Shares.{portion, one, others, within, taken, share, spread, shares_over, apart_at, shares_apart, past_at, stretched, ones}
use Rattle.sharing.specs.Limits.{QuotientFits}
use Rattle.sharing.specs.declared.progress.Progress.{Progress}
use Rattle.sharing.proofs.Rule.{taken_sum, taken_some, taken_is, even_is, shares_tab, all_hours, past_short}
use Rattle.sharing.proofs.Laws.{spread_same}

-- the dividend of the next quotient fits 64 bits
pub next_fits : {v a s x : ℕ} (w : ℕ) → QuotientFits v a s → a + w ≤ s → x ≡ 2 * v * a + s → x + 2 * v * w ≤ 18446744073709551615
next_fits {v} {s = s} w q l e =
    omega (arith, e, q.volume, q.weights, mul-le-mul_left v l, mul-le-mul_right s q.volume)

-- what a sharing by weights as they are taken starts with, over 1 to 744 hours
pub start_fits : {v n s k whole : ℕ} (chosen : ℕ → Bool) (w : ℕ → ℕ)
    → whole ≡ sum_to (taken n chosen w) n → s ≡ sum_to (within chosen w) n → k ≡ sum_to (within chosen one) n
    → 1 ≤ n → n ≤ 744 → v ≤ greatest_volume_read → s ≤ greatest_month_volume → QuotientFits v 0 whole
start_fits {n = n} {s = s} {k = k} chosen w e g i some hours volume weights = record {
  some = rw e (taken_some n chosen w some);
  part = omega arith;
  volume = volume;
  weights =
      rw (e, taken_sum n chosen w, ← g, ← i)
      (cond_most (eqb s 0)
      (cond_most (eqb k 0) (omega arith)
      (omega (arith, i, sum_most (within chosen one) 1 n (λ h l. cond_most (chosen h) (omega arith) (omega arith))))) weights);
}

-- an even sharing over the chosen of n hours, of which there are k, or over the others
pub even_whole : {k whole : ℕ} (n : ℕ) (chosen : ℕ → Bool) → whole ≡ cond (eqb k 0) n k → k ≡ sum_to (within chosen one) n
    → whole ≡ sum_to (taken n chosen one) n
even_whole n chosen e f = e ∙ rw (f, taken_sum n chosen one) (go (eqb (sum_to (within chosen one) n) 0) n (sum_to (within chosen one) n))
  where
    go : (b : Bool) (x y : ℕ) → cond b x y ≡ cond b (cond b x y) y
    go true x y = refl
    go false x y = refl

pub even_starts : {v k whole : ℕ} (n : ℕ) (chosen : ℕ → Bool) → whole ≡ cond (eqb k 0) n k → k ≡ sum_to (within chosen one) n
    → k ≤ n → 1 ≤ n → n ≤ 744 → v ≤ greatest_volume_read → QuotientFits v 0 whole
even_starts n chosen e f most some hours volume = start_fits chosen one (even_whole n chosen e f) f f some hours volume (omega arith)

pub others_count : {k : ℕ} (n : ℕ) (chosen : ℕ → Bool) → k ≡ sum_to (within chosen one) n → n - k ≡ sum_to (within (others chosen) one) n
others_count n chosen e = omega (arith, e, all_hours chosen n)

-- no past gives weights of 0, so that the sharing by them is even
past_none : (h : ℕ) → past_at [] h ≡ 0
past_none h = past_short [] h (omega arith)

pub sum_none : (n : ℕ) (chosen : ℕ → Bool) → sum_to (within chosen (past_at [])) n ≡ 0
sum_none n chosen = omega (arith, sum_most (within chosen (past_at [])) 0 n (λ h l. cond_most (chosen h) (omega (arith, past_none h)) (omega arith)))

pub shares_none : (v n : ℕ) (chosen : ℕ → Bool) → shares_over v chosen (stretched [] n) ≡ shares_over v chosen (ones n)
unfolding stretched
shares_none v n chosen =
    rw (shares_tab v n chosen (past_at []), shares_tab v n chosen one)
    (spread_same v n _ _ λ h l.
    sym (taken_is n chosen (past_at []) h (sym (sum_none n chosen)) refl (sym (past_none h)) refl) ∙ even_is n chosen h refl refl)

-- p is the sharing of v over n hours by the weights w before hour h
pub record Underway (v n : ℕ) (w : ℕ → ℕ) (p : Progress) (h : ℕ) : Type 0 where
  pub volume : p.volume ≡ v
  pub whole : p.whole ≡ sum_to w n
  pub passed : p.passed ≡ sum_to w h

-- q is p after hour h, whose weight is x and whose share is g
pub record Turned (p q : Progress) (x g : ℕ) : Type 0 where
  pub volume : q.volume ≡ p.volume
  pub whole : q.whole ≡ p.whole
  pub passed : q.passed ≡ p.passed + x
  pub gets : g ≡ portion p.volume (p.passed + x) p.whole - portion p.volume p.passed p.whole
  pub small : g ≤ greatest_volume_read

module _ {v n : ℕ} {w : ℕ → ℕ} {p : Progress} {h x : ℕ} (u : Underway v n w p h) (e : x ≡ w h) where
  pub turn_fits : h < n → p.passed + x ≤ p.whole
  turn_fits l = omega (arith, u.passed, u.whole, e, sum_up w l)

  pub turn_more : {q : Progress} {g : ℕ} → Turned p q x g → Underway v n w q (h + 1)
  turn_more t = record { volume = t.volume ∙ u.volume; whole = t.whole ∙ u.whole; passed = t.passed ∙ rw (u.passed, e, add-one) }

  turn_share : {q : Progress} {g : ℕ} → Turned p q x g → g ≡ share v n w h
  turn_share t = t.gets ∙ rw (u.volume, u.whole, u.passed, e)

  pub filled_share : {q : Progress} {g : ℕ} {d l : List ℕ} → Turned p q x g → h < n → n ≤ length d
      → Filled (share v n w) d l h → Filled (share v n w) d (set l h g) (h + 1)
  filled_share t lt le filled = filled_more filled (le_trans lt le) (turn_share t)

-- a turn of the loop over two sharings apart
pub filled_apart : {h i j x y : ℕ} {d l : List ℕ} {p p' q q' : Progress} (a b n : ℕ) (chosen : ℕ → Bool)
    → Filled (apart_at a b chosen n) d l h → h < n → n ≤ length d
    → Underway a n (taken n chosen one) p h → x ≡ taken n chosen one h → Turned p p' x i
    → Underway b n (taken n (others chosen) one) q h → y ≡ taken n (others chosen) one h → Turned q q' y j
    → Filled (apart_at a b chosen n) d (set l h (i + j)) (h + 1)
unfolding apart_at
filled_apart a b n chosen filled lt le u e f v o r =
    filled_more filled (le_trans lt le) (ap₂ (λ (s t : ℕ). s + t) (turn_share u e f) (turn_share v o r))

-- the end of a loop over a buffer that was cleared
pub shared : {h : ℕ} {d l : List ℕ} (v n m : ℕ) (chosen : ℕ → Bool) (w : ℕ → ℕ)
    → Filled (share v n (taken n chosen w)) d l h → h ≤ n → n ≤ h → d ≡ zeros m → l ≡ padded m (shares_over v chosen (tab n w))
unfolding spread
shared v n m chosen w filled le ge e = rw (shares_tab v n chosen w) (filled_padded m (filled_end filled le ge) e)

pub shared_apart : {h : ℕ} {d l : List ℕ} (a b n m : ℕ) (chosen : ℕ → Bool)
    → Filled (apart_at a b chosen n) d l h → h ≤ n → n ≤ h → d ≡ zeros m → l ≡ padded m (shares_apart a b chosen n)
unfolding shares_apart
shared_apart a b n m chosen filled le ge e = filled_padded m (filled_end filled le ge) e
