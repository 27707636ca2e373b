-- The laws of the sharing rule on lists of every length from 1 on, over any selection of hours. Assumes nothing.
use mathlib.Core.Path.{◌≡◌, refl, sym, ap₂, ◌∙◌}
use mathlib.Core.List.{List}
use mathlib.Core.Bool.{Bool, true, false, cond, not, ◌&&◌, false≢true}
use Prim.Native.Nat.{ℕ, zero, suc, ◌+◌, ◌-◌, ◌*◌, ◌≤◌, ◌<◌}
use native.Mathlib.Nat.{pos_of_ne-zero, mul-zero, le_trans}
use native.Mathlib.Omega.{arith}
use native.Mathlib.Decide.{dec_lt}
use borrow.Author.Tests.{eq-eqb, ne_eqb, eqb-true, eqb-false, leb-true, lt-leb, lt-ltb, le-ltb}
use lib.Dec.{eqb, leb}
use lib.ListN.{length, get_or-eq_default}
use Rattle.numbers.specs.Lists.{tab, sum_to, sum, at}
use Rattle.numbers.proofs.Laws.{sum_tab, sum_same, sum_ones, sum_both, tab_same, length_tab, at_tab, by_cases, both, and_false, cond_most}
use Rattle.numbers.proofs.Rounds.{Nearest}
use Rattle.units.specs.Volumes.{greatest_volume_read}
use Rattle.sharing.specs.Shares.{one, others, within, or_weights, taken, share, spread, shares_over, apart_at, shares_apart, shares, every}
use Rattle.sharing.specs.Shares.{past_at, month_fits, weights_fit, share_in}
use Rattle.sharing.specs.Limits.{MonthFits}
use Rattle.sharing.proofs.Laws.{Near, sum_spread, sum_share, near_share, nearest_before, share_most, share_whole}
use Rattle.sharing.proofs.Laws.{length_spread, at_spread, share_same, spread_same}

-- of two kinds of weights, the sum is that of the kind that counts
or_sum : (n : ℕ) (w u : ℕ → ℕ) → sum_to (or_weights n w u) n ≡ cond (eqb (sum_to w n) 0) (sum_to u n) (sum_to w n)
or_sum n w u = go (eqb (sum_to w n) 0)
  where
    go : (b : Bool) → sum_to (λ h. cond b (u h) (w h)) n ≡ cond b (sum_to u n) (sum_to w n)
    go true = refl
    go false = refl

-- the sum of the weights as they are taken, as the code has it
pub taken_sum : (n : ℕ) (chosen : ℕ → Bool) (w : ℕ → ℕ)
    → sum_to (taken n chosen w) n
    ≡ cond (eqb (sum_to (within chosen w) n) 0) (cond (eqb (sum_to (within chosen one) n) 0) n (sum_to (within chosen one) n)) (sum_to (within chosen w) n)
unfolding taken
taken_sum n chosen w =
    or_sum n (within chosen w) (or_weights n (within chosen one) one)
    ∙ rw (or_sum n (within chosen one) one, sum_ones)

pub taken_some : (n : ℕ) (chosen : ℕ → Bool) (w : ℕ → ℕ) → 0 < n → 0 < sum_to (taken n chosen w) n
taken_some n chosen w p = rw (taken_sum n chosen w) (outer (eqb (sum_to (within chosen w) n) 0) refl)
  where
    inner : (b : Bool) → eqb (sum_to (within chosen one) n) 0 ≡ b → 0 < cond b n (sum_to (within chosen one) n)
    inner true e = p
    inner false e = pos_of_ne-zero (eqb-false _ _ e)

    outer : (b : Bool) → eqb (sum_to (within chosen w) n) 0 ≡ b
        → 0 < cond b (cond (eqb (sum_to (within chosen one) n) 0) n (sum_to (within chosen one) n)) (sum_to (within chosen w) n)
    outer true e = inner (eqb (sum_to (within chosen one) n) 0) refl
    outer false e = pos_of_ne-zero (eqb-false _ _ e)

module _ (v : ℕ) (chosen : ℕ → Bool) (ws : List ℕ) where
  -- law: as many shares as weights
  pub length_shares : length (shares_over v chosen ws) ≡ length ws
  unfolding shares_over
  length_shares = length_spread v (length ws) _

  module _ (some : 0 < length ws) where
    -- law: the shares sum to the volume
    pub sum_shares : sum (shares_over v chosen ws) ≡ v
    unfolding shares_over
    sum_shares = sum_spread v (length ws) _ (taken_some (length ws) chosen (at ws) some)

    -- law: each is less than one kWh from its exact share
    pub near_shares : (h : ℕ) → h < length ws
        → Near (at (shares_over v chosen ws) h) v (taken (length ws) chosen (at ws) h) (sum_to (taken (length ws) chosen (at ws)) (length ws))
    unfolding shares_over
    near_shares h l =
        rw (at_spread v (length ws) (taken (length ws) chosen (at ws)) h l)
        (near_share v (length ws) (taken (length ws) chosen (at ws)) (taken_some (length ws) chosen (at ws) some) h)

    -- law: an hour of weight 0 gets 0
    pub shares_nothing : (h : ℕ) → h < length ws → taken (length ws) chosen (at ws) h ≡ 0 → at (shares_over v chosen ws) h ≡ 0
    unfolding shares_over
    shares_nothing h l e =
        let w : ℕ → ℕ = taken (length ws) chosen (at ws) in
        at_spread v (length ws) w h l
        ∙ omega (arith, share_most v (length ws) w (taken_some (length ws) chosen (at ws) some) h 0 (rw (e, mul-zero) (omega arith)))

    -- law (E2): the shares before any hour sum to the whole number nearest to what is theirs, so no odd kWh waits for the last hour
    pub nearest_before_shares : (h : ℕ) → h ≤ length ws
        → Nearest (v * sum_to (taken (length ws) chosen (at ws)) h) (sum_to (taken (length ws) chosen (at ws)) (length ws))
        (sum_to (at (shares_over v chosen ws)) h)
    unfolding shares_over
    nearest_before_shares h l =
        let n = length ws in
        let w : ℕ → ℕ = taken n chosen (at ws) in
        rw (sum_same h (at (spread v n w)) (share v n w) (λ k m. at_spread v n w k (le_trans m l)))
        (nearest_before v n w (taken_some n chosen (at ws) some) h)

-- law: outside the list there is no share
pub shares_outside : (v : ℕ) (ws : List ℕ) (place : ℕ) → length ws ≤ place → at (shares v ws) place ≡ 0
shares_outside v ws place l = get_or-eq_default (shares v ws) 0 {n = place} (rw length_shares l)

-- law: no place gets more than what is shared
pub shares_most : (v : ℕ) (ws : List ℕ) (place : ℕ) → at (shares v ws) place ≤ v
unfolding shares_over
shares_most v ws place =
    let n = length ws in
    let w : ℕ → ℕ = taken n every (at ws) in
    elim (dec_lt place n) [
      | yes l ↦ rw (at_spread v n w place l) (share_whole v n w (taken_some n every (at ws) (omega arith)) place l)
      | no f ↦ rw (shares_outside v ws place (omega arith)) (omega arith)
    ]

pub share_in_most : (v : ℕ) (ws : List ℕ) (place : ℕ) → share_in v ws place ≤ v
unfolding share_in
share_in_most v ws place = cond_most (month_fits v (length ws) (length ws) && weights_fit (sum_to (at ws) (length ws))) (shares_most v ws place) (omega arith)

-- law: over all hours, weights that sum to 0 count as 1 each, and others as they are
pub taken_zero : (n : ℕ) (w : ℕ → ℕ) → sum_to w n ≡ 0 → (h : ℕ) → taken n every w h ≡ 1
unfolding taken
taken_zero n w e h = outer (eqb (sum_to w n) 0) (eq-eqb (sum_to w n) 0 e) (eqb (sum_to one n) 0)
  where
    outer : (b : Bool) → b ≡ true → (k : Bool) → cond b (cond k (one h) (one h)) (w h) ≡ one h
    outer true t true = refl
    outer true t false = refl
    outer false t k = absurd (false≢true t)

pub taken_given : (n : ℕ) (w : ℕ → ℕ) → 0 < sum_to w n → (h : ℕ) → taken n every w h ≡ w h
unfolding taken
taken_given n w p h = outer (eqb (sum_to w n) 0) (ne_eqb (sum_to w n) 0 (omega arith))
  where
    outer : (b : Bool) → b ≡ false → cond b (cond (eqb (sum_to one n) 0) (one h) (one h)) (w h) ≡ w h
    outer true t = absurd (false≢true (sym t))
    outer false t = refl

-- the sum of the weights up to an hour, as they are taken over all hours
pub taken_every : (n : ℕ) (w : ℕ → ℕ) (h : ℕ) → sum_to (taken n every w) h ≡ cond (eqb (sum_to w n) 0) h (sum_to w h)
taken_every n w h = by_cases (eqb (sum_to w n) 0)
    (λ t. rw t (sum_same h (taken n every w) one (λ k l. taken_zero n w (eqb-true _ _ t) k) ∙ sum_ones h))
    (λ f. rw f (sum_same h (taken n every w) w (λ k l. taken_given n w (pos_of_ne-zero (eqb-false _ _ f)) k)))

-- weights may be given as a list or as a function
pub taken_same : (n : ℕ) (chosen : ℕ → Bool) (w u : ℕ → ℕ) → ((h : ℕ) → h < n → w h ≡ u h) → (h : ℕ) → h < n
    → taken n chosen w h ≡ taken n chosen u h
unfolding taken
taken_same n chosen w u e h l =
    rw (sum_same n (within chosen w) (within chosen u) (λ k m. rw (e k m)), e h l)

-- selections that agree in the hours take the same weights
pub chosen_same : (n : ℕ) (f g : ℕ → Bool) (w : ℕ → ℕ) → ((h : ℕ) → h < n → f h ≡ g h) → (h : ℕ) → h < n
    → taken n f w h ≡ taken n g w h
unfolding taken
chosen_same n f g w e h l =
    rw (sum_same n (within f w) (within g w) (λ k m. rw (e k m)), sum_same n (within f one) (within g one) (λ k m. rw (e k m)), e h l)

pub shares_tab : (v n : ℕ) (chosen : ℕ → Bool) (w : ℕ → ℕ) → shares_over v chosen (tab n w) ≡ spread v n (taken n chosen w)
unfolding shares_over
shares_tab v n chosen w =
    rw (length_tab n w) (spread_same v n _ _ (taken_same n chosen (at (tab n w)) w (at_tab n w)))

-- law: where the past lacks an hour its hour h - 168 counts
pub past_given : (past : List ℕ) (h : ℕ) → h < length past → past_at past h ≡ at past h
past_given past h l = rw (lt-ltb h (length past) l)

pub past_short : (past : List ℕ) (h : ℕ) → length past ≤ h → past_at past h ≡ at past (h - 168)
past_short past h l = rw (le-ltb h (length past) l)

-- the weights as the code works them out
pub taken_is : (n : ℕ) (chosen : ℕ → Bool) (w : ℕ → ℕ) (h : ℕ) {s k x y : ℕ}
    → s ≡ sum_to (within chosen w) n → k ≡ sum_to (within chosen one) n → x ≡ w h
    → y ≡ cond (eqb s 0) (cond (eqb k 0) 1 (cond (chosen h) 1 0)) (cond (chosen h) x 0) → y ≡ taken n chosen w h
unfolding taken
taken_is n chosen w h e f g i = i ∙ rw (e, f, g)

pub even_is : (n : ℕ) (chosen : ℕ → Bool) (h : ℕ) {k y : ℕ}
    → k ≡ sum_to (within chosen one) n → y ≡ cond (eqb k 0) 1 (cond (chosen h) 1 0) → y ≡ taken n chosen one h
unfolding taken
even_is n chosen h e i = i ∙ rw e (go (eqb (sum_to (within chosen one) n) 0) (cond (chosen h) 1 0))
  where
    go : (b : Bool) (x : ℕ) → cond b 1 x ≡ cond b (cond b 1 x) x
    go true x = refl
    go false x = refl

one_of : (b : Bool) → cond b 1 0 + cond (not b) 1 0 ≡ 1
one_of true = refl
one_of false = refl

-- the chosen hours and the others are all
pub all_hours : (chosen : ℕ → Bool) (n : ℕ) → sum_to (within chosen one) n + sum_to (within (others chosen) one) n ≡ n
all_hours chosen zero = refl
all_hours chosen (suc n) = omega (arith, all_hours chosen n, one_of (chosen n))

-- two volumes, shared apart: as many shares as hours, which sum to both
pub length_apart : (a b : ℕ) (chosen : ℕ → Bool) (n : ℕ) → length (shares_apart a b chosen n) ≡ n
unfolding shares_apart
length_apart a b chosen n = length_tab n _

pub sum_apart : (a b : ℕ) (chosen : ℕ → Bool) (n : ℕ) → 0 < n → sum (shares_apart a b chosen n) ≡ a + b
unfolding shares_apart apart_at
sum_apart a b chosen n some =
    let f : ℕ → ℕ = share a n (taken n chosen one) in
    let g : ℕ → ℕ = share b n (taken n (others chosen) one) in
    sum_tab n (λ h. f h + g h)
    ∙ omega (
      arith,
      sum_both f g n,
      sum_share a n (taken n chosen one) (taken_some n chosen one some),
      sum_share b n (taken n (others chosen) one) (taken_some n (others chosen) one some),
    )

pub apart_same : (a b n : ℕ) (f g : ℕ → Bool) → ((h : ℕ) → h < n → f h ≡ g h) → shares_apart a b f n ≡ shares_apart a b g n
unfolding shares_apart apart_at
apart_same a b n f g e =
    tab_same n _ _ λ h l.
    ap₂ (λ (s t : ℕ). s + t)
    (share_same a n _ _ (chosen_same n f g one e) h l)
    (share_same b n _ _ (chosen_same n (others f) (others g) one (λ k m. rw (e k m))) h l)

-- numbers that pass the test of the limits are within them
pub month_fits_lem : {v t room : ℕ} → month_fits v t room ≡ true → MonthFits v t room
unfolding month_fits
month_fits_lem {v} {t} {room} e =
    let p = both (leb v greatest_volume_read && leb 1 t && leb t 744) (leb t room) e in
    let q = both (leb v greatest_volume_read && leb 1 t) (leb t 744) p.0 in
    let r = both (leb v greatest_volume_read) (leb 1 t) q.0 in
    record {
      volume = leb-true _ _ r.0;
      some = leb-true _ _ r.1;
      hours = leb-true _ _ q.1;
      room = leb-true _ _ p.1;
    }

pub month_long : (v t room : ℕ) → 744 < t → month_fits v t room ≡ false
unfolding month_fits
month_long v t room l = rw (lt-leb t 744 l) (rw (and_false (leb v greatest_volume_read && leb 1 t)))

-- what the proof of one place's share looks into
unfoldable pub share_definitions : Unit {0}
unfolding share_in weights_fit
share_definitions = tt
