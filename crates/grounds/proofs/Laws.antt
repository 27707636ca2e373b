-- What each way of finding hours finds. Assumes nothing.
use Prim.Native.Nat.{ℕ, ◌-◌, ◌*◌, ◌≤◌, ◌<◌}
use mathlib.Core.Path.{◌≡◌, refl, ◌∙◌}
use mathlib.Core.Bool.{Bool, true, false, ◌&&◌}
use mathlib.Core.List.{List}
use native.Mathlib.Omega.{arith}
use borrow.Author.Tests.{le-leb}
use lib.Dec.{ltb}
use lib.ListN.{length, take, replicate, length-replicate, get_or-replicate}
use lib.Seq.{get_or-take, length-take-le}
use Rattle.numbers.specs.Lists.{tab, sum_to, sum, at, zeros, padded, none_above, Filled}
use Rattle.numbers.proofs.Laws.{length_tab, sum_same, sum_at, sum_most, cond_most, none_above_at, filled_padded}
use Rattle.units.specs.Volumes.{greatest_volume_read, greatest_month_volume}
use Rattle.sharing.specs.Shares.{ones, one, within, every, shares, shares_over, past_at, stretched, chosen_at, month_fits, weights_fit, Shared}
use Rattle.sharing.proofs.Laws.{spread_same}
use Rattle.sharing.proofs.Rule.{chosen_same}
use Rattle.power.specs.declared.Cable.{Cable}
use Rattle.power.specs.Power.{formula_in, cable_fits}
use Rattle.power.proofs.Laws.{formula_most, formula_in_lem}
use Rattle.store.specs.Store.{as_row}
use Rattle.store.proofs.Laws.{at_row}
use Rattle.rules.specs.declared.Ground.{Ground}
use Rattle.rules.specs.Grounds.{ground_number}
use Rattle.grounds.specs.Found.{HoursFound}

-- hours in a row, summed
sum_row : (hs : List ℕ) (t : ℕ) → length hs ≡ t → sum_to (at (as_row hs)) t ≡ sum hs
sum_row hs t e = sum_same t (at (as_row hs)) (at hs) (λ h l. at_row hs h) ∙ rw (sum_at hs, e)

-- as read
pub read_found : (g : Ground) (read buffer : List ℕ) {after : List ℕ} {v : ℕ} → length buffer ≡ 744 → after ≡ padded (length buffer) read
    → v ≡ sum_to (at after) (length read) → HoursFound (ground_number g) (sum read) read (record { ground = g; volume = record { 0 = v } }) after
read_found g read buffer room e f =
    let filled = rw room at e in
    record { ground = refl; volume = f ∙ rw filled (sum_row read (length read) refl); hours = filled }

-- as the past's
pub past_found : (g : Ground) (past : List ℕ) (t : ℕ) (buffer : List ℕ) {cleared after : List ℕ} {v : ℕ} → length buffer ≡ 744
    → cleared ≡ zeros (length buffer) → Filled (past_at past) cleared after t → v ≡ sum_to (at after) t
    → HoursFound (ground_number g) (sum (stretched past t)) (stretched past t) (record { ground = g; volume = record { 0 = v } }) after
unfolding stretched
past_found g past t buffer room e filled f =
    let w = past_at past in
    let made = filled_padded (length buffer) filled e in
    let hours = rw room at made in
    record { ground = refl; volume = f ∙ rw hours (sum_row (tab t w) t (length_tab t w)); hours = hours }

-- a sharing whose numbers fit
filled_by : {fits r : Bool} {hs before after : List ℕ} → Shared fits hs before after r → fits ≡ true → length before ≡ 744 → after ≡ as_row hs
filled_by s t l = s.left ∙ rw (t, l)

pub month_there : (v t room : ℕ) → v ≤ greatest_volume_read → 1 ≤ t → t ≤ 744 → room ≡ 744 → month_fits v t room ≡ true
unfolding month_fits
month_there v t room small some few e =
    rw (le-leb v greatest_volume_read small, le-leb 1 t some, le-leb t 744 few, le-leb t room (omega arith))

-- A SHARING OVER EVERY HOUR: the flags that the code lends
abbrev pub every_hour : ℕ → List Bool
every_hour t = take t (replicate 744 true)

all_chosen : (t h : ℕ) → t ≤ 744 → h < t → chosen_at (every_hour t) h ≡ true
all_chosen t h few l =
    get_or-take t (replicate 744 true) h false (omega arith) ∙ get_or-replicate 744 h true false (omega arith)

length_every : (t : ℕ) → t ≤ 744 → length (every_hour t) ≡ t
length_every t few =
    length-take-le t (replicate 744 true) (rw (length-replicate {A = Bool} 744 true) (omega arith))

over_every : (v t : ℕ) (ws : List ℕ) → length ws ≡ t → t ≤ 744 → shares_over v (chosen_at (every_hour t)) ws ≡ shares v ws
unfolding shares_over
over_every v t ws e few =
    spread_same v (length ws) _ _ (chosen_same (length ws) (chosen_at (every_hour t)) every (at ws) (λ h l. all_chosen t h few (omega arith)))

-- the weights of a past are small
weights_small : (past : List ℕ) (t : ℕ) (chosen : ℕ → Bool) → none_above 3000000 past ≡ true → t ≤ 744
    → weights_fit (sum_to (within chosen (past_at past)) t) ≡ true
unfolding weights_fit
weights_small past t chosen fits few =
    let each = none_above_at 3000000 past fits in
    let most =
    sum_most (within chosen (past_at past)) 3000000 t
    (λ h l. cond_most (chosen h) (cond_most (ltb h (length past)) (each h) (each (h - 168))) (omega arith)) in
    le-leb (sum_to (within chosen (past_at past)) t) greatest_month_volume (omega (arith, most))

-- by the past's weights, whose numbers fit
abbrev pub every_fit : ℕ → ℕ → List ℕ → List ℕ → Bool
every_fit v t past buffer =
    month_fits v (length (every_hour t)) (length buffer)
    && weights_fit (sum_to (within (chosen_at (every_hour t)) (past_at past)) (length (every_hour t)))

module _ (past : List ℕ) (v t : ℕ) (buffer : List ℕ) (small : v ≤ greatest_volume_read) (fits : none_above 3000000 past ≡ true)
    (some : 1 ≤ t) (few : t ≤ 744) (room : length buffer ≡ 744) where
  pub shares_fit : every_fit v t past buffer ≡ true
  shares_fit =
      rw (length_every t few, month_there v t (length buffer) small some few room) (weights_small past t (chosen_at (every_hour t)) fits few)

  pub shares_found : (g : Ground) {after : List ℕ} {done : Bool}
      → Shared (every_fit v t past buffer) (shares_over v (chosen_at (every_hour t)) (stretched past (length (every_hour t)))) buffer after done
      → HoursFound (ground_number g) v (shares v (stretched past t)) (record { ground = g; volume = record { 0 = v } }) after
  unfolding stretched
  shares_found g s =
      let w = past_at past in
      record {
        ground = refl;
        volume = refl;
        hours = filled_by s shares_fit room ∙ rw (length_every t few, over_every v t (tab t w) (length_tab t w) few);
      }

-- by the peak rule, or any sharing of a volume that fits a month
pub month_found : (g : Ground) (v t : ℕ) (buffer hs : List ℕ) {after : List ℕ} {done : Bool} → v ≤ greatest_volume_read → 1 ≤ t → t ≤ 744
    → length buffer ≡ 744
    → Shared (month_fits v t (length buffer)) hs buffer after done
    → HoursFound (ground_number g) v hs (record { ground = g; volume = record { 0 = v } }) after
month_found g v t buffer hs small some few room s =
    record { ground = refl; volume = refl; hours = filled_by s (month_there v t (length buffer) small some few room) room }

-- evenly
pub even_there : (v t room : ℕ) → v ≤ greatest_volume_read → 1 ≤ t → t ≤ 744 → room ≡ 744
    → month_fits v (length (every_hour t)) room ≡ true
even_there v t room small some few e = rw (length_every t few) (month_there v t room small some few e)

pub even_found : (g : Ground) (v t : ℕ) (buffer : List ℕ) {after : List ℕ} {done : Bool}
    → v ≤ greatest_volume_read → 1 ≤ t → t ≤ 744 → length buffer ≡ 744
    → Shared (month_fits v (length (every_hour t)) (length buffer))
    (shares_over v (chosen_at (every_hour t)) (ones (length (every_hour t)))) buffer after done
    → HoursFound (ground_number g) v (shares v (ones t)) (record { ground = g; volume = record { 0 = v } }) after
even_found g v t buffer small some few room s =
    let there = rw (length_every t few) at s in
    month_found g v t buffer (shares v (ones t)) small some few room (rw (over_every v t (ones t) (length_tab t one) few) at there)

-- THE VOLUMES OF GROUNDS 8 AND 9
-- a volume of at most 1,000,000 an hour fits a month
month_within : (v t : ℕ) → t ≤ 744 → v ≤ 1000000 * t → v ≤ greatest_volume_read
month_within v t few l = omega arith

pub cable_most : (k : Cable) (t : ℕ) {v : ℕ} → v ≡ formula_in k t → cable_fits k ≡ true → t ≤ 744 → v ≤ greatest_volume_read
cable_most k t e fits few =
    month_within _ t few (rw (e, formula_in_lem k t fits (omega arith)) (formula_most k t fits))
