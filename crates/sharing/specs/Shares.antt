-- Sharing a volume (document 01): how a volume V is shared over hours by weights w. Weights are a function of the hour, which counts from 0.
use Rattle.std.specs.Prelude.{ℕ, suc, ◌+◌, ◌-◌, ◌*◌, ◌≡◌, List, Bool, true, false, cond, not, ◌&&◌, length, get_or, eqb, ltb, leb}
use Rattle.numbers.specs.Lists.{tab, sum_to, at, padded}
use Rattle.numbers.specs.Rounding.{half_up}
use Rattle.units.specs.Volumes.{greatest_volume_read, greatest_month_volume}

-- THE QUOTIENT and its rounding half up (E2): what of v falls to weights of a out of s, in whole kWh
unfoldable pub portion : ℕ → ℕ → ℕ → ℕ
portion v a s = half_up (v * a) s

-- weight 1 in every hour
abbrev pub one : ℕ → ℕ
one h = 1

-- n weights of 1: an even sharing
abbrev pub ones : ℕ → List ℕ
ones n = tab n one

-- the weights of the chosen hours, and 0 in the others
abbrev pub within : (ℕ → Bool) → (ℕ → ℕ) → ℕ → ℕ
within chosen w h = cond (chosen h) (w h) 0

-- the weights w, or u where w sums to 0 over the n hours
abbrev pub or_weights : ℕ → (ℕ → ℕ) → (ℕ → ℕ) → ℕ → ℕ
or_weights n w u h = cond (eqb (sum_to w n) 0) (u h) (w h)

-- the weights of n hours as they are taken: those of the chosen hours; where these sum to 0, 1 in each chosen hour; where none is chosen, 1 in every hour
unfoldable pub taken : ℕ → (ℕ → Bool) → (ℕ → ℕ) → ℕ → ℕ
taken n chosen w = or_weights n (within chosen w) (or_weights n (within chosen one) one)

-- what of v falls before hour h: the weights before it, s(h - 1), out of all, S
abbrev pub up_to : ℕ → ℕ → (ℕ → ℕ) → ℕ → ℕ
up_to v n w h = portion v (sum_to w h) (sum_to w n)

-- the share of hour h: the quotient at s(h) less that at s(h - 1)
abbrev pub share : ℕ → ℕ → (ℕ → ℕ) → ℕ → ℕ
share v n w h = up_to v n w (suc h) - up_to v n w h

-- v shared over n hours by weights as they are taken
unfoldable pub spread : ℕ → ℕ → (ℕ → ℕ) → List ℕ
spread v n w = tab n (share v n w)

-- THE RULE: v shared by a list of weights over the chosen hours, and over all of them
unfoldable pub shares_over : ℕ → (ℕ → Bool) → List ℕ → List ℕ
shares_over v chosen ws = spread v (length ws) (taken (length ws) chosen (at ws))

-- all hours
abbrev pub every : ℕ → Bool
every h = true

abbrev pub shares : ℕ → List ℕ → List ℕ
shares v ws = shares_over v every ws

-- the hours that are not chosen
abbrev pub others : (ℕ → Bool) → ℕ → Bool
others chosen h = not (chosen h)

-- hour h where the first volume is shared evenly over the chosen of n hours, and the second evenly over the others
unfoldable pub apart_at : ℕ → ℕ → (ℕ → Bool) → ℕ → ℕ → ℕ
apart_at a b chosen n h = share a n (taken n chosen one) h + share b n (taken n (others chosen) one) h

unfoldable pub shares_apart : ℕ → ℕ → (ℕ → Bool) → ℕ → List ℕ
shares_apart a b chosen n = tab n (apart_at a b chosen n)

-- hour h of the past: where it lacks that hour, its hour h - 168
abbrev pub past_at : List ℕ → ℕ → ℕ
past_at past h = cond (ltb h (length past)) (at past h) (at past (h - 168))

-- the past of a month of t hours
unfoldable pub stretched : List ℕ → ℕ → List ℕ
stretched past t = tab t (past_at past)

-- a selection of hours as a list
abbrev pub chosen_at : List Bool → ℕ → Bool
chosen_at chosen h = get_or chosen h false

abbrev pub other_at : List Bool → ℕ → Bool
other_at chosen = others (chosen_at chosen)

-- THE LIMITS of the functions, which share the volume of a month: at most 744 × 1,000,000 kWh, 1 to 744 hours and a buffer that holds
-- them. The laws need none of these
unfoldable pub month_fits : ℕ → ℕ → ℕ → Bool
month_fits v t room = leb v greatest_volume_read && leb 1 t && leb t 744 && leb t room

-- and weights that sum to at most 744 × 3,000,000, so that twice a volume times a sum of weights, and that sum, fit 64 bits
unfoldable pub weights_fit : ℕ → Bool
weights_fit s = leb s greatest_month_volume

-- what one place of a list gets, and 0 outside the list or where the numbers do not fit
unfoldable pub share_in : ℕ → List ℕ → ℕ → ℕ
share_in v ws place = cond (month_fits v (length ws) (length ws) && weights_fit (sum_to (at ws) (length ws))) (at (shares v ws) place) 0

-- WHAT A CONTRACT SAYS of a sharing into the buffer `before`: done where its numbers fit, else the buffer is as it was
pub record Shared (fits : Bool) (hours before after : List ℕ) (r : Bool) : Type 0 where
  pub done : r ≡ fits
  pub left : after ≡ cond fits (padded (length before) hours) before
