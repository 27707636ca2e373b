-- Sharing over a selection, the stretched past and the limits, by computation. Assumes nothing.
use mathlib.Core.Path.{◌≡◌, refl}
use mathlib.Core.Bool.{true, false}
use mathlib.Core.List.{[], ◌∷◌}
use lib.ListN.{replicate}
use Rattle.numbers.specs.Lists.{padded}
use Rattle.numbers.specs.Rounding.{half_up}
use Rattle.sharing.specs.Shares.{portion, taken, spread, shares_over, apart_at, shares_apart, shares, stretched, chosen_at, month_fits, weights_fit, share_in}
use Rattle.sharing.specs.Shares.{ones, every, Shared}

-- over the first and the third of three hours: by their weights; by 1 each where these sum to 0; and over all where none is chosen
pub selections :
    (shares_over 10 (chosen_at (true ∷ false ∷ true ∷ [])) (1 ∷ 7 ∷ 2 ∷ []) ≡ 3 ∷ 0 ∷ 7 ∷ [])
    × (shares_over 10 (chosen_at (true ∷ false ∷ true ∷ [])) (0 ∷ 7 ∷ 0 ∷ []) ≡ 5 ∷ 0 ∷ 5 ∷ [])
    × (shares_over 10 (chosen_at (false ∷ false ∷ false ∷ [])) (1 ∷ 7 ∷ 2 ∷ []) ≡ 3 ∷ 4 ∷ 3 ∷ [])
    × (shares 10 (7 ∷ []) ≡ 10 ∷ [])
unfolding shares_over spread taken portion half_up
selections = (refl, refl, refl, refl)

-- 5 over the first and the third hour, 4 over the second
pub apart : shares_apart 5 4 (chosen_at (true ∷ false ∷ true ∷ [])) 3 ≡ 3 ∷ 4 ∷ 2 ∷ []
unfolding shares_apart apart_at taken portion half_up
apart = refl

-- a past of 170 hours for a month of 172: hours 170 and 171 are its hours 2 and 3; a longer past is cut
pub pasts :
    (stretched (1 ∷ 2 ∷ 3 ∷ []) 2 ≡ 1 ∷ 2 ∷ [])
    × (lib.ListN.drop 168 (stretched (1 ∷ 2 ∷ 3 ∷ 4 ∷ replicate 166 9) 172) ≡ 9 ∷ 9 ∷ 3 ∷ 4 ∷ [])
unfolding stretched
pasts = (refl, refl)

-- each limit, and one outside it
pub limits :
    (month_fits 744000000 744 744 ≡ true)
    × (month_fits 744000001 744 744 ≡ false)
    × (month_fits 0 1 1 ≡ true)
    × (month_fits 0 0 744 ≡ false)
    × (month_fits 0 745 800 ≡ false)
    × (month_fits 0 744 743 ≡ false)
    × (weights_fit 2232000000 ≡ true)
    × (weights_fit 2232000001 ≡ false)
unfolding month_fits weights_fit
limits = (refl, refl, refl, refl, refl, refl, refl, refl)

-- one place of a list, a place outside it, and a number that does not fit
pub places :
    (share_in 10 (1 ∷ 1 ∷ 1 ∷ []) 1 ≡ 4)
    × (share_in 10 (1 ∷ 1 ∷ 1 ∷ []) 2 ≡ 3)
    × (share_in 10 (1 ∷ 1 ∷ 1 ∷ []) 3 ≡ 0)
    × (share_in 5 (0 ∷ 0 ∷ []) 1 ≡ 2)
    × (share_in 744000001 (1 ∷ []) 0 ≡ 0)
    × (share_in 10 [] 0 ≡ 0)
unfolding share_in month_fits weights_fit shares_over spread taken portion half_up
places = (refl, refl, refl, refl, refl, refl)

-- every hour is chosen, so each gets its part by weight; an even sharing has a weight of 1 in each; behind a selection no hour is chosen
pub weighed :
    (shares 10 (1 ∷ 7 ∷ 2 ∷ []) ≡ 1 ∷ 7 ∷ 2 ∷ [])
    × (every 3 ≡ true)
    × (ones 3 ≡ 1 ∷ 1 ∷ 1 ∷ [])
    × (chosen_at (true ∷ []) 0 ≡ true)
    × (chosen_at (true ∷ []) 1 ≡ false)
unfolding shares_over spread taken portion half_up
weighed = (refl, refl, refl, refl, refl)

-- a buffer may be longer than the greatest month; the greatest sum of weights, and one above it, which gets nothing
pub rooms :
    (month_fits 0 744 745 ≡ true)
    × (share_in 1 (2232000000 ∷ []) 0 ≡ 1)
    × (share_in 1 (2232000001 ∷ []) 0 ≡ 0)
unfolding share_in month_fits weights_fit shares_over spread taken portion half_up
rooms = (refl, refl, refl)

-- a buffer of three words gets the hours of a sharing, and 0 from their end on; without one it stays
pub buffers :
    Shared true (4 ∷ 3 ∷ []) (7 ∷ 8 ∷ 9 ∷ []) (4 ∷ 3 ∷ 0 ∷ []) true
    × Shared false (4 ∷ 3 ∷ []) (7 ∷ 8 ∷ 9 ∷ []) (7 ∷ 8 ∷ 9 ∷ []) false
unfolding padded
buffers = (record { done = refl; left = refl }, record { done = refl; left = refl })
