-- Rows written into a store, and the limits of the store's words, by computation. Assumes nothing.
use mathlib.Core.Path.{◌≡◌, refl}
use mathlib.Core.Bool.{true, false}
use mathlib.Core.List.{List, [], ◌∷◌, ◌++◌}
use Prim.Native.Nat.{ℕ, ◌*◌}
use native.Mathlib.Omega.{arith}
use lib.ListN.{length, take, drop, replicate, length-replicate}
use lib.Seq.{take_at, drop_at}
use Rattle.numbers.specs.Lists.{zeros, padded, none_above}
use Rattle.store.specs.Store.{row_fits}
use Rattle.store.specs.Store.{as_row, put_row, written_in, store_fits}
use Rattle.store.specs.Store.{row_part, with_hours, without_hours, empty_store}
use Rattle.numbers.proofs.Laws.{at_zeros, none_above_from}

-- each limit, and one outside it
pub limits :
    (row_fits 10416 13 744 ≡ true)
    × (row_fits 10416 0 0 ≡ true)
    × (row_fits 10416 14 0 ≡ false)
    × (row_fits 10416 0 745 ≡ false)
    × (row_fits 10415 0 0 ≡ false)
    × (row_fits 10417 0 0 ≡ false)
unfolding row_fits
limits = (refl, refl, refl, refl, refl, refl)

-- hours as a row: 0 from their end on
pub rows : (take 4 (as_row (5 ∷ 6 ∷ [])) ≡ 5 ∷ 6 ∷ 0 ∷ 0 ∷ []) × (length (as_row (5 ∷ 6 ∷ [])) ≡ 744) × (length (as_row []) ≡ 744)
unfolding padded
rows = (refl, refl, refl)

-- a row of two words put into 1,490 words: the last word before it, the row, and the two words after it
pub puts :
    (drop 743 (put_row 1 (7 ∷ 8 ∷ []) (replicate 1490 3)) ≡ 3 ∷ 7 ∷ 8 ∷ 3 ∷ 3 ∷ [])
    × (take 3 (put_row 0 (7 ∷ 8 ∷ []) (replicate 745 3)) ≡ 7 ∷ 8 ∷ 3 ∷ [])
unfolding put_row
puts = (refl, refl)

-- a store that is not 14 rows stays as it was
pub stays : (written_in 0 (7 ∷ []) (1 ∷ 2 ∷ []) ≡ 1 ∷ 2 ∷ []) × (written_in 0 [] [] ≡ [])
unfolding written_in row_fits
stays = (refl, refl)

-- a word of rows 0 to 11
pub pasts : (store_fits (3000000 ∷ []) ≡ true) × (store_fits (3000001 ∷ []) ≡ false) × (store_fits (0 ∷ 3000001 ∷ 0 ∷ []) ≡ false)
unfolding store_fits none_above
pasts = (refl, refl, refl)

-- words of row 12, where the rows before it are 0
from_month : (ys : List ℕ) → store_fits (zeros 8928 ++ ys) ≡ none_above 1000000 ys
unfolding store_fits
from_month ys = rw (
  take_at (zeros 8928) ys 8928 (length-replicate {A = ℕ} 8928 0),
  drop_at (zeros 8928) ys 8928 (length-replicate {A = ℕ} 8928 0),
  none_above_from 3000000 (zeros 8928) (λ k l. rw at_zeros (omega arith)),
)

pub months : (store_fits (zeros 8928 ++ (1000000 ∷ [])) ≡ true) × (store_fits (zeros 8928 ++ (1000001 ∷ [])) ≡ false)
unfolding none_above
months = (from_month (1000000 ∷ []), from_month (1000001 ∷ []))

-- row 1 of a store that ends with its fourth word: its first two, and no more than it has
abbrev short : List ℕ
short = replicate 744 3 ++ (5 ∷ 6 ∷ 7 ∷ 8 ∷ [])

pub parts : (row_part short 1 2 ≡ 5 ∷ 6 ∷ []) × (row_part short 1 0 ≡ []) × (row_part short 0 2 ≡ 3 ∷ 3 ∷ []) × (row_part short 2 2 ≡ [])
parts = (refl, refl, refl, refl)

-- two hours written into row 1, and row 0 cleared: the words of the row from the last before it on, and those after it
pub changed :
    (take 4 (drop 743 (with_hours 1 (7 ∷ 8 ∷ []) (replicate 1490 3))) ≡ 3 ∷ 7 ∷ 8 ∷ 0 ∷ [])
    × (drop 1487 (with_hours 1 (7 ∷ 8 ∷ []) (replicate 1490 3)) ≡ 0 ∷ 3 ∷ 3 ∷ [])
    × (take 2 (without_hours 0 short) ≡ 0 ∷ 0 ∷ [])
    × (drop 743 (without_hours 0 short) ≡ 0 ∷ 5 ∷ 6 ∷ 7 ∷ 8 ∷ [])
unfolding put_row padded
changed = (refl, refl, refl, refl)

-- as many hours as a row holds, written into the last row of a store of 14; there is no row after it, and no row holds one more
pub written :
    (store : List ℕ) → length store ≡ 10416
    → (written_in 13 (replicate 744 7) store ≡ with_hours 13 (replicate 744 7) store)
    × (written_in 14 (replicate 744 7) store ≡ store)
    × (written_in 13 (replicate 745 7) store ≡ store)
unfolding written_in row_fits
written store e = (rw e refl, rw e refl, rw e refl)

-- an opening leaves 14 rows of 744
pub opened : length empty_store ≡ 14 * 744
opened = length-replicate {A = ℕ} 10416 0
