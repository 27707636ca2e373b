-- The store (document 01, 'What a point keeps'): 10,416 words, 14 rows of 744.
use Rattle.std.specs.Prelude.{ℕ, ◌*◌, Bool, cond, ◌&&◌, List, [], ◌++◌, eqb, leb, length, take, drop}
use Rattle.numbers.specs.Lists.{zeros, padded, none_above}

-- the first t hours of row r, as the part of the store that starts at 744 × its row
abbrev pub row_part : List ℕ → ℕ → ℕ → List ℕ
row_part store r t = take t (drop (744 * r) store)

-- a store of 14 rows of 744 words has that part
unfoldable pub row_fits : ℕ → ℕ → ℕ → Bool
row_fits size r t = eqb size 10416 && leb r 13 && leb t 744

-- hours as a whole row: 0 from their end on
abbrev pub as_row : List ℕ → List ℕ
as_row hours = padded 744 hours

-- THE STORE WITH ROW r MADE xs: the words before the row, xs, and the words after it
unfoldable pub put_row : ℕ → List ℕ → List ℕ → List ℕ
put_row r xs store = take (744 * r) store ++ (xs ++ drop 744 (drop (744 * r) store))

-- the store with hours written into row r, and with row r cleared
abbrev pub with_hours : ℕ → List ℕ → List ℕ → List ℕ
with_hours r hours store = put_row r (as_row hours) store

abbrev pub without_hours : ℕ → List ℕ → List ℕ
without_hours r store = with_hours r [] store

-- the same where the store has that row and a row holds so many hours, else the store as it was
unfoldable pub written_in : ℕ → List ℕ → List ℕ → List ℕ
written_in r hours store = cond (row_fits (length store) r (length hours)) (with_hours r hours store) store

-- as an opening leaves it
abbrev pub empty_store : List ℕ
empty_store = zeros 10416

-- the words of rows 0 to 11, and of rows 12 and 13
abbrev pub past_rows : List ℕ → List ℕ
past_rows store = take 8928 store

abbrev pub month_rows : List ℕ → List ℕ
month_rows store = drop 8928 store

-- NUMBER 45 does not apply: no word above 3,000,000 in rows 0 to 11, or above 1,000,000 in 12 or 13
unfoldable pub store_fits : List ℕ → Bool
store_fits store = none_above 3000000 (past_rows store) && none_above 1000000 (month_rows store)
