-- What holds of the store and of its rows, word by word. Assumes nothing.
use mathlib.Core.Path.{◌≡◌, refl, sym, ◌∙◌}
use mathlib.Core.Logic.{◌⊎◌, ⊎_elim}
use mathlib.Core.List.{List, [], ◌++◌}
use mathlib.Core.Bool.{Bool, true, cond, ◌&&◌}
use Prim.Native.Nat.{ℕ, ◌+◌, ◌-◌, ◌*◌, ◌≤◌, ◌<◌}
use native.Mathlib.Nat.{sub-zero, add-sub_cancel_left}
use native.Mathlib.Omega.{arith}
use native.Mathlib.Decide.{dec_lt}
use borrow.Author.Tests.{eq-eqb, le-leb, eqb-true, leb-true}
use lib.Dec.{eqb, leb}
use lib.ListN.{length, take, drop, length-append, length-take, length-drop, length-replicate, get_or-append}
use lib.Seq.{ext_get_or, get_or-take, get_or-drop, get_or-append-add, take_at, drop_at, length-take-le, take_all}
use Rattle.std.proofs.lemmas.List.{drop-replicate}
use Rattle.numbers.specs.Lists.{at, zeros, padded, none_above, Filled}
use Rattle.numbers.proofs.Laws.{both, tab_at, none_above_at, none_above_from, at_zeros, at_more}
use Rattle.store.specs.Store.{row_part, row_fits, as_row, put_row, written_in, empty_store, store_fits}

-- a list copied over the front of zeros
pub copied : {d part : List ℕ} (m : ℕ) (xs : List ℕ) → part ≡ xs → d ≡ zeros m → part ++ drop (length xs) d ≡ padded m xs
unfolding padded
copied m xs e z = rw (e, z, drop-replicate) refl

-- and word by word
pub copied_words : {d l : List ℕ} (m : ℕ) (xs : List ℕ) → Filled (at xs) d l (length xs) → d ≡ zeros m → l ≡ padded m xs
copied_words m xs filled e = filled.is ∙ copied m xs (tab_at xs) e

-- hours keep their words as a row
pub at_row : (hours : List ℕ) (k : ℕ) → at (as_row hours) k ≡ at hours k
unfolding padded
at_row hours k = at_more hours (744 - length hours) k

-- a row is 744 words
pub length_row : (hours : List ℕ) → length hours ≤ 744 → length (as_row hours) ≡ 744
unfolding padded
length_row hours l = simp (length-append, length-replicate) (omega arith)

-- parts of two lists that agree there are the same
part_same : (a t : ℕ) (xs ys : List ℕ) → length xs ≡ length ys → ((k : ℕ) → a ≤ k → k < a + t → at xs k ≡ at ys k)
    → take t (drop a xs) ≡ take t (drop a ys)
part_same a t xs ys e f =
    ext_get_or 0 (take t (drop a xs)) (take t (drop a ys)) (simp (length-take, length-drop, e))
    λ k l.
    let m : k < t = omega (arith, length-take t (drop a xs)) in
    rw (get_or-take t (drop a xs) k 0 m, get_or-take t (drop a ys) k 0 m, get_or-drop a xs k 0, get_or-drop a ys k 0) (f (a + k) (omega arith) (omega arith))

-- a part of the store that passes the test lies in it
pub record RowFits (words r t : ℕ) : Type 0 where
  pub size : words ≡ 10416
  pub row : r ≤ 13
  pub hours : t ≤ 744

pub row_fits_lem : {size r t : ℕ} → row_fits size r t ≡ true → RowFits size r t
unfolding row_fits
row_fits_lem {size} {r} {t} e =
    let p = both (eqb size 10416 && leb r 13) (leb t 744) e in
    let q = both (eqb size 10416) (leb r 13) p.0 in
    record { size = eqb-true _ _ q.0; row = leb-true _ _ q.1; hours = leb-true _ _ p.1 }

pub row_there : {size r t : ℕ} → size ≡ 10416 → r ≤ 13 → t ≤ 744 → row_fits size r t ≡ true
unfolding row_fits
row_there {size} {r} {t} whole row few = rw (eq-eqb size 10416 whole, le-leb r 13 row, le-leb t 744 few)

-- so that its hours are lent
pub lent_there : (store : List ℕ) (r t : ℕ) → length store ≡ 10416 → r ≤ 13 → t ≤ 744
    → cond (row_fits (length store) r t) (row_part store r t) [] ≡ row_part store r t
lent_there store r t whole row few = rw (row_there whole row few) refl

-- hours written into such a store make the row
pub written_in_lem : (r : ℕ) (hours store : List ℕ) → r ≤ 13 → length hours ≤ 744 → length store ≡ 10416
    → written_in r hours store ≡ put_row r (as_row hours) store
unfolding written_in row_fits
written_in_lem r hours store row long size = rw (eq-eqb (length store) 10416 size, le-leb r 13 row, le-leb (length hours) 744 long)

-- the part of the store from the row's start to its end, filled and put back
pub written_part : (r : ℕ) (hours store filled : List ℕ) → RowFits (length store) r (length hours)
    → filled ≡ padded (length (take (744 * r + 744 - 744 * r) (drop (744 * r) store))) hours
    → take (744 * r) store ++ (filled ++ drop (744 * r + 744 - 744 * r) (drop (744 * r) store)) ≡ written_in r hours store
unfolding put_row
written_part r hours store filled takes e =
    let whole : length (take 744 (drop (744 * r) store)) ≡ 744 = simp (length-take, length-drop) (omega arith) in
    rw (e, add-sub_cancel_left (744 * r) 744, whole, written_in_lem r hours store takes.row takes.hours takes.size)

-- zeros are no hours, padded
pub padded_none : (n : ℕ) {xs : List ℕ} → xs ≡ zeros n → xs ≡ padded n []
unfolding padded
padded_none n e = e ∙ rw sub-zero

-- the store with row r made xs, word by word: as it was before the row, xs in it, and as it was after it
module _ (r : ℕ) (xs store : List ℕ) (size : length store ≡ 10416) (row : r ≤ 13) (long : length xs ≡ 744) where
  front : length (take (744 * r) store) ≡ 744 * r
  front = length-take-le (744 * r) store (omega arith)

  pub length_put : length (put_row r xs store) ≡ 10416
  unfolding put_row
  length_put = simp (length-append, length-take, length-drop) (omega arith)

  pub at_put_before : (k : ℕ) → k < 744 * r → at (put_row r xs store) k ≡ at store k
  unfolding put_row
  at_put_before k l = get_or-append (take (744 * r) store) _ 0 k (rw front l) ∙ get_or-take (744 * r) store k 0 l

  -- from the row's start on
  from_start : (j : ℕ) → at (put_row r xs store) (744 * r + j) ≡ at (xs ++ drop 744 (drop (744 * r) store)) j
  unfolding put_row
  from_start j = rw front at (get_or-append-add (take (744 * r) store) (xs ++ drop 744 (drop (744 * r) store)) j 0)

  pub at_put_in : (k : ℕ) → 744 * r ≤ k → k < 744 * r + 744 → at (put_row r xs store) k ≡ at xs (k - 744 * r)
  at_put_in k l m =
      let e : 744 * r + (k - 744 * r) ≡ k = omega arith in
      rw e at (from_start (k - 744 * r)) ∙ get_or-append xs _ 0 (k - 744 * r) (omega arith)

  -- from the row's end on
  from_end : (j : ℕ) → at (put_row r xs store) (744 * r + (744 + j)) ≡ at store (744 * r + (744 + j))
  from_end j =
      from_start (744 + j)
      ∙ rw long at (get_or-append-add xs (drop 744 (drop (744 * r) store)) j 0)
      ∙ get_or-drop 744 (drop (744 * r) store) j 0
      ∙ get_or-drop (744 * r) store (744 + j) 0

  pub at_put_after : (k : ℕ) → 744 * r + 744 ≤ k → at (put_row r xs store) k ≡ at store k
  at_put_after k l = let e : 744 * r + (744 + (k - (744 * r + 744))) ≡ k = omega arith in rw e at (from_end (k - (744 * r + 744)))

  -- no word above m where the store had none there and xs has none
  put_most : (m k : ℕ) → at store k ≤ m → ((j : ℕ) → at xs j ≤ m) → at (put_row r xs store) k ≤ m
  put_most m k p q =
      elim (dec_lt k (744 * r)) [
        | yes l ↦ rw (at_put_before k l) p
        | no f ↦
            elim (dec_lt k (744 * r + 744)) [
              | yes l ↦ rw (at_put_in k (omega arith) l) (q (k - 744 * r))
              | no g ↦ rw (at_put_after k (omega arith)) p
            ]
      ]

  -- row r is xs, and any other row is as it was
  pub row_put_same : take 744 (drop (744 * r) (put_row r xs store)) ≡ xs
  unfolding put_row
  row_put_same = rw (drop_at (take (744 * r) store) _ (744 * r) front) (take_at xs _ 744 long)

  pub row_put_other : (q : ℕ) → (q < r) ⊎ (r < q) → take 744 (drop (744 * q) (put_row r xs store)) ≡ take 744 (drop (744 * q) store)
  row_put_other q other =
      part_same (744 * q) 744 (put_row r xs store) store (length_put ∙ sym size)
      (λ k l m. ⊎_elim (λ o. at_put_before k (omega arith)) (λ o. at_put_after k (omega arith)) other)

-- a store fits where both of its parts do, the first of 8,928 words and the second of 1,488
pub fits_parts : (store : List ℕ) {a b : Bool} → length store ≡ 10416 → a ≡ none_above 3000000 (take 8928 store)
    → b ≡ none_above 1000000 (take 1488 (drop 8928 store)) → (a && b) ≡ (eqb (length store) 10416 && store_fits store)
unfolding store_fits
fits_parts store size e f =
    rw (eq-eqb (length store) 10416 size, e, f, take_all 1488 (drop 8928 store) (omega (arith, length-drop 8928 store))) refl

-- a store that fits has no word above 3,000,000, and none above 1,000,000 from row 12 on
module _ (store : List ℕ) (fits : store_fits store ≡ true) where
  pub fits_month_at : (k : ℕ) → 8928 ≤ k → at store k ≤ 1000000
  unfolding store_fits
  fits_month_at k l =
      let e : 8928 + (k - 8928) ≡ k = omega arith in
      rw (get_or-drop 8928 store (k - 8928) 0, e) at (none_above_at 1000000 (drop 8928 store) (both (none_above 3000000 (take 8928 store)) _ fits).1 (k - 8928))

  pub fits_at : (k : ℕ) → at store k ≤ 3000000
  unfolding store_fits
  fits_at k =
      elim (dec_lt k 8928) [
        | yes l ↦ rw (get_or-take 8928 store k 0 l) at (none_above_at 3000000 (take 8928 store) (both _ _ fits).0 k)
        | no f ↦ omega (arith, fits_month_at k (omega arith))
      ]

-- and one that has none fits
pub fits_from : (store : List ℕ) → ((k : ℕ) → k < 8928 → at store k ≤ 3000000) → ((k : ℕ) → 8928 ≤ k → at store k ≤ 1000000)
    → store_fits store ≡ true
unfolding store_fits
fits_from store past month = rw (
  none_above_from 3000000 (take 8928 store) (λ k l. let m : k < 8928 = omega (arith, length-take 8928 store) in rw (get_or-take 8928 store k 0 m) (past k m)),
  none_above_from 1000000 (drop 8928 store) (λ k l. rw (get_or-drop 8928 store k 0) (month (8928 + k) (omega arith))),
)

-- an empty store fits
fits_zeros : (n : ℕ) → store_fits (zeros n) ≡ true
fits_zeros n = fits_from (zeros n) (λ k l. rw at_zeros (omega arith)) (λ k l. rw at_zeros (omega arith))

pub fits_empty : store_fits empty_store ≡ true
fits_empty = fits_zeros 10416

-- every word of a store of 14 rows made 0
pub cleared : (store after : List ℕ) → length store ≡ 10416 → after ≡ zeros (length store)
    → after ≡ cond (eqb (length store) 10416) empty_store store
cleared store after size e = rw (eq-eqb (length store) 10416 size) (rw size at e)

-- a store that fits still does with hours of this month in row 12 or 13, and with hours of a past in a row before them
module _ (r : ℕ) (hours store : List ℕ) (size : length store ≡ 10416) (fits : store_fits store ≡ true) (long : length hours ≤ 744) where
  most_row : (m : ℕ) → none_above m hours ≡ true → (j : ℕ) → at (as_row hours) j ≤ m
  most_row m e j = rw at_row (none_above_at m hours e j)

  pub put_fits_month : 12 ≤ r → r ≤ 13 → none_above 1000000 hours ≡ true → store_fits (put_row r (as_row hours) store) ≡ true
  put_fits_month low row e =
      fits_from (put_row r (as_row hours) store)
      (λ k l. rw (at_put_before r (as_row hours) store size row (length_row hours long) k (omega arith)) (fits_at store fits k))
      (λ k l. put_most r (as_row hours) store size row (length_row hours long) 1000000 k (fits_month_at store fits k l) (most_row 1000000 e))

  pub put_fits_past : r ≤ 11 → none_above 3000000 hours ≡ true → store_fits (put_row r (as_row hours) store) ≡ true
  put_fits_past row e =
      fits_from (put_row r (as_row hours) store)
      (λ k l. put_most r (as_row hours) store size (omega arith) (length_row hours long) 3000000 k (fits_at store fits k) (most_row 3000000 e))
      (λ k l. rw (at_put_after r (as_row hours) store size (omega arith) (length_row hours long) k (omega arith)) (fits_month_at store fits k l))

-- no word of a part is above the limit where none is from its start on
none_above_part : (limit a t : ℕ) (xs : List ℕ) → ((k : ℕ) → a ≤ k → at xs k ≤ limit) → none_above limit (take t (drop a xs)) ≡ true
none_above_part limit a t xs e =
    none_above_from limit (take t (drop a xs)) λ k l.
    let m : k < t = omega (arith, length-take t (drop a xs)) in
    rw (get_or-take t (drop a xs) k 0 m, get_or-drop a xs k 0) (e (a + k) (omega arith))

-- so the first t words of a row keep the store's limits
module _ (r t : ℕ) (store : List ℕ) (fits : store_fits store ≡ true) where
  pub row_part_fits : none_above 3000000 (take t (drop (744 * r) store)) ≡ true
  row_part_fits = none_above_part 3000000 (744 * r) t store (λ k l. fits_at store fits k)

  pub row_part_fits_month : 12 ≤ r → none_above 1000000 (take t (drop (744 * r) store)) ≡ true
  row_part_fits_month low = none_above_part 1000000 (744 * r) t store (λ k l. fits_month_at store fits k (omega arith))
