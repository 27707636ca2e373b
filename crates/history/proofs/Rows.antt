-- A store told by the hours in its rows: a row that is written and a row that is read, and a table with one place replaced. Assumes nothing.
use Prim.Native.Nat.{ℕ, ◌+◌, ◌-◌, ◌*◌, ◌≤◌, ◌<◌}
use mathlib.Core.Path.{◌≡◌, sym, ap, ◌∙◌}
use mathlib.Core.Logic.{inl, inr}
use mathlib.Core.Bool.{cond}
use mathlib.Core.List.{List, []}
use native.Mathlib.Omega.{arith}
use native.Mathlib.Decide.{dec_lt}
use borrow.Author.Tests.{eqb-true, eqb-false}
use lib.Dec.{eqb}
use lib.ListN.{length, take, drop, set, length-set, length-take, length-drop, length-replicate}
use lib.Seq.{take_at, take-take, get_or-take, get_or-drop, get_or-set_same, get_or-set_other, ext_get_or}
use Rattle.numbers.specs.Lists.{tab, zeros, padded}
use Rattle.numbers.proofs.Laws.{by_cases, length_tab, at_tab, at_zeros}
use Rattle.store.specs.Store.{row_part}
use Rattle.store.specs.Store.{as_row, with_hours, empty_store}
use Rattle.store.proofs.Laws.{length_row, length_put, row_put_same, row_put_other, padded_none}

-- hours as a row, and back
pub take_row : (hs : List ℕ) (t : ℕ) → length hs ≡ t → take t (as_row hs) ≡ hs
unfolding padded
take_row hs t e = take_at hs (zeros (744 - length hs)) t e

-- a store whose row r holds the hours f r
pub record Holds (f : ℕ → List ℕ) (store : List ℕ) : Type 0 where
  pub words : length store ≡ 10416
  pub rows : (r : ℕ) → r ≤ 13 → row_part store r 744 ≡ as_row (f r)

-- a function changed at q
abbrev pub replaced_at {ℓ} : {A : Type ℓ} → (ℕ → A) → ℕ → A → ℕ → A
replaced_at f q x i = cond (eqb i q) x (f i)

-- the same hours
pub holds_same : {f g : ℕ → List ℕ} {store : List ℕ} → ((r : ℕ) → f r ≡ g r) → Holds f store → Holds g store
holds_same e h = record { words = h.words; rows = λ r l. h.rows r l ∙ ap as_row (e r) }

-- hours written into row q
pub holds_put : {f : ℕ → List ℕ} {store : List ℕ} (q : ℕ) (hs : List ℕ) → q ≤ 13 → length hs ≤ 744 → Holds f store
    → Holds (replaced_at f q hs) (with_hours q hs store)
holds_put {f} {store} q hs l m h =
    let long = length_row hs m in
    record {
      words = length_put q (as_row hs) store h.words l long;
      rows = λ r b.
          by_cases (eqb r q)
          (λ t. rw (t, eqb-true r q t) (row_put_same q (as_row hs) store h.words l long))
          (λ n.
          rw n
          (row_put_other q (as_row hs) store h.words l long r
          (elim (dec_lt r q) [ yes k ↦ inl k | no k ↦ inr (omega (arith, eqb-false r q n)) ])
          ∙ h.rows r b));
    }

-- the hours of a month of t hours in their row
pub row_hours_lem : {f : ℕ → List ℕ} {store : List ℕ} → Holds f store → (r t : ℕ) → r ≤ 13 → t ≤ 744 → length (f r) ≡ t
    → row_part store r t ≡ f r
row_hours_lem {f} {store} h r t l m e =
    sym (take-take t 744 (drop (744 * r) store) m) ∙ rw (h.rows r l) (take_row (f r) t e)

-- an empty store holds no hours
part_zeros : (n a t : ℕ) → a + t ≤ n → take t (drop a (zeros n)) ≡ zeros t
part_zeros n a t l =
    ext_get_or 0 (take t (drop a (zeros n))) (zeros t)
    (simp (length-take, length-drop, length-replicate) (omega arith))
    λ k b.
    let m : k < t = omega (arith, length-take t (drop a (zeros n))) in
    rw (get_or-take t (drop a (zeros n)) k 0 m, get_or-drop a (zeros n) k 0, at_zeros n (a + k), at_zeros t k)

pub holds_none : Holds (λ r. []) empty_store
holds_none = record { words = length-replicate {A = ℕ} 10416 0; rows = λ r l. padded_none 744 (part_zeros 10416 (744 * r) 744 (omega arith)) }

-- a table with one place replaced
pub set_tab : (f : ℕ → ℕ) (n q x : ℕ) → q < n → set (tab n f) q x ≡ tab n (replaced_at f q x)
set_tab f n q x l =
    ext_get_or 0 (set (tab n f) q x) (tab n (replaced_at f q x)) (length-set (tab n f) q x ∙ length_tab n f ∙ sym (length_tab n (replaced_at f q x)))
    λ i b.
    let m : i < n = omega (arith, length-set (tab n f) q x, length_tab n f) in
    rw (at_tab n (replaced_at f q x) i m)
    (by_cases (eqb i q)
    (λ t. rw (t, eqb-true i q t) (get_or-set_same (tab n f) q x 0 (rw (length_tab n f) l)))
    (λ g. rw g (get_or-set_other (tab n f) q i x 0 (eqb-false i q g) ∙ at_tab n f i m)))
