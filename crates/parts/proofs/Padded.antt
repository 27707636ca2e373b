-- A list in a longer buffer with 0 behind it, where no hour behind lies inside. Assumes nothing.
use mathlib.Core.Path.{◌≡◌, refl, sym, ◌∙◌}
use mathlib.Core.List.{List}
use mathlib.Core.Bool.{false}
use Prim.Native.Nat.{ℕ, ◌-◌, ◌*◌, ◌/◌, ◌^◌, ◌≤◌, ◌<◌}
use native.Mathlib.Omega.{arith}
use native.Mathlib.Decide.{le_ind, dec_lt}
use lib.ListN.{length, length-append, length-replicate, get_or-eq_default}
use lib.Seq.{ext_get_or}
use Rattle.numbers.specs.Lists.{tab, at, padded}
use Rattle.numbers.proofs.Laws.{length_tab, at_tab, at_more}
use Rattle.parts.specs.Sets.{lies_inside}
use Rattle.parts.specs.Parts.{selected, inside_part, joined}
use Rattle.parts.proofs.Bits.{past_set}
use Rattle.parts.proofs.Selected.{selected_same, selected_no}
use Rattle.parts.proofs.Laws.{joined_length, joined_at_hour}

-- a set of days of the first n has no hour from 24 n on
pub past_outside : (days n : ℕ) → days < 2 ^ n → (h : ℕ) → 24 * n ≤ h → lies_inside days h ≡ false
unfolding lies_inside
past_outside days n d h l = past_set days n (h / 24) d (omega arith)

length_padded : (xs : List ℕ) (m : ℕ) → length xs ≤ m → length (padded m xs) ≡ m
unfolding padded
length_padded xs m l = simp (length-append, length-replicate) (omega arith)

at_padded : (xs : List ℕ) (m h : ℕ) → at (padded m xs) h ≡ at xs h
unfolding padded
at_padded xs m h = at_more xs (m - length xs) h

-- a buffer with room for a list, and its entries, is the list with 0 behind it
pub tab_padded : (xs : List ℕ) (m : ℕ) → length xs ≤ m → tab m (at xs) ≡ padded m xs
tab_padded xs m l =
    ext_get_or 0 (tab m (at xs)) (padded m xs) (length_tab m (at xs) ∙ sym (length_padded xs m l))
    (λ h k. at_tab m (at xs) h (rw (length_tab m (at xs)) at k) ∙ sym (at_padded xs m h))

-- the part of a longer buffer is that of the list
pub part_padded : (days m : ℕ) (xs : List ℕ) → length xs ≤ m → ((h : ℕ) → length xs ≤ h → lies_inside days h ≡ false)
    → inside_part days (padded m xs) ≡ inside_part days xs
unfolding inside_part
part_padded days m xs l e =
    let c = lies_inside days in
    rw (length_padded xs m l)
    (selected_same c (at (padded m xs)) (at xs) m (λ h i t. at_padded xs m h)
    ∙ le_ind (λ (k : ℕ). selected c (at xs) k ≡ selected c (at xs) (length xs)) refl (λ k i s. selected_no c (at xs) k (e k i) ∙ s) m l)

-- and a list joined in a longer buffer has 0 behind it still
pub joined_padded : (days m : ℕ) (inside outside : List ℕ) → length outside ≤ m
    → ((h : ℕ) → length outside ≤ h → lies_inside days h ≡ false)
    → joined days inside (padded m outside) ≡ padded m (joined days inside outside)
joined_padded days m inside outside l e =
    let t = length outside in
    let month = joined days inside outside in
    let long = joined_length days inside outside in
    let wide = joined_length days inside (padded m outside) ∙ length_padded outside m l in
    ext_get_or 0 (joined days inside (padded m outside)) (padded m month)
    (wide ∙ sym (length_padded month m (omega arith)))
    (λ h i.
    joined_at_hour days inside (padded m outside) h (rw (joined_length days inside (padded m outside)) at i)
    ∙ rw (at_padded outside m h, at_padded month m h)
    (elim (dec_lt h t) [
      | yes a ↦ sym (joined_at_hour days inside outside h a)
      | no b ↦
          let past : t ≤ h = omega arith in
          rw (e h past) (get_or-eq_default outside 0 past ∙ sym (get_or-eq_default month 0 (omega arith)))
    ]))
