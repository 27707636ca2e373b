-- Loops that write the entries of the hours inside to the front of a buffer, and the entries of a part into the hours inside. Assumes nothing.
use mathlib.Core.Path.{◌≡◌, refl, sym, ap, ◌∙◌}
use mathlib.Core.List.{List, [], ◌∷◌, ◌++◌, append_assoc}
use mathlib.Core.Bool.{true, false}
use Prim.Native.Nat.{ℕ, ◌+◌, ◌≤◌, ◌<◌}
use native.Mathlib.Numerals.{add-one}
use native.Mathlib.Omega.{arith}
use native.Mathlib.Decide.{dec_lt}
use lib.ListN.{length, set, get_or, replicate, length-set, length-append, length-replicate, get_or-append, get_or-eq_default}
use lib.Seq.{drop-cons, get_or-set_same, get_or-set_other, get_or_at, ext_get_or}
use Rattle.std.proofs.lemmas.List.{get_or-replicate, get_or_read_under}
use Rattle.numbers.specs.Lists.{tab, at, zeros, Filled}
use Rattle.numbers.proofs.Laws.{length_tab, at_tab, filled_none, filled_more, filled_whole}
use Rattle.parts.specs.Sets.{lies_inside, rank}
use Rattle.parts.specs.Parts.{selected, inside_part, joined_at, joined, Front}
use Rattle.parts.proofs.Selected.{selected_yes, selected_no, count_yes, count_no, length_selected}

module _ {X : Type 0} {x : X} where
  -- a buffer of x alone has no entries yet
  pub front_none : {d : List X} → d ≡ replicate (length d) x → Front x [] d d
  front_none {d} e = record { long = refl; is = λ i l. rw e (get_or-replicate (length d) i x x (omega arith)) }

  -- one entry more, which stands behind the k before it; where the buffer has no place k it stays
  pub front_more : {xs d l : List X} {k : ℕ} (y : X) → Front x xs d l → length xs ≡ k → Front x (xs ++ (y ∷ [])) d (set l k y)
  front_more {xs} {d} {l} {k} y f e = record {
    long = length-set l k y ∙ f.long;
    is = λ i m.
        elim (dec_lt i k) [
          | yes a ↦
              get_or-set_other l k i y x (λ s. absurd (omega arith)) ∙ f.is i m ∙ sym (get_or-append xs (y ∷ []) x i (omega arith))
          | no b ↦
              elim (dec_lt k i) [
                | yes a ↦
                    get_or-set_other l k i y x (λ s. absurd (omega arith)) ∙ f.is i m ∙ get_or-eq_default xs x (omega arith)
                    ∙ sym (get_or-eq_default (xs ++ (y ∷ [])) x (simp length-append (omega arith)))
                | no c ↦
                    let s : i ≡ k = omega arith in
                    rw s (get_or-set_same l k y x (omega (arith, f.long)) ∙ sym (get_or_at xs y [] x k e))
              ]
        ];
  }

-- THE LOOP THAT PARTS: the buffer, which was d and is l, has the entries of the hours inside before hour h, of which there are k
pub record Writing {X : Type 0} (days : ℕ) (xs d l : List X) (k h : ℕ) : Type 0 where
  pub most : k ≤ h
  pub place : k ≡ rank days h
  pub front : (x : X) → d ≡ replicate (length d) x → Front x (selected (lies_inside days) (λ j. get_or xs j x) h) d l

-- before the first hour, and after an hour inside and one outside
pub writing_none : {X : Type 0} {days : ℕ} {xs d : List X} → Writing days xs d d 0 0
unfolding rank
writing_none = record { most = omega arith; place = refl; front = λ x e. front_none e }

pub writing_yes : {X : Type 0} {days : ℕ} {xs d l : List X} {y : X} {k h : ℕ}
    → Writing days xs d l k h → lies_inside days h ≡ true → h < length xs → y ≡ get_or xs h y → Writing days xs d (set l k y) (k + 1) (h + 1)
unfolding rank
writing_yes {days = days} {xs = xs} {y = y} {h = h} w t m e =
    let c = lies_inside days in
    record {
      most = omega (arith, w.most);
      place = rw (add-one h) (omega (arith, w.place, count_yes c h t));
      front = λ x r.
          rw (add-one, selected_yes c (λ j. get_or xs j x) h t, ← get_or_read_under xs h (length xs) y x e m refl)
          (front_more _ (w.front x r) (length_selected c _ h ∙ sym w.place));
    }

pub writing_no : {X : Type 0} {days : ℕ} {xs d l : List X} {k h : ℕ}
    → Writing days xs d l k h → lies_inside days h ≡ false → Writing days xs d l k (h + 1)
unfolding rank
writing_no {days = days} {xs = xs} {h = h} w f =
    let c = lies_inside days in
    record {
      most = omega (arith, w.most);
      place = rw add-one (omega (arith, w.place, count_no c h f));
      front = λ x r. rw (add-one, selected_no c (λ j. get_or xs j x) h f) (w.front x r);
    }

-- so a buffer that was cleared has the part, entry by entry, and 0 from its end on
pub cleared_front : (days : ℕ) (xs d : List ℕ) {c l : List ℕ} → c ≡ zeros (length d)
    → ((x : ℕ) → c ≡ replicate (length c) x → Front x (selected (lies_inside days) (λ h. get_or xs h x) (length xs)) c l)
    → l ≡ tab (length d) (at (inside_part days xs))
unfolding inside_part
cleared_front days xs d {c} {l} e front =
    let same : length c ≡ length d = ap length e ∙ length-replicate (length d) 0 in
    let f = front 0 (rw same e) in
    let n : length l ≡ length d = f.long ∙ same in
    ext_get_or 0 l (tab (length d) (at (inside_part days xs))) (n ∙ sym (length_tab (length d) (at (inside_part days xs))))
    (λ i m.
    f.is i (omega arith) ∙ sym (at_tab (length d) (at (inside_part days xs)) i (omega arith)))

-- THE LOOP THAT JOINS: the hours before hour h, which were d and are in l, are joined, and k of them lie inside
pub record Joining (days : ℕ) (part d l : List ℕ) (k h : ℕ) : Type 0 where
  pub most : k ≤ h
  pub place : k ≡ rank days h
  pub filled : Filled (joined_at days part d) d l h

pub joining_none : {days : ℕ} {part d : List ℕ} → Joining days part d d 0 0
unfolding rank
joining_none = record { most = omega arith; place = refl; filled = filled_none _ _ }

pub joining_yes : {days : ℕ} {part d l : List ℕ} {k h x : ℕ}
    → Joining days part d l k h → lies_inside days h ≡ true → h < length d → x ≡ at part k → Joining days part d (set l h x) (k + 1) (h + 1)
unfolding rank
joining_yes {days} {h = h} w t b e =
    let p = w.place in
    record {
      most = omega (arith, w.most);
      place = rw (add-one h) (omega (arith, p, count_yes (lies_inside days) h t));
      filled = filled_more w.filled b (rw (t, e, p));
    }

-- an entry that is what it has to be may stay
filled_skip : {f : ℕ → ℕ} {d l : List ℕ} {h : ℕ} → Filled f d l h → h < length d → at d h ≡ f h → Filled f d l (h + 1)
-- an entry that is what it has to be may stay
filled_skip {f} {d} {l} {h} filled b e = record {
  long = filled.long;
  is = rw (filled.is, add-one, drop-cons d h 0, e, append_assoc);
}

pub joining_no : {days : ℕ} {part d l : List ℕ} {k h : ℕ}
    → Joining days part d l k h → lies_inside days h ≡ false → h < length d → Joining days part d l k (h + 1)
unfolding rank
joining_no {days} {h = h} w f b =
    record {
      most = omega (arith, w.most);
      place = rw add-one (omega (arith, w.place, count_no (lies_inside days) h f));
      filled = filled_skip w.filled b (rw f);
    }

pub joining_end : {days : ℕ} {part d l : List ℕ} {k h : ℕ} → Joining days part d l k h → h ≡ length d → l ≡ joined days part d
unfolding joined
joining_end {d = d} w e = filled_whole (length d) refl (rw e at w.filled)
