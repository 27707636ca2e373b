-- What holds of the parts of a list, and of a list that is joined from them, for lists of every length. Assumes nothing.
use mathlib.Core.Path.{◌≡◌, refl, sym, ap, ap₂, ◌∙◌}
use mathlib.Core.List.{List}
use mathlib.Core.Bool.{Bool, true, false, cond, not}
use Prim.Native.Nat.{ℕ, ◌+◌, ◌≤◌, ◌<◌}
use native.Mathlib.Nat.{add-zero}
use native.Mathlib.Omega.{arith}
use lib.ListN.{length, get_or-eq_default}
use Rattle.std.proofs.lemmas.Bool.{not-true}
use Rattle.numbers.specs.Lists.{sum_to, sum, at, none_above}
use Rattle.numbers.proofs.Laws.{by_cases, length_tab, sum_tab, at_tab, tab_at, tab_same, sum_at, sum_both, sum_same, sum_stop, none_above_at, none_above_from}
use Rattle.parts.specs.Sets.{lies_inside, lies_outside, rank}
use Rattle.parts.specs.Parts.{inside_part, outside_part, joined_at, joined, sum_outside}
use Rattle.parts.proofs.Selected.{count_below, length_selected, at_selected, selected_same, selected_all, selected_counts, chosen_index}
use Rattle.parts.proofs.Selected.{sum_selected, sum_counts, sum_of_selected}

-- THE PART. It has as many entries as hours lie inside
pub part_length : (days : ℕ) (xs : List ℕ) → length (inside_part days xs) ≡ rank days (length xs)
unfolding inside_part rank
part_length days xs = length_selected (lies_inside days) (at xs) (length xs)

-- the entry of an hour inside stands at its rank
pub part_at : (days : ℕ) (xs : List ℕ) (h : ℕ) → h < length xs → lies_inside days h ≡ true → at (inside_part days xs) (rank days h) ≡ at xs h
unfolding inside_part rank
part_at days xs h l t = at_selected (lies_inside days) (at xs) (length xs) h l t

-- a sum over indexes in two: those that are chosen and the others
sum_in_two : (chosen : ℕ → Bool) (f g : ℕ → ℕ) (n : ℕ)
    → sum_to (λ h. cond (chosen h) (f h) (g h)) n ≡ sum_to (λ h. cond (chosen h) (f h) 0) n + sum_to (λ h. cond (not (chosen h)) (g h) 0) n
sum_in_two chosen f g n =
    sum_same n _ _ (λ h l. by_cases (chosen h) (λ t. rw (t, add-zero)) (λ d. rw d (omega arith))) ∙ sum_both _ _ n

same_both : (b : Bool) (x : ℕ) → x ≡ cond b x x
same_both true x = refl
same_both false x = refl

-- no entry is lost: the parts' sums add up to the sum of the list
pub part_sum : (days : ℕ) (xs : List ℕ) → sum xs ≡ sum (inside_part days xs) + sum (outside_part days xs)
unfolding inside_part outside_part
part_sum days xs =
    let c = lies_inside days in
    let n = length xs in
    sum_at xs
    ∙ sum_same n _ _ (λ h l. same_both (c h) (at xs h))
    ∙ sum_in_two c (at xs) (at xs) n
    ∙ ap₂ (λ (a b : ℕ). a + b) (sym (sum_selected c (at xs) n)) (sym (sum_selected (lies_outside days) (at xs) n))

-- a sum over the part is a sum over the hours inside
pub part_sum_of : (g : ℕ → ℕ) (days : ℕ) (xs : List ℕ)
    → sum_to (λ i. g (at (inside_part days xs) i)) (rank days (length xs))
    ≡ sum_to (λ h. cond (lies_inside days h) (g (at xs h)) 0) (length xs)
unfolding inside_part rank
part_sum_of g days xs = sum_of_selected (lies_inside days) g (at xs) (length xs)

-- what holds of each hour's entry holds of each entry of the part; so no entry of the part is above a limit of all
pub part_each : (P : ℕ → Type 0) (days : ℕ) (xs : List ℕ) → ((h : ℕ) → h < length xs → P (at xs h))
    → (i : ℕ) → i < length (inside_part days xs) → P (at (inside_part days xs) i)
unfolding rank
part_each P days xs p i l =
    let s = chosen_index (lies_inside days) (length xs) i (rw (part_length days xs) at l) in
    let e : at (inside_part days xs) i ≡ at xs s.index =
    ap (at (inside_part days xs)) (sym s.place) ∙ part_at days xs s.index s.below s.holds in
    rw e (p s.index s.below)

pub part_none_above : (limit days : ℕ) (xs : List ℕ) → none_above limit xs ≡ true → none_above limit (inside_part days xs) ≡ true
part_none_above limit days xs e =
    none_above_from limit (inside_part days xs) (part_each (λ x. x ≤ limit) days xs (λ h l. none_above_at limit xs e h))

-- the sum outside of a buffer of up to 744 words is that of the other part
pub sum_outside_part : (days : ℕ) (xs : List ℕ) → length xs ≤ 744 → sum_outside days xs ≡ sum (outside_part days xs)
unfolding sum_outside outside_part
sum_outside_part days xs l =
    sum_stop (λ h. cond (lies_outside days h) (at xs h) 0) l
    (λ h m. rw (get_or-eq_default xs 0 m) (sym (same_both (lies_outside days h) 0)))
    ∙ sym (sum_selected (lies_outside days) (at xs) (length xs))

-- JOINED. The list is as long as that whose entries outside it has
pub joined_length : (days : ℕ) (inside outside : List ℕ) → length (joined days inside outside) ≡ length outside
unfolding joined
joined_length days inside outside = length_tab (length outside) (joined_at days inside outside)

pub joined_at_hour : (days : ℕ) (inside outside : List ℕ) (h : ℕ) → h < length outside
    → at (joined days inside outside) h ≡ joined_at days inside outside h
unfolding joined
joined_at_hour days inside outside h l = at_tab (length outside) (joined_at days inside outside) h l

-- what holds of each entry inside, at its rank, and of each entry outside holds of each entry of the joined list
pub joined_each : (P : ℕ → ℕ → Type 0) (days : ℕ) (inside outside : List ℕ)
    → ((h : ℕ) → h < length outside → lies_inside days h ≡ true → P h (at inside (rank days h)))
    → ((h : ℕ) → h < length outside → lies_inside days h ≡ false → P h (at outside h))
    → (h : ℕ) → h < length outside → P h (at (joined days inside outside) h)
joined_each P days inside outside p q h l =
    rw (joined_at_hour days inside outside h l) (by_cases (lies_inside days h) (λ e. rw e (p h l e)) (λ e. rw e (q h l e)))

-- the rank of an hour inside is a place of a list that has an entry for each of them
pub rank_below : (days : ℕ) {h t : ℕ} → h < t → lies_inside days h ≡ true → rank days h < rank days t
unfolding rank
rank_below days l t = count_below (lies_inside days) l t

pub joined_none_above : (limit days : ℕ) (inside outside : List ℕ) → none_above limit inside ≡ true → none_above limit outside ≡ true
    → none_above limit (joined days inside outside) ≡ true
joined_none_above limit days inside outside p q =
    none_above_from limit (joined days inside outside)
    (λ h l.
    joined_each (λ j x. x ≤ limit) days inside outside
    (λ j m e. none_above_at limit inside p (rank days j))
    (λ j m e. none_above_at limit outside q j)
    h (rw (joined_length days inside outside) at l))

-- entries past the end of a list add nothing
sum_past : (xs : List ℕ) {n : ℕ} → length xs ≤ n → sum_to (at xs) n ≡ sum xs
sum_past xs l = sum_stop (at xs) l (λ h k. get_or-eq_default xs 0 k) ∙ sym (sum_at xs)

-- its sum is that of the one list and of the other's entries outside
pub joined_sum : (days : ℕ) (inside outside : List ℕ) → length inside ≤ rank days (length outside)
    → sum (joined days inside outside) ≡ sum inside + sum (outside_part days outside)
unfolding joined outside_part rank
joined_sum days inside outside l =
    let c = lies_inside days in
    let t = length outside in
    sum_tab t (joined_at days inside outside)
    ∙ sum_in_two c (λ h. at inside (rank days h)) (at outside) t
    ∙ ap₂ (λ (a b : ℕ). a + b)
    (sum_counts c (at inside) t ∙ sum_past inside l)
    (sym (sum_selected (lies_outside days) (at outside) t))

-- THERE AND BACK. The parts of a list that was joined are what went in, and a list joined from its own parts is itself
pub part_joined : (days : ℕ) (inside outside : List ℕ) → length inside ≡ rank days (length outside)
    → inside_part days (joined days inside outside) ≡ inside
unfolding inside_part rank
part_joined days inside outside e =
    let c = lies_inside days in
    let t = length outside in
    rw (joined_length days inside outside)
    (selected_same c (at (joined days inside outside)) (λ h. at inside (rank days h)) t
    (λ h l i. joined_at_hour days inside outside h l ∙ rw i)
    ∙ selected_counts c (at inside) t ∙ rw (← e) (tab_at inside))

pub others_joined : (days : ℕ) (inside outside : List ℕ) → outside_part days (joined days inside outside) ≡ outside_part days outside
unfolding outside_part
others_joined days inside outside =
    rw (joined_length days inside outside)
    (selected_same (lies_outside days) (at (joined days inside outside)) (at outside) (length outside)
    (λ h l i. joined_at_hour days inside outside h l ∙ rw (not-true (lies_inside days h) i)))

pub joined_part : (days : ℕ) (xs : List ℕ) → joined days (inside_part days xs) xs ≡ xs
unfolding joined
joined_part days xs =
    tab_same (length xs) _ _
    (λ h l. by_cases (lies_inside days h) (λ t. rw t (part_at days xs h l t)) (λ f. rw f))
    ∙ tab_at xs

-- NONE AND ALL. Where no hour lies inside a list that is joined stays; where every hour does the part is the list, and the list
-- that is joined is the part
pub joined_none : (days : ℕ) (inside outside : List ℕ) → ((h : ℕ) → h < length outside → lies_inside days h ≡ false)
    → joined days inside outside ≡ outside
unfolding joined
joined_none days inside outside e = tab_same (length outside) _ _ (λ h l. rw (e h l)) ∙ tab_at outside

pub part_all : (days : ℕ) (xs : List ℕ) → ((h : ℕ) → h < length xs → lies_inside days h ≡ true) → inside_part days xs ≡ xs
unfolding inside_part
part_all days xs e = selected_all (lies_inside days) (at xs) (length xs) e ∙ tab_at xs

pub joined_all : (days : ℕ) (inside outside : List ℕ) → length inside ≡ rank days (length outside)
    → ((h : ℕ) → h < length outside → lies_inside days h ≡ true)
    → joined days inside outside ≡ inside
joined_all days inside outside l e =
    sym (part_all days (joined days inside outside) (λ h m. e h (rw (joined_length days inside outside) at m)))
    ∙ part_joined days inside outside l
