-- What is said of the items of a list is said of its indexes. Assumes nothing.
use mathlib.Core.Path.{◌≡◌, refl, sym, ap, ◌∙◌}
use mathlib.Core.Bool.{Bool, true, false, ◌&&◌}
use mathlib.Core.List.{List, [], ◌∷◌}
use Prim.Native.Nat.{ℕ, zero, suc, ◌+◌}
use native.Mathlib.Omega.{arith}
use lib.Dec.{leb}
use lib.ListN.{length, get_or, take}
use Rattle.std.specs.List.{sum_by, list_all}
use Rattle.std.specs.Ordering.{as_partial_cmp, is_le, nat_cmp, partial_le}
use Rattle.std.proofs.lemmas.Bool.Decides.{nat_tests}
use Rattle.std.proofs.lemmas.List.Sums.{sum_by-cons}
use Rattle.numbers.specs.Lists.{sum_to, all_to, at, none_above}

sum_front : (g : ℕ → ℕ) (n : ℕ) → sum_to g (suc n) ≡ g 0 + sum_to (λ k. g (suc k)) n
sum_front g zero = omega arith
sum_front g (suc n) = omega (arith, sum_front g n)

pub sum_by_to : {X : Type 0} (f : X → ℕ) (d : X) (xs : List X) → sum_by f xs ≡ sum_to (λ k. f (get_or xs k d)) (length xs)
sum_by_to f d [] = refl
sum_by_to f d (x ∷ xs) =
    omega (arith, sum_by-cons f x xs, sum_by_to f d xs, sum_front (λ k. f (get_or (x ∷ xs) k d)) (length xs))

and_true : (a : Bool) → a ≡ a && true
and_true true = refl
and_true false = refl

and_assoc : (a b c : Bool) → (a && b) && c ≡ a && (b && c)
and_assoc true b c = refl
and_assoc false b c = refl

all_front : (g : ℕ → Bool) (n : ℕ) → all_to g (suc n) ≡ g 0 && all_to (λ k. g (suc k)) n
all_front g zero = and_true (g 0)
all_front g (suc n) = rw (all_front g n) (and_assoc (g 0) _ _)

pub all_by_to : {X : Type 0} (f : X → Bool) (d : X) (xs : List X) → list_all f xs ≡ all_to (λ k. f (get_or xs k d)) (length xs)
all_by_to f d [] = refl
all_by_to f d (x ∷ xs) =
    ap (λ (b : Bool). f x && b) (all_by_to f d xs) ∙ sym (all_front (λ k. f (get_or (x ∷ xs) k d)) (length xs))

-- tests that agree at each item
all_same : {X : Type 0} (f g : X → Bool) → ((x : X) → f x ≡ g x) → (xs : List X) → list_all f xs ≡ list_all g xs
all_same f g e [] = refl
all_same f g e (x ∷ xs) = rw (e x, all_same f g e xs)

nat_le : (x y : ℕ) → is_le (nat_cmp x y) ≡ leb x y
nat_le x y = grind (arith, nat_tests)

-- that no number is above the limit, by the order of the numbers' type
pub none_above_items : (limit : ℕ) (xs : List ℕ) → list_all (λ x. partial_le (as_partial_cmp nat_cmp) x limit) xs ≡ none_above limit xs
unfolding none_above
none_above_items limit xs =
    all_same _ (λ x. leb x limit) (λ x. nat_le x limit) xs ∙ all_by_to (λ x. leb x limit) 0 xs

sum_no_words : (n : ℕ) → sum_to (at []) n ≡ 0
sum_no_words zero = refl
sum_no_words (suc n) = omega (arith, sum_no_words n)

-- the sum of the first n words, of which there may be fewer
pub sum_first_words : (xs : List ℕ) (n : ℕ) → sum_by (λ x. x) (take n xs) ≡ sum_to (at xs) n
sum_first_words xs zero = refl
sum_first_words [] (suc n) = sym (sum_no_words (suc n))
sum_first_words (x ∷ xs) (suc n) =
    omega (arith, sum_by-cons (λ y. y) x (take n xs), sum_first_words xs n, sum_front (at (x ∷ xs)) n)
