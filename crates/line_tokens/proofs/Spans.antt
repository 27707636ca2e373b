-- What holds of a byte of a line, wherever the line ends, and of a run by the number of its class. Assumes nothing.
use mathlib.Core.Path.{◌≡◌, refl}
use mathlib.Core.Bool.{Bool, false}
use mathlib.Core.List.{List, [], ◌∷◌}
use Prim.Native.Nat.{ℕ, zero, suc, ◌<◌, ◌≤◌}
use native.Mathlib.Nat.{not-suc-le-zero, le_of_suc-le-suc}
use native.Mathlib.Omega.{arith}
use borrow.Author.Tests.{ne_eqb}
use lib.Dec.{eqb}
use lib.ListN.{length, get_or, drop}
use Rattle.std.specs.List.{prefix_len}
use Rattle.std.proofs.lemmas.List.Folds.{length-prefix_len}
use Rattle.line_tokens.specs.declared.Class.{Class}
use Rattle.line_tokens.specs.declared.Class.TheVariants.{Blank, Digit, Letter, End, Left, Right, Dash, Other, Foreign}
use Rattle.line_tokens.specs.Tokens.{class_of, same_class, is_of, run_from, span_from, class_number, is_of_number, span_by}

-- an element does not depend on what stands past the end
pub get_d_any : (l : List ℕ) (i a b : ℕ) → i < length l → get_or l i a ≡ get_or l i b
get_d_any [] i a b h = absurd (not-suc-le-zero h)
get_d_any (x ∷ xs) zero a b h = refl
get_d_any (x ∷ xs) (suc i) a b h = get_d_any xs i a b (le_of_suc-le-suc h)

-- no two classes have one number, and the last has 8
same_number : (c d : Class) → eqb (class_number c) (class_number d) ≡ same_class c d
unfolding class_number
same_number Blank Blank = refl
same_number Blank _ = refl
same_number Digit Digit = refl
same_number Digit _ = refl
same_number Letter Letter = refl
same_number Letter _ = refl
same_number End End = refl
same_number End _ = refl
same_number Left Left = refl
same_number Left _ = refl
same_number Right Right = refl
same_number Right _ = refl
same_number Dash Dash = refl
same_number Dash _ = refl
same_number Other Other = refl
same_number Other _ = refl
same_number Foreign Foreign = refl
same_number Foreign _ = refl

number_last : (c : Class) → class_number c ≤ 8
unfolding class_number
number_last Blank = omega arith
number_last _ = omega arith

same_prefix : (p q : ℕ → Bool) → ((b : ℕ) → p b ≡ q b) → (l : List ℕ) → prefix_len p l ≡ prefix_len q l
same_prefix p q e [] = refl
same_prefix p q e (b ∷ bs) = rw (e b, same_prefix p q e bs)

no_prefix : (p : ℕ → Bool) → ((b : ℕ) → p b ≡ false) → (l : List ℕ) → prefix_len p l ≡ 0
no_prefix p e [] = refl
no_prefix p e (b ∷ bs) = rw (e b)

-- THE NUMBER OF A CLASS STANDS FOR THE CLASS
pub span_by_class : (class : Class) (line : List ℕ) (from : ℕ) → span_by (class_number class) line from ≡ span_from class line from
unfolding span_by span_from run_from is_of is_of_number
span_by_class class line from =
    rw (same_prefix (is_of_number (class_number class)) (is_of class) (λ b. same_number (class_of b) class) (drop from line), length-prefix_len)

-- and a number that no class has for no byte
pub span_by_none : (n : ℕ) (line : List ℕ) (from : ℕ) → 9 ≤ n → span_by n line from ≡ from
unfolding span_by is_of_number
span_by_none n line from l =
    let other : (b : ℕ) → is_of_number n b ≡ false = λ b. ne_eqb (class_number (class_of b)) n (λ e. omega (arith, e, number_last (class_of b))) in
    rw (no_prefix (is_of_number n) other (drop from line)) (omega arith)
