-- Sets with the same days are equal; what the tests of number 2 say of days, and that marking keeps them. Assumes nothing.
use Prim.Native.Nat.{ℕ, zero, suc, ◌+◌, ◌-◌, ◌/◌, ◌^◌, ◌≤◌, ◌<◌}
use mathlib.Core.Path.{◌≡◌, refl, sym, ap, ◌∙◌}
use mathlib.Core.Bool.{Bool, true, false, cond, ◌||◌, ◌&&◌, or-false, false≢true, true≢false}
use native.Mathlib.Omega.{arith}
use native.Mathlib.Nat.{div-eq_of_lt, lt-div-mul-add, add-sub_cancel}
use native.Mathlib.Decide.{dec_lt}
use borrow.Author.Tests.{lt-ltb, le-ltb, ltb-true, eq-eqb, ne_eqb, eqb-true}
use lib.Dec.{eqb, leb}
use lib.Bits.{bit_or, or_lt}
use lib.Pow.{pow_pos, pow_mono, shr-shr}
use Rattle.std.specs.Int.{bit_at}
use Rattle.std.proofs.lemmas.Nat.Bits.{bit_at-lt, same_from_bits}
use Rattle.numbers.proofs.Laws.{by_cases, both, or_true}
use Rattle.parts.specs.Sets.{in_set, days_between}
use Rattle.parts.proofs.Bits.{in_either, past_set, none_in}
use Rattle.spells.specs.Sets.{on_day, days_from, marked, completed, only_before, is_within}

-- THE SAME DAYS
same_bit : (x y : ℕ) → x < 2 → y < 2 → eqb x 1 ≡ eqb y 1 → x ≡ y
same_bit zero zero p q e = refl
same_bit zero (suc zero) p q e = absurd (false≢true e)
same_bit (suc zero) zero p q e = absurd (true≢false e)
same_bit (suc zero) (suc zero) p q e = refl
same_bit (suc (suc x)) y p q e = absurd (omega arith)
same_bit zero (suc (suc y)) p q e = absurd (omega arith)
same_bit (suc zero) (suc (suc y)) p q e = absurd (omega arith)

pub same_set : (a b : ℕ) → ((k : ℕ) → in_set a k ≡ in_set b k) → a ≡ b
unfolding in_set
same_set a b h = same_from_bits a b (λ k. same_bit (bit_at a k) (bit_at b k) (bit_at-lt a k) (bit_at-lt b k) (h k))

-- ONLY DAYS BEFORE P, as the words say it
pub before_at : (days p x : ℕ) → only_before days p ≡ true → 1 ≤ x → on_day days x ≡ true → x < p
unfolding only_before
before_at days p x t l d =
    elim (dec_lt x p) [
      | yes q ↦ q
      | no q ↦ absurd (true≢false (sym d ∙ past_set days (p - 1) (x - 1) (ltb-true days (2 ^ (p - 1)) t) (omega arith)))
    ]

shifted_bit : (days j k : ℕ) → in_set (days / 2 ^ j) k ≡ in_set days (j + k)
unfolding in_set
shifted_bit days j k = rw shr-shr

shift_zero : (days j : ℕ) → days / 2 ^ j ≡ 0 → days < 2 ^ j
shift_zero days j e = omega (arith, rw e at (lt-div-mul-add {a = days} (pow_pos j)))

pub before_from : (days p : ℕ) → ((x : ℕ) → 1 ≤ x → on_day days x ≡ true → x < p) → only_before days p ≡ true
unfolding only_before
before_from days p h =
    let j : ℕ = p - 1 in
    let e : days / 2 ^ j ≡ 0 =
    same_set (days / 2 ^ j) 0
    (λ k.
    shifted_bit days j k
    ∙ by_cases (in_set days (j + k))
    (λ t. let s : suc (j + k) - 1 ≡ j + k = omega arith in absurd (omega (arith, h (suc (j + k)) (omega arith) (rw s t))))
    (λ f. f ∙ sym (none_in k)))
    in
    lt-ltb days (2 ^ j) (shift_zero days j e)

-- THE SECOND WITHIN THE FIRST, as the words say it
or_first : (a b : Bool) → (b ≡ true → a ≡ true) → a || b ≡ a
or_first true b h = refl
or_first false true h = sym (h refl)
or_first false false h = refl

or_second : (a b : Bool) → a || b ≡ a → b ≡ true → a ≡ true
or_second true b e t = refl
or_second false b e t = sym e ∙ t

pub within_from : (first second : ℕ) → ((k : ℕ) → in_set second k ≡ true → in_set first k ≡ true) → is_within first second ≡ true
unfolding is_within
within_from first second h =
    eq-eqb (bit_or first second) first
    (same_set (bit_or first second) first (λ k. in_either first second k ∙ or_first (in_set first k) (in_set second k) (h k)))

pub within_at : (first second k : ℕ) → is_within first second ≡ true → in_set second k ≡ true → in_set first k ≡ true
unfolding is_within
within_at first second k t d =
    or_second (in_set first k) (in_set second k)
    (sym (in_either first second k) ∙ ap (λ (n : ℕ). in_set n k) (eqb-true (bit_or first second) first t)) d

-- THE CODE'S TESTS: nothing is left where the days before p are shifted out, and a word has 32 bits
pub shift_test : (days p j : ℕ) → j ≡ p - 1 → eqb (days / 2 ^ j) 0 ≡ only_before days p
unfolding only_before
shift_test days p j e =
    rw (← e)
    (elim (dec_lt days (2 ^ j)) [
      | yes l ↦ rw (lt-ltb days (2 ^ j) l, div-eq_of_lt l)
      | no l ↦ rw (le-ltb days (2 ^ j) (omega arith)) (ne_eqb (days / 2 ^ j) 0 (λ z. l (shift_zero days j z)))
    ])

pub word_test : (days p j : ℕ) → j ≡ p - 1 → days < 4294967296 → 32 ≤ j → true ≡ only_before days p
unfolding only_before
word_test days p j e l m =
    let q : 2 ^ 32 ≤ 2 ^ j = pow_mono m in
    rw (← e) (sym (lt-ltb days (2 ^ j) (omega arith)))

-- the days up to the last one
pub completed_between : (days p last : ℕ)
    → completed days p last true ≡ bit_or days (cond (leb last 32) (days_between (p - 1) last) 0)
unfolding completed marked days_from
completed_between days p last = rw (add-sub_cancel last 1)

pub completed_none : (days p last : ℕ) → completed days p last false ≡ days
unfolding completed marked
completed_none days p last = refl

-- NUMBER 2 GOES ON. Marking the days before an event leaves only days before it
from_below : (p e : ℕ) → days_from p e < 2 ^ (e - 1)
unfolding days_from days_between
from_below p e =
    by_cases (leb (e - 1) 32) (λ t. rw t (omega (arith, pow_pos (p - 1), pow_pos (e - 1)))) (λ f. rw f (pow_pos (e - 1)))

pub marked_before : (status : Bool) (days p e : ℕ) → only_before days p ≡ true → p ≤ e → only_before (marked days p e status) e ≡ true
unfolding only_before marked
marked_before status days p e h l =
    let m : 2 ^ (p - 1) ≤ 2 ^ (e - 1) = pow_mono (omega arith) in
    let few : days < 2 ^ (e - 1) = omega (arith, ltb-true days (2 ^ (p - 1)) h) in
    by_cases status
    (λ t. rw t (lt-ltb (bit_or days (days_from p e)) (2 ^ (e - 1)) (or_lt (e - 1) days (days_from p e) few (from_below p e))))
    (λ f. rw f (lt-ltb days (2 ^ (e - 1)) few))

-- and where the second set is marked only as the first is, it stays within it
more_within : (a b c d : Bool) → (b ≡ true → a ≡ true) → (d ≡ true → c ≡ true) → b || d ≡ true → a || c ≡ true
more_within a true c d h g t = rw (h refl)
more_within a false c true h g t = rw (g refl) (or_true a)
more_within a false c false h g t = absurd (false≢true t)

-- THE DAYS OF A MARKED SET
pub marked_bit : (s : Bool) (days p e k : ℕ) → in_set (marked days p e s) k ≡ in_set days k || (s && in_set (days_from p e) k)
unfolding marked
marked_bit true days p e k = in_either days (days_from p e) k
marked_bit false days p e k = sym (or-false (in_set days k))

pub marked_within : (s t : Bool) (first second p e : ℕ) → is_within first second ≡ true → (t ≡ true → s ≡ true)
    → is_within (marked first p e s) (marked second p e t) ≡ true
marked_within s t first second p e h g =
    within_from _ _ λ k u.
    marked_bit s first p e k
    ∙ more_within (in_set first k) (in_set second k) (s && in_set (days_from p e) k) (t && in_set (days_from p e) k)
    (within_at first second k h)
    (λ v. let w = both t (in_set (days_from p e) k) v in rw (g w.0, w.1))
    (sym (marked_bit t second p e k) ∙ u)
