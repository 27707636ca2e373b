-- What holds of tables, sums and tests over an index, and of a loop that fills a list from the front. Assumes nothing.
use mathlib.Core.Path.{◌≡◌, refl, sym, ap₂, ◌∙◌}
use mathlib.Core.Logic.{◌⊎◌, inl, inr, ⊎_elim}
use mathlib.Core.List.{List, [], ◌∷◌, ◌++◌, append_assoc, append-nil}
use mathlib.Core.Bool.{Bool, true, false, cond, ◌&&◌, ◌||◌, false≢true}
use Prim.Native.Nat.{ℕ, zero, suc, ◌+◌, ◌*◌, ◌≤◌, ◌<◌}
use native.Mathlib.Nat.{not-suc-le-zero, le_of_suc-le-suc, eq-or-lt_of_le, le_refl, le_step, le_antisymm}
use native.Mathlib.Nat.{add-zero, add-suc, mul-zero, mul-suc, mul-add}
use native.Mathlib.Numerals.{add-one}
use native.Mathlib.Omega.{arith}
use native.Mathlib.Decide.{le_ind, dec_lt}
use borrow.Author.Tests.{leb-true, le-leb, lt-ltb}
use lib.Dec.{leb, ltb}
use lib.ListN.{length, drop, set, length-append, length-set, get_or-append, get_or-eq_default}
use lib.Seq.{drop-cons, set_at, get_or_at, ext_get_or}
use Rattle.std.proofs.lemmas.List.{drop-replicate}
use Rattle.numbers.specs.Lists.{tab, sum_to, all_to, any_to, count_to, sum, at, zeros, padded, none_above, Filled}

pub by_cases {ℓ} : {P : Type ℓ} (b : Bool) → (b ≡ true → P) → (b ≡ false → P) → P
by_cases true t f = t refl
by_cases false t f = f refl

-- the parts of a test
pub both : (a b : Bool) → a && b ≡ true → (a ≡ true) × (b ≡ true)
both true b e = (refl, e)
both false b e = absurd (false≢true e)

pub neither : (a b : Bool) → a || b ≡ false → (a ≡ false) × (b ≡ false)
neither true b e = absurd (false≢true (sym e))
neither false b e = (refl, e)

-- one of two tests holds; the first does where the second does not
pub either : (a b : Bool) → a || b ≡ true → (a ≡ true) ⊎ (b ≡ true)
either true b e = inl refl
either false b e = inr e

pub first_of : (a b : Bool) → a || b ≡ true → b ≡ false → a ≡ true
first_of true b e f = refl
first_of false b e f = absurd (false≢true (sym f ∙ e))

pub or_true : (a : Bool) → a || true ≡ true
or_true true = refl
or_true false = refl

or_false : (a : Bool) → a || false ≡ a
or_false true = refl
or_false false = refl

pub and_false : (a : Bool) → a && false ≡ false
and_false true = refl
and_false false = refl

pub cond_most : (b : Bool) {x y k : ℕ} → x ≤ k → y ≤ k → cond b x y ≤ k
cond_most true p q = p
cond_most false p q = q

pub sum_snoc : (xs : List ℕ) (x : ℕ) → sum (xs ++ (x ∷ [])) ≡ sum xs + x
sum_snoc [] x = omega arith
sum_snoc (y ∷ xs) x = omega (arith, sum_snoc xs x)

pub length_tab : (n : ℕ) (f : ℕ → ℕ) → length (tab n f) ≡ n
length_tab zero f = refl
length_tab (suc n) f = simp length-append (omega (arith, length_tab n f))

pub sum_tab : (n : ℕ) (f : ℕ → ℕ) → sum (tab n f) ≡ sum_to f n
sum_tab zero f = refl
sum_tab (suc n) f = omega (arith, sum_snoc (tab n f) (f n), sum_tab n f)

pub at_tab : (n : ℕ) (f : ℕ → ℕ) (h : ℕ) → h < n → at (tab n f) h ≡ f h
at_tab zero f h l = absurd (not-suc-le-zero l)
at_tab (suc n) f h l =
    ⊎_elim
    (λ e. rw e (get_or_at (tab n f) (f n) [] 0 n (length_tab n f)))
    (λ k. get_or-append (tab n f) (f n ∷ []) 0 h (rw (length_tab n f) k) ∙ at_tab n f h k)
    (eq-or-lt_of_le (le_of_suc-le-suc l))

-- functions that agree below n have the same table and the same sum
pub tab_same : (n : ℕ) (f g : ℕ → ℕ) → ((h : ℕ) → h < n → f h ≡ g h) → tab n f ≡ tab n g
tab_same zero f g e = refl
tab_same (suc n) f g e = ap₂ (λ (l : List ℕ) (x : ℕ). l ++ (x ∷ [])) (tab_same n f g (λ h l. e h (le_step l))) (e n (le_refl _))

pub sum_same : (n : ℕ) (f g : ℕ → ℕ) → ((h : ℕ) → h < n → f h ≡ g h) → sum_to f n ≡ sum_to g n
sum_same zero f g e = refl
sum_same (suc n) f g e = ap₂ (λ (a b : ℕ). a + b) (sum_same n f g (λ h l. e h (le_step l))) (e n (le_refl _))

pub sum_up : (f : ℕ → ℕ) {h n : ℕ} → h ≤ n → sum_to f h ≤ sum_to f n
sum_up f {h} {n} l = le_ind (λ (m : ℕ). sum_to f h ≤ sum_to f m) (omega arith) (λ m k e. omega arith) n l

pub sum_both : (f g : ℕ → ℕ) (n : ℕ) → sum_to (λ h. f h + g h) n ≡ sum_to f n + sum_to g n
sum_both f g zero = refl
sum_both f g (suc n) = omega (arith, sum_both f g n)

-- n numbers of at most k each
pub sum_most : (f : ℕ → ℕ) (k n : ℕ) → ((h : ℕ) → h < n → f h ≤ k) → sum_to f n ≤ k * n
sum_most f k zero e = omega arith
sum_most f k (suc n) e = omega (arith, sum_most f k n (λ h l. e h (le_step l)), e n (le_refl _))

pub count_some : (f : ℕ → Bool) (n h : ℕ) → h < n → f h ≡ true → 0 < count_to f n
count_some f n h l t =
    let g : 1 ≤ cond (f h) 1 0 = rw t (omega arith) in
    omega (arith, sum_up (λ k. cond (f k) 1 0) l)

-- f holds of one index below n where it has a count
pub record HoldsOfOne (f : ℕ → Bool) (n : ℕ) : Type 0 where
  pub index : ℕ
  pub below : index < n
  pub holds : f index ≡ true

pub count_holds : (f : ℕ → Bool) (n : ℕ) → 0 < count_to f n → HoldsOfOne f n
count_holds f zero l = absurd (omega arith)
count_holds f (suc n) l =
    by_cases (f n)
    (λ t. record { index = n; below = le_refl _; holds = t })
    (λ g.
    let less : 0 < count_to f n = simp (g, add-zero) at l in
    let e = count_holds f n less in
    record { index = e.index; below = le_step e.below; holds = e.holds })

-- some index has a count just where f holds of one
pub count_any : (f : ℕ → Bool) (n : ℕ) → ltb 0 (count_to f n) ≡ any_to f n
count_any f zero = refl
count_any f (suc n) =
    by_cases (f n)
    (λ t. rw (t, or_true (any_to f n)) (lt-ltb 0 (count_to f n + 1) (omega arith)))
    (λ g. rw (g, add-zero, or_false (any_to f n)) (count_any f n))

-- no test of one of the indexes holds where the test of any does not
pub none_at : (f : ℕ → Bool) (n k : ℕ) → any_to f n ≡ false → k < n → f k ≡ false
none_at f zero k e l = absurd (not-suc-le-zero l)
none_at f (suc n) k e l =
    ⊎_elim
    (λ i. rw i (neither (any_to f n) (f n) e).1)
    (λ m. none_at f n k (neither (any_to f n) (f n) e).0 m)
    (eq-or-lt_of_le (le_of_suc-le-suc l))

pub sum_ones : (n : ℕ) → sum_to (λ h. 1) n ≡ n
sum_ones zero = refl
sum_ones (suc n) = omega (arith, sum_ones n)

-- nothing is added where f is 0 from n on
pub sum_stop : (f : ℕ → ℕ) {n m : ℕ} → n ≤ m → ((h : ℕ) → n ≤ h → f h ≡ 0) → sum_to f m ≡ sum_to f n
sum_stop f {n} {m} l e =
    le_ind (λ (k : ℕ). sum_to f k ≡ sum_to f n) refl (λ k i j. omega (arith, e k i)) m l

-- a sum in two parts, and in k parts of m
pub sum_split : (f : ℕ → ℕ) (x y : ℕ) → sum_to f (x + y) ≡ sum_to f x + sum_to (λ h. f (x + h)) y
sum_split f x zero = rw (add-zero, add-zero)
sum_split f x (suc y) = rw add-suc (omega (arith, sum_split f x y))

pub sum_parts : (f : ℕ → ℕ) (m k : ℕ) → sum_to f (m * k) ≡ sum_to (λ j. sum_to (λ h. f (m * j + h)) m) k
sum_parts f m zero = rw mul-zero
sum_parts f m (suc k) = rw (mul-suc, sum_split f (m * k) m, sum_parts f m k)

-- the sum over chosen indexes of numbers of at most k each
pub sum_weighted : (chosen : ℕ → Bool) (f : ℕ → ℕ) (k n : ℕ) → ((h : ℕ) → f h ≤ k)
    → sum_to (λ h. cond (chosen h) (f h) 0) n ≤ k * count_to chosen n
sum_weighted chosen f k zero e = omega arith
sum_weighted chosen f k (suc n) e =
    let s = sum_weighted chosen f k n e in
    by_cases (chosen n) (λ t. rw t (omega (arith, e n, mul-add k (count_to chosen n) 1))) (λ g. rw (g, add-zero, add-zero) s)

-- f holds of none where the count is 0
pub count_none : (f : ℕ → Bool) (n : ℕ) → count_to f n ≡ 0 → (h : ℕ) → h < n → f h ≡ false
count_none f n e h l =
    by_cases (f h) (λ t. absurd (omega (arith, count_some f n h l t))) (λ g. g)

-- a test of all indexes below n is a test of each
pub all_at : (f : ℕ → Bool) (n k : ℕ) → all_to f n ≡ true → k < n → f k ≡ true
all_at f zero k e l = absurd (not-suc-le-zero l)
all_at f (suc n) k e l =
    ⊎_elim
    (λ i. rw i (both (all_to f n) (f n) e).1)
    (λ m. all_at f n k (both (all_to f n) (f n) e).0 m)
    (eq-or-lt_of_le (le_of_suc-le-suc l))

pub none_above_at : (limit : ℕ) (xs : List ℕ) → none_above limit xs ≡ true → (k : ℕ) → at xs k ≤ limit
unfolding none_above
none_above_at limit xs e k =
    elim (dec_lt k (length xs)) [
      | yes l ↦ leb-true _ _ (all_at (λ j. leb (at xs j) limit) (length xs) k e l)
      | no f ↦ rw (get_or-eq_default xs 0 {n = k} (omega arith)) (omega arith)
    ]

-- a list is the table of its elements
pub tab_at : (xs : List ℕ) → tab (length xs) (at xs) ≡ xs
tab_at xs =
    ext_get_or 0 (tab (length xs) (at xs)) xs (length_tab (length xs) (at xs))
    (λ k l. at_tab (length xs) (at xs) k (rw (length_tab (length xs) (at xs)) at l))

pub sum_at : (xs : List ℕ) → sum xs ≡ sum_to (at xs) (length xs)
sum_at xs = rw (tab_at xs) at (sum_tab (length xs) (at xs))

-- a test of each index is a test of all; so no word is above the limit where each is at most that
pub all_from : (f : ℕ → Bool) (n : ℕ) → ((k : ℕ) → k < n → f k ≡ true) → all_to f n ≡ true
all_from f zero e = refl
all_from f (suc n) e = rw (all_from f n (λ k l. e k (le_step l)), e n (le_refl _))

pub none_above_from : (limit : ℕ) (xs : List ℕ) → ((k : ℕ) → k < length xs → at xs k ≤ limit) → none_above limit xs ≡ true
unfolding none_above
none_above_from limit xs e = all_from (λ k. leb (at xs k) limit) (length xs) (λ k l. le-leb _ _ (e k l))

-- words of 0 after a list change no word of it, and past the end of both there is 0
pub at_zeros : (n k : ℕ) → at (zeros n) k ≡ 0
at_zeros zero k = refl
at_zeros (suc n) zero = refl
at_zeros (suc n) (suc k) = at_zeros n k

pub at_more : (xs : List ℕ) (n k : ℕ) → at (xs ++ zeros n) k ≡ at xs k
at_more [] n k = at_zeros n k
at_more (x ∷ xs) n zero = refl
at_more (x ∷ xs) n (suc k) = at_more xs n k

-- A loop that fills a list d from the front, one store a turn: before the first turn, after one more, and at the end.
pub filled_none : (f : ℕ → ℕ) (d : List ℕ) → Filled f d d 0
filled_none f d = record { long = refl; is = refl }

pub filled_more : {f : ℕ → ℕ} {d l : List ℕ} {h x : ℕ} → Filled f d l h → h < length d → x ≡ f h → Filled f d (set l h x) (h + 1)
filled_more {f} {d} {l} {h} {x} filled lt e = record {
  long = simp length-set filled.long;
  is = rw (filled.is, add-one, e, drop-cons d h 0, set_at (tab h f) _ _ (f h) h (length_tab h f), append_assoc);
}

pub filled_end : {f : ℕ → ℕ} {d l : List ℕ} {h n : ℕ} → Filled f d l h → h ≤ n → n ≤ h → Filled f d l n
filled_end filled a b = rw (le_antisymm b a) filled

-- past its end nothing is left of a list; so a list that is filled whole is a table
pub drop_past : (l : List ℕ) (n : ℕ) → length l ≤ n → drop n l ≡ []
drop_past [] zero h = refl
drop_past [] (suc n) h = refl
drop_past (x ∷ xs) zero h = absurd (not-suc-le-zero h)
drop_past (x ∷ xs) (suc n) h = drop_past xs n (le_of_suc-le-suc h)

pub filled_whole : {f : ℕ → ℕ} {d l : List ℕ} (n : ℕ) → length d ≡ n → Filled f d l n → l ≡ tab n f
filled_whole {f} {d} {l} n e filled = filled.is ∙ rw (drop_past d n (omega arith), append-nil)

-- the front of a list of zeros, filled
pub filled_padded : {f : ℕ → ℕ} {d l : List ℕ} {n : ℕ} (m : ℕ) → Filled f d l n → d ≡ zeros m → l ≡ padded m (tab n f)
unfolding padded
filled_padded {f} {d} {l} {n} m filled e = filled.is ∙ rw (e, drop-replicate, length_tab n f)
