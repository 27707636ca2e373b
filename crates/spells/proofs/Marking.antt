-- What the record keeps by marking is what the book sees by looking back, for any status that each day has at its end. Assumes nothing.
use Prim.Native.Nat.{ℕ, zero, suc, ◌+◌, ◌-◌, ◌^◌, ◌≤◌, ◌<◌}
use mathlib.Core.Path.{◌≡◌, sym, ap, ◌∙◌}
use mathlib.Core.Bool.{Bool, true, false, cond, not, false≢true, ◌||◌, ◌&&◌, or-false, and-true}
use native.Mathlib.Omega.{arith}
use native.Mathlib.Nat.{pow-suc}
use native.Mathlib.Decide.{dec_lt}
use borrow.Author.Tests.{lt-ltb, le-ltb, ltb-true, le-leb, lt-leb, eq-eqb, ne_eqb}
use lib.Dec.{eqb, leb, ltb}
use Rattle.numbers.specs.Lists.{any_to, count_to}
use Rattle.numbers.proofs.Laws.{by_cases, and_false, count_holds, count_any, none_at}
use Rattle.parts.specs.Sets.{in_set, days_between, lies_between}
use Rattle.parts.proofs.Bits.{in_either, in_between, none_in}
use Rattle.spells.specs.Sets.{days_from, marked, days_with, Shows}
use Rattle.spells.proofs.Bits.{same_set, marked_bit}

-- the days from p on and before e
from_bit : (p e k : ℕ) → e ≤ 33 → in_set (days_from p e) k ≡ lies_between (p - 1) (e - 1) k
unfolding days_from
from_bit p e k l = rw (le-leb (e - 1) 32 (omega arith)) (in_between (p - 1) (e - 1) k)

-- AN EVENT on day e, after one on day p: where the days before p have the status that they had, and those from p on and before e that of the point,
-- the marked set shows the days before e
pub shows_marked : (f g : ℕ → Bool) (days p e : ℕ) (s : Bool) → Shows days p f → p ≤ e → e ≤ 33
    → ((x : ℕ) → x < p → g x ≡ f x) → ((x : ℕ) → p ≤ x → x < e → g x ≡ s) → Shows (marked days p e s) e g
shows_marked f g days p e s h l m earlier since k =
    marked_bit s days p e k
    ∙ rw (h k, from_bit p e k m)
    (elim (dec_lt (suc k) e) [
      | no q ↦ rw (le-ltb (suc k) p (omega arith), le-ltb (suc k) e (omega arith), le-ltb k (e - 1) (omega arith), and_false (leb (p - 1) k), and_false s)
      | yes q ↦
          elim (dec_lt (suc k) p) [
            | yes r ↦ rw (lt-ltb (suc k) p r, lt-ltb (suc k) e q, earlier (suc k) r, lt-leb (p - 1) k (omega arith), and_false s) (or-false (f (suc k)))
            | no r ↦
                let low = le-leb (p - 1) k (omega arith) in
                let high = lt-ltb k (e - 1) (omega arith) in
                rw (le-ltb (suc k) p (omega arith), lt-ltb (suc k) e q, since (suc k) (omega arith) q, low, high) (and-true s)
          ]
    ])

-- THE SET THAT THE BOOK SEES
power_between : (n k : ℕ) → in_set (2 ^ n) k ≡ lies_between n (suc n) k
unfolding days_between
power_between n k = let e : 2 ^ n ≡ 2 ^ suc n - 2 ^ n = omega (arith, pow-suc 2 n) in ap (λ (x : ℕ). in_set x k) e ∙ in_between n (suc n) k

next_bit : (test : ℕ → Bool) (n k : ℕ) → (ltb k n && test (suc k)) || (test (suc n) && lies_between n (suc n) k) ≡ ltb k (suc n) && test (suc k)
next_bit test n k =
    elim (dec_lt k n) [
      | yes l ↦
          rw (lt-ltb k n l, lt-ltb k (suc n) (omega arith), lt-leb n k l, and_false (test (suc n))) (or-false (test (suc k)))
      | no l ↦
          elim (dec_lt n k) [
            | yes m ↦ rw (le-ltb k n (omega arith), le-ltb k (suc n) m, and_false (leb n k), and_false (test (suc n)))
            | no m ↦
                let e : k ≡ n = omega arith in
                rw (e, le-ltb n n (omega arith), lt-ltb n (suc n) (omega arith), le-leb n n (omega arith)) (and-true (test (suc n)))
          ]
    ]

one_more : (b : Bool) (n k : ℕ) → in_set (cond b (2 ^ n) 0) k ≡ b && lies_between n (suc n) k
one_more true n k = power_between n k
one_more false n k = none_in k

with_bit : (test : ℕ → Bool) (n k : ℕ) → in_set (days_with test n) k ≡ ltb k n && test (suc k)
unfolding days_with
with_bit test zero k = rw (none_in k, le-ltb k 0 (omega arith))
with_bit test (suc n) k =
    in_either (days_with test n) (cond (test (suc n)) (2 ^ n) 0) k
    ∙ rw (with_bit test n k, one_more (test (suc n)) n k) (next_bit test n k)

-- a set that shows the days up to the last one is the book's
same_end : (k n : ℕ) → ltb (suc k) (n + 1) ≡ ltb k n
same_end k n =
    elim (dec_lt k n) [
      | yes l ↦ rw (lt-ltb k n l, lt-ltb (suc k) (n + 1) (omega arith))
      | no l ↦ rw (le-ltb k n (omega arith), le-ltb (suc k) (n + 1) (omega arith))
    ]

pub shown_set : (test : ℕ → Bool) (days n : ℕ) → Shows days (n + 1) test → days ≡ days_with test n
shown_set test days n h = same_set days (days_with test n) (λ k. h k ∙ rw (same_end k n) (sym (with_bit test n k)))

-- which is empty just where the test holds of no day
pub none_with : (test : ℕ → Bool) (n : ℕ) → eqb (days_with test n) 0 ≡ not (any_to (λ k. test (suc k)) n)
none_with test n =
    let f : ℕ → Bool = λ k. test (suc k) in
    by_cases (any_to f n)
    (λ t.
    let w = count_holds f n (ltb-true 0 (count_to f n) (count_any f n ∙ t)) in
    let day : in_set (days_with test n) w.index ≡ true = with_bit test n w.index ∙ rw (lt-ltb w.index n w.below, w.holds) in
    rw t (ne_eqb (days_with test n) 0 (λ z. false≢true (sym (none_in w.index) ∙ ap (λ (x : ℕ). in_set x w.index) (sym z) ∙ day))))
    (λ e.
    rw e
    (eq-eqb (days_with test n) 0
    (same_set (days_with test n) 0
    (λ k.
    with_bit test n k
    ∙ by_cases (ltb k n)
    (λ l. rw (none_at f n k e (ltb-true k n l), and_false (ltb k n)) (sym (none_in k)))
    (λ l. rw l (sym (none_in k)))))))

pub no_days_with : (n : ℕ) → days_with (λ x. false) n ≡ 0
no_days_with n = same_set (days_with (λ x. false) n) 0 (λ k. with_bit (λ x. false) n k ∙ and_false (ltb k n) ∙ sym (none_in k))
