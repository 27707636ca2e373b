-- Which day's marks are wrong (document 02, E8): the first day of those that a test holds of, counted from 1. Assumes nothing.
use mathlib.Core.Path.{◌≡◌, refl, sym, ◌∙◌}
use mathlib.Core.Bool.{Bool, true, false, not, true≢false}
use mathlib.Core.List.{List}
use Prim.Native.Nat.{ℕ, zero, suc, ◌-◌, ◌≤◌, ◌<◌, zero-le}
use native.Mathlib.Nat.{le_refl, le_step}
use native.Mathlib.Omega.{arith}
use native.Mathlib.Decide.{dec_lt}
use borrow.Author.Tests.{eqb-true, ne_eqb}
use lib.Dec.{eqb}
use Rattle.numbers.specs.Lists.{any_to}
use Rattle.numbers.proofs.Laws.{by_cases, none_at, cond_most}
use Rattle.marks.specs.declared.days.Day.{Day}
use Rattle.marks.specs.Marks.{day_of, or_day, first_day}

-- d is the first of the first k days that the test holds of, counted from 1
pub record FirstDay (test : Day → Bool) (marks : List ℕ) (k d : ℕ) : Type 0 where
  pub counted : 0 < d
  pub within : d ≤ k
  pub holds : test (day_of marks (d - 1)) ≡ true
  pub first : (j : ℕ) → j < d - 1 → test (day_of marks j) ≡ false

module _ (test : Day → Bool) (marks : List ℕ) where
  -- LAW: the day is not 0 just where the test holds of one
  pub day_or_none : (k : ℕ) → not (eqb (first_day test marks k) 0) ≡ any_to (λ j. test (day_of marks j)) k
  unfolding first_day
  day_or_none zero = refl
  day_or_none (suc k) =
      by_cases (eqb (first_day test marks k) 0)
      (λ none. rw (none, ← (rw none at (day_or_none k))) (by_cases (test (day_of marks k)) (λ t. rw (t, counted) refl) (λ f. rw f refl)))
      (λ some. rw (some, some, ← (rw some at (day_or_none k))) refl)
    where
      counted : eqb (suc k) 0 ≡ false
      counted = ne_eqb (suc k) 0 (λ z. absurd (omega (arith, z)))

  -- LAW: and where it is not, it is the first
  pub day_is_first : (k : ℕ) → any_to (λ j. test (day_of marks j)) k ≡ true → FirstDay test marks k (first_day test marks k)
  unfolding first_day
  day_is_first zero e = absurd (true≢false (sym e))
  day_is_first (suc k) e =
      by_cases (any_to (λ j. test (day_of marks j)) k)
      (λ t. earlier t (day_is_first k t))
      (λ f. here f)
    where
      none_yet : any_to (λ j. test (day_of marks j)) k ≡ false → eqb (first_day test marks k) 0 ≡ true
      none_yet f = by_cases (eqb (first_day test marks k) 0) (λ t. t) (λ g. absurd (true≢false (rw g at (day_or_none k) ∙ f)))

      here : any_to (λ j. test (day_of marks j)) k ≡ false
          → FirstDay test marks (suc k) (or_day (first_day test marks k) (suc k) (test (day_of marks k)))
      here f =
          let t : test (day_of marks k) ≡ true = rw f at e in
          let this : suc k - 1 ≡ k = omega arith in
          rw (none_yet f, t)
          (record { counted = omega arith; within = omega arith; holds = rw this t; first = λ j l. none_at (λ i. test (day_of marks i)) k j f (omega arith) })

      earlier : any_to (λ j. test (day_of marks j)) k ≡ true → FirstDay test marks k (first_day test marks k)
          → FirstDay test marks (suc k) (or_day (first_day test marks k) (suc k) (test (day_of marks k)))
      earlier t d =
          let some : eqb (first_day test marks k) 0 ≡ false =
          by_cases (eqb (first_day test marks k) 0) (λ z. absurd (omega (arith, eqb-true _ 0 z, d.counted))) (λ f. f) in
          rw some (record { counted = d.counted; within = omega (arith, d.within); holds = d.holds; first = d.first })

  -- LAW: it is one of them
  pub day_most : (k : ℕ) → first_day test marks k ≤ k
  unfolding first_day
  day_most zero = zero-le
  day_most (suc k) =
      cond_most (eqb (first_day test marks k) 0) (cond_most (test (day_of marks k)) (le_refl _) zero-le) (le_step (day_most k))

  -- LAW: no other day is
  pub day_alone : (k m d e : ℕ) → FirstDay test marks k d → FirstDay test marks m e → d ≡ e
  day_alone k m d e a b =
      elim (dec_lt (d - 1) (e - 1)) [
        | yes l ↦ absurd (true≢false (sym a.holds ∙ b.first (d - 1) l))
        | no n ↦ elim (dec_lt (e - 1) (d - 1)) [
          | yes l ↦ absurd (true≢false (sym b.holds ∙ a.first (e - 1) l))
          | no m ↦ omega (arith, a.counted, b.counted)
        ]
      ]
