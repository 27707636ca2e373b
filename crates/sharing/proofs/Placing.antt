-- The share of one place of a list, from the sums of the weights before and after it. Assumes nothing.
use mathlib.Core.Path.{◌≡◌, ◌∙◌}
use mathlib.Core.Bool.{cond}
use mathlib.Core.List.{List}
use Prim.Native.Nat.{ℕ, ◌+◌, ◌-◌, ◌≤◌}
use native.Mathlib.Nat.{le-add_right}
use native.Mathlib.Numerals.{add-one}
use native.Mathlib.Omega.{arith}
use lib.Dec.{eqb}
use lib.ListN.{length}
use Rattle.numbers.specs.Lists.{sum_to, at}
use Rattle.numbers.proofs.Laws.{sum_up}
use Rattle.sharing.specs.Shares.{portion, taken, shares_over, shares, every}
use Rattle.sharing.specs.Limits.{Placed}
use Rattle.sharing.specs.declared.progress.Progress.{Progress}
use Rattle.sharing.proofs.Laws.{at_spread}
use Rattle.sharing.proofs.Rule.{taken_every}

-- a is the sum of the first h weights as they are taken
pub record First (s : ℕ) (ws : List ℕ) (h a : ℕ) : Type 0 where
  pub is : a ≡ cond (eqb s 0) h (sum_to (at ws) h)

module _ {v s : ℕ} {ws : List ℕ} {place : ℕ} (p : Placed v s ws place) where
  weight : ℕ → ℕ
  weight = taken (length ws) every (at ws)

  first_is : {h a : ℕ} → First s ws h a → a ≡ sum_to weight h
  unfolding weight
  first_is {h} f = f.is ∙ rw (p.sum, taken_every (length ws) (at ws) h)

  pub part_fits : {h a whole : ℕ} → First s ws h a → First s ws (length ws) whole → h ≤ length ws → a ≤ whole
  unfolding weight
  part_fits f g l = rw (first_is f, first_is g) (sum_up weight l)

  module _ {before after whole : ℕ} (f : First s ws place before) (g : First s ws (place + 1) after) (i : First s ws (length ws) whole) where
    first_up : before ≤ after
    unfolding weight
    first_up = rw (first_is f, first_is g, add-one) (le-add_right (sum_to weight place) (weight place))

    place_is : portion v after whole - portion v before whole ≡ at (shares v ws) place
    unfolding weight shares_over
    place_is = rw (at_spread v (length ws) (taken (length ws) every (at ws)) place p.inside, first_is f, first_is g, first_is i, add-one)

    -- a sharing that has passed the weights before the place gives its next hour the share of the place
    pub place_gets : (q : Progress) {r : ℕ} → q.volume ≡ v → q.whole ≡ whole → q.passed ≡ before
        → r ≡ portion q.volume (q.passed + (after - before)) q.whole - portion q.volume q.passed q.whole → r ≡ at (shares v ws) place
    place_gets q d e k gets =
        let sum : before + (after - before) ≡ after = omega (arith, first_up) in
        gets ∙ rw (d, e, k, sum) place_is
