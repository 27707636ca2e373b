-- The figures of an outcome: C, d and capacity. Assumes nothing.
use mathlib.Core.Path.{◌≡◌, refl, sym, ◌∙◌}
use mathlib.Core.Bool.{Bool, true, false, cond}
use Prim.Native.Nat.{ℕ, zero, suc, ◌≤◌, ◌<◌}
use native.Mathlib.Omega.{arith}
use lib.ListN.{length}
use Rattle.numbers.specs.Lists.{sum_to, at}
use Rattle.numbers.proofs.Laws.{sum_at}
use Rattle.numbers.proofs.Rounds.{half_up_nearest}
use Rattle.marks.specs.Marks.{capacity_of}
use Rattle.marks.proofs.Laws.{capacity_half_up, capacity_sum_hours}
use Rattle.rules.specs.Rules.{Inputs, rules, figures}
use Rattle.rules.specs.Right.{InputsFit, days_of}
use Rattle.rules.proofs.Laws.{few_hours, rules_right}
use Rattle.ground_laws.specs.Counted.{capacity_hour, days_counted, ToNearest}
use Rattle.ground_laws.specs.GroundLaws.{Figured}
use Rattle.ground_laws.proofs.Days.{working_counted}
use Rattle.ground_laws.proofs.Powers.{to_nearest}

-- some of the hours have no more than all
pub together_most : (kind : ℕ → Bool) (w : ℕ → ℕ) (n : ℕ) → sum_to (λ h. cond (kind h) (w h) 0) n ≤ sum_to w n
together_most kind w zero = omega arith
together_most kind w (suc n) = omega (arith, together_most kind w n, part (kind n))
  where
    part : (b : Bool) → cond b (w n) 0 ≤ w n
    part true = omega arith
    part false = omega arith

capacity_near : (c d : ℕ) → 0 < d → ToNearest c d (capacity_of c d)
capacity_near c d some = rw (capacity_half_up c d) (to_nearest (half_up_nearest c d some))

capacity_none : (c d : ℕ) → d ≡ 0 → capacity_of c d ≡ 0
unfolding capacity_of
capacity_none c d e = rw e

pub figured : (i : Inputs) → InputsFit i → Figured i (rules i)
unfolding figures
figured i fit =
    let u = rules i in
    let t = length i.marks in
    let c = capacity_sum_hours i.marks u.hours (few_hours i fit) in
    let d = working_counted i.marks (days_of i) fit.whole_days in
    let right = rules_right i fit in
    let made : sum_to (at u.hours) t ≡ u.volume = rw right.long at (sym (sum_at u.hours)) ∙ right.sums in
    record {
      ground = refl;
      volume = refl;
      sum = c;
      most = rw c (omega (arith, made, together_most (capacity_hour i.marks) (at u.hours) t));
      days = d;
      capacity = λ some. rw d (capacity_near _ (days_counted i.marks) some);
      none = λ none. rw d (capacity_none _ (days_counted i.marks) none);
    }
