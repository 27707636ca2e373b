-- The readings, R and the past say which ground it is. Assumes nothing.
use Prim.Native.Nat.{ℕ, ◌-◌, ◌<◌}
use mathlib.Core.Path.{◌≡◌, refl, ◌∙◌}
use mathlib.Core.Bool.{true, false, cond, ◌||◌}
use mathlib.Core.List.{List}
use borrow.Author.Tests.{le-leb, lt-leb}
use lib.Dec.{eqb, leb}
use Rattle.std.specs.Prelude.{Some, None}
use Rattle.numbers.proofs.Laws.{by_cases}
use Rattle.sharing.specs.Shares.{shares, stretched}
use Rattle.rules.specs.Rules.{Measured, PastHours, Inputs, missing, hours_in, as_read, by_weights, by_peaks, evenly, by_contract, on_past, ground_six_in}
use Rattle.rules.specs.Rules.{on_tested_past, on_control_past, on_control, on_billing, rules}
use Rattle.ground_laws.specs.GroundLaws.{Chosen}

tested_ground : (i : Inputs) (v : ℕ) (past : List ℕ) → eqb (on_tested_past i v past).ground 5 || eqb (on_tested_past i v past).ground 6 ≡ true
unfolding on_tested_past by_weights by_peaks
tested_ground i v past = by_cases (ground_six_in i v (shares v past)) (λ t. rw t) (λ f. rw f)

-- with R at least 3 the past does not count
late_ground : (i : Inputs) (p : PastHours) → leb i.counted 2 ≡ false → (on_past i p).ground ≡ (by_contract i).ground
unfolding on_past
late_ground i None l = refl
late_ground i (Some hs) l = rw l

contract_ground : (i : Inputs) → (by_contract i).ground ≡ cond (eqb i.contract.basis 3) 9 8
unfolding by_contract evenly by_weights
contract_ground i = by_cases (eqb i.contract.basis 3) (λ t. rw t) (λ f. rw f)

unread : (i : Inputs) (m : Measured) → m ≡ missing → (on_billing i m).ground ≡ (on_control i i.control).ground
unfolding on_billing
unread i m e = rw e

uncontrolled : (i : Inputs) (m : Measured) → m ≡ missing → (on_control i m).ground ≡ (on_past i i.past).ground
unfolding on_control
uncontrolled i m e = rw e

late : (i : Inputs) → i.billing ≡ missing → i.control ≡ missing → 2 < i.counted → (rules i).ground ≡ cond (eqb i.contract.basis 3) 9 8
unfolding rules
late i e f l =
    unread i i.billing e ∙ uncontrolled i i.control f ∙ late_ground i i.past (lt-leb i.counted 2 l) ∙ contract_ground i

pub which : (i : Inputs) → Chosen i (rules i).ground
unfolding rules on_billing on_control on_control_past on_past by_contract evenly as_read by_weights by_peaks
which i = record {
  billing_hours = λ hs e. rw e;
  billing_volume = λ b e. rw e;
  control_hours = λ hs e f. rw (e, f);
  by_past = λ k hs e f g l. rw (e, f, g, le-leb i.counted 2 l);
  tested = λ k hs e f g l. rw (e, f, g, lt-leb i.counted 2 l) (tested_ground _ (k - i.neighbour) (stretched hs (hours_in i)));
  by_peaks = λ k e f g. rw (e, f, g);
  past = λ hs e f g l. rw (e, f, g, le-leb i.counted 2 l);
  power = λ e f g b. rw (e, f, g, b);
  cable = λ e f g b. rw (e, f, g, b);
  late_power = λ e f l b. late i e f l ∙ rw b;
  late_cable = λ e f l b. late i e f l ∙ rw b;
}
