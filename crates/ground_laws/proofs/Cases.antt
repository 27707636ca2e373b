-- What holds of each way in which a ground comes about holds of the outcome. Assumes nothing.
use Prim.Native.Nat.{ℕ, ◌-◌, ◌*◌, ◌≤◌, ◌<◌}
use mathlib.Core.Path.{◌≡◌, refl}
use mathlib.Core.Bool.{true, false}
use mathlib.Core.List.{List}
use borrow.Author.Tests.{leb-true, leb-false}
use lib.Dec.{eqb, leb}
use Rattle.std.specs.Prelude.{Some, None}
use Rattle.numbers.proofs.Laws.{by_cases}
use Rattle.sharing.specs.Shares.{shares, stretched}
use Rattle.power.specs.Power.{formula}
use Rattle.rules.specs.Rules.{Measured, missing, hourly, whole, PastHours, Inputs, Outcome, hours_in, point_power, as_read, by_weights, by_peaks, evenly}
use Rattle.rules.specs.Rules.{by_contract, on_past, ground_six_in, on_tested_past, on_control_past, on_control, on_billing, rules}

-- the ways, with what each of them knows
pub record Each (i : Inputs) (Q : Outcome → Type 0) : Type 0 where
  pub billing_hours : (hs : List ℕ) → i.billing ≡ hourly hs → Q (as_read 1 hs)
  pub billing_volume : (b : ℕ) → i.billing ≡ whole b → Q (by_peaks 2 i (b - i.neighbour))
  pub control_hours : i.billing ≡ missing → (hs : List ℕ) → i.control ≡ hourly hs → Q (as_read 3 hs)
  pub by_past : i.billing ≡ missing → (k : ℕ) → i.control ≡ whole k → (hs : List ℕ) → i.past ≡ Some hs → i.counted ≤ 2
      → Q (by_weights 4 (k - i.neighbour) (stretched hs (hours_in i)))
  pub tested : i.billing ≡ missing → (k : ℕ) → i.control ≡ whole k → (hs : List ℕ) → i.past ≡ Some hs → 2 < i.counted
      → ground_six_in i (k - i.neighbour) (shares (k - i.neighbour) (stretched hs (hours_in i))) ≡ true
      → Q (by_weights 6 (k - i.neighbour) (stretched hs (hours_in i)))
  pub untested : i.billing ≡ missing → (k : ℕ) → i.control ≡ whole k → (hs : List ℕ) → i.past ≡ Some hs → 2 < i.counted
      → ground_six_in i (k - i.neighbour) (shares (k - i.neighbour) (stretched hs (hours_in i))) ≡ false
      → Q (by_peaks 5 i (k - i.neighbour))
  pub no_past : i.billing ≡ missing → (k : ℕ) → i.control ≡ whole k → i.past ≡ None → Q (by_peaks 5 i (k - i.neighbour))
  pub past : i.billing ≡ missing → i.control ≡ missing → (hs : List ℕ) → i.past ≡ Some hs → i.counted ≤ 2
      → Q (as_read 7 (stretched hs (hours_in i)))
  pub power : i.billing ≡ missing → i.control ≡ missing → eqb i.contract.basis 3 ≡ false → Q (evenly 8 i (hours_in i * point_power i))
  pub cable : i.billing ≡ missing → i.control ≡ missing → eqb i.contract.basis 3 ≡ true → Q (evenly 9 i (formula i.contract.cable (hours_in i)))

module _ (i : Inputs) (Q : Outcome → Type 0) (each : Each i Q) where
  of_contract : i.billing ≡ missing → i.control ≡ missing → Q (by_contract i)
  unfolding by_contract
  of_contract e f = by_cases (eqb i.contract.basis 3) (λ t. rw t (each.cable e f t)) (λ n. rw n (each.power e f n))

  of_past : i.billing ≡ missing → i.control ≡ missing → (p : PastHours) → i.past ≡ p → Q (on_past i p)
  unfolding on_past
  of_past e f None g = of_contract e f
  of_past e f (Some hs) g =
      by_cases (leb i.counted 2) (λ t. rw t (each.past e f hs g (leb-true _ _ t))) (λ l. rw l (of_contract e f))

  of_tested : i.billing ≡ missing → (k : ℕ) → i.control ≡ whole k → (hs : List ℕ) → i.past ≡ Some hs → 2 < i.counted
      → Q (on_tested_past i (k - i.neighbour) (stretched hs (hours_in i)))
  unfolding on_tested_past
  of_tested e k f hs g l =
      by_cases (ground_six_in i (k - i.neighbour) (shares (k - i.neighbour) (stretched hs (hours_in i))))
      (λ t. rw t (each.tested e k f hs g l t))
      (λ n. rw n (each.untested e k f hs g l n))

  of_control_past : i.billing ≡ missing → (k : ℕ) → i.control ≡ whole k → (p : PastHours) → i.past ≡ p
      → Q (on_control_past i (k - i.neighbour) p)
  unfolding on_control_past
  of_control_past e k f None g = each.no_past e k f g
  of_control_past e k f (Some hs) g =
      by_cases (leb i.counted 2)
      (λ t. rw t (each.by_past e k f hs g (leb-true _ _ t)))
      (λ n. rw n (of_tested e k f hs g (leb-false _ _ n)))

  of_control : i.billing ≡ missing → (m : Measured) → i.control ≡ m → Q (on_control i m)
  unfolding on_control
  of_control e missing f = of_past e f i.past refl
  of_control e (hourly hs) f = each.control_hours e hs f
  of_control e (whole k) f = of_control_past e k f i.past refl

  of_billing : (m : Measured) → i.billing ≡ m → Q (on_billing i m)
  unfolding on_billing
  of_billing missing e = of_control e i.control refl
  of_billing (hourly hs) e = each.billing_hours hs e
  of_billing (whole b) e = each.billing_volume b e

  pub of_rules : Q (rules i)
  unfolding rules
  of_rules = of_billing i.billing refl
