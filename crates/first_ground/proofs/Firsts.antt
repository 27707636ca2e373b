-- Which ground fits, as the tests of the code tell it. Assumes nothing.
use Prim.Native.Nat.{ℕ, ◌-◌, ◌*◌, ◌≤◌, ◌<◌, min}
use mathlib.Core.Path.{◌≡◌, sym, subst, ◌∙◌}
use mathlib.Core.Logic.{◌≢◌}
use mathlib.Core.Bool.{Bool, true, false}
use mathlib.Core.List.{List}
use borrow.Author.Tests.{eq-eqb, ne_eqb, le-leb, lt-leb}
use Rattle.std.specs.Prelude.{None, Some}
use Rattle.numbers.specs.Lists.{sum}
use Rattle.sharing.specs.Shares.{ones, shares, stretched}
use Rattle.store.specs.Store.{as_row}
use Rattle.power.specs.Power.{formula, power_in, cable_fits}
use Rattle.marks.specs.declared.Survey.{Survey}
use Rattle.marks.specs.Marks.{survey_with, survey_of, capacity_sum}
use Rattle.marks.specs.Peak.{peak_part, peak_rule}
use Rattle.contract.specs.declared.Contract.{Contract}
use Rattle.contract.specs.Contract.{power_of}
use Rattle.rules.specs.Rules.{Measured, missing, hourly, whole, PastHours, Inputs, hours_in, point_power, as_read, by_weights, by_peaks, evenly}
use Rattle.rules.specs.Rules.{by_contract, on_past, ground_six, ground_six_in, on_tested_past, on_control_past, on_control, on_billing, rules}
use Rattle.rules.specs.Right.{InputsFit}
use Rattle.grounds.specs.declared.Found.{Found}
use Rattle.grounds.specs.Found.{HoursFound, OutcomeFound}
use Rattle.first_ground.proofs.Marks.{peaks_are, capacity_row}

-- P, where the cable of basis 3 fits
pub cable_power_is : (c : Contract) {p : ℕ} → c.basis ≡ 3 → cable_fits c.cable ≡ true
    → p ≡ power_in (cable_fits c.cable) (formula c.cable 1) → p ≡ power_of c
unfolding power_of
cable_power_is c b fits e = e ∙ rw (fits, eq-eqb _ _ b)

pub agreed_power_is : (c : Contract) → c.basis ≢ 3 → c.power.0 ≡ power_of c
unfolding power_of
agreed_power_is c b = rw (ne_eqb _ _ b)

module _ (i : Inputs) {f : Found} {buffer : List ℕ} where
  -- GROUNDS 8 AND 9
  pub nine_outcome : i.contract.basis ≡ 3
      → HoursFound 9 (formula i.contract.cable (hours_in i)) (shares (formula i.contract.cable (hours_in i)) (ones (hours_in i))) f buffer
      → OutcomeFound (by_contract i) f buffer
  unfolding by_contract evenly by_weights
  nine_outcome b h = rw (eq-eqb i.contract.basis 3 b) h

  pub eight_outcome : i.contract.basis ≢ 3
      → HoursFound 8 (hours_in i * i.contract.power.0) (shares (hours_in i * i.contract.power.0) (ones (hours_in i))) f buffer
      → OutcomeFound (by_contract i) f buffer
  unfolding by_contract evenly by_weights power_of
  eight_outcome b h = rw (ne_eqb i.contract.basis 3 b) h

  -- GROUND 7, else 8 and 9
  pub seven_outcome : {p : PastHours} {hs : List ℕ} → p ≡ Some hs → i.counted ≤ 2
      → HoursFound 7 (sum (stretched hs (hours_in i))) (stretched hs (hours_in i)) f buffer → OutcomeFound (on_past i p) f buffer
  unfolding on_past as_read
  seven_outcome past few h = rw (past, le-leb i.counted 2 few) h

  pub late_outcome : {p : PastHours} {hs : List ℕ} → p ≡ Some hs → 2 < i.counted → OutcomeFound (by_contract i) f buffer
      → OutcomeFound (on_past i p) f buffer
  unfolding on_past
  late_outcome past many h = rw (past, lt-leb i.counted 2 many) h

  pub none_outcome : {p : PastHours} → p ≡ None → OutcomeFound (by_contract i) f buffer → OutcomeFound (on_past i p) f buffer
  unfolding on_past
  none_outcome past h = rw past h

  -- GROUNDS 5 AND 6, of the volume v
  pub six_outcome : (v : ℕ) (past : List ℕ) → ground_six_in i v (shares v past) ≡ true → HoursFound 6 v (shares v past) f buffer
      → OutcomeFound (on_tested_past i v past) f buffer
  unfolding on_tested_past by_weights
  six_outcome v past fits h = rw fits h

  pub later_outcome : (v : ℕ) (past : List ℕ) → ground_six_in i v (shares v past) ≡ false
      → HoursFound 5 v (peak_rule v (point_power i) i.marks) f buffer → OutcomeFound (on_tested_past i v past) f buffer
  unfolding on_tested_past by_peaks
  later_outcome v past not h = rw not h

  -- GROUND 4, else 5 and 6
  pub four_outcome : (v : ℕ) {p : PastHours} {hs : List ℕ} → p ≡ Some hs → i.counted ≤ 2
      → HoursFound 4 v (shares v (stretched hs (hours_in i))) f buffer → OutcomeFound (on_control_past i v p) f buffer
  unfolding on_control_past by_weights
  four_outcome v past few h = rw (past, le-leb i.counted 2 few) h

  pub tested_outcome : (v : ℕ) {p : PastHours} {hs : List ℕ} → p ≡ Some hs → 2 < i.counted
      → OutcomeFound (on_tested_past i v (stretched hs (hours_in i))) f buffer → OutcomeFound (on_control_past i v p) f buffer
  unfolding on_control_past
  tested_outcome v past many h = rw (past, lt-leb i.counted 2 many) h

  pub five_outcome : (v : ℕ) {p : PastHours} → p ≡ None → HoursFound 5 v (peak_rule v (point_power i) i.marks) f buffer
      → OutcomeFound (on_control_past i v p) f buffer
  unfolding on_control_past by_peaks
  five_outcome v past h = rw past h

  -- GROUND 3, else 4 to 9
  pub three_outcome : {m : Measured} {hs : List ℕ} → m ≡ hourly hs → HoursFound 3 (sum hs) hs f buffer → OutcomeFound (on_control i m) f buffer
  unfolding on_control as_read
  three_outcome e h = rw e h

  pub volume_outcome : {m : Measured} {k : ℕ} → m ≡ whole k → OutcomeFound (on_control_past i (k - i.neighbour) i.past) f buffer
      → OutcomeFound (on_control i m) f buffer
  unfolding on_control
  volume_outcome e h = rw e h

  pub past_outcome : {m : Measured} → m ≡ missing → OutcomeFound (on_past i i.past) f buffer → OutcomeFound (on_control i m) f buffer
  unfolding on_control
  past_outcome e h = rw e h

  -- GROUNDS 1 AND 2, else 3 to 9
  pub one_outcome : {hs : List ℕ} → i.billing ≡ hourly hs → HoursFound 1 (sum hs) hs f buffer → OutcomeFound (rules i) f buffer
  unfolding rules on_billing as_read
  one_outcome e h = rw e h

  pub two_outcome : {b : ℕ} → i.billing ≡ whole b
      → HoursFound 2 (b - i.neighbour) (peak_rule (b - i.neighbour) (point_power i) i.marks) f buffer → OutcomeFound (rules i) f buffer
  unfolding rules on_billing by_peaks
  two_outcome e h = rw e h

  pub control_outcome : i.billing ≡ missing → OutcomeFound (on_control i i.control) f buffer → OutcomeFound (rules i) f buffer
  unfolding rules on_billing
  control_outcome e h = subst (λ (m : Measured). OutcomeFound (on_billing i m) f buffer) (sym e) h

-- THE TEST OF GROUND 6, from the buffer that ground 6 filled
pub six_test : (i : Inputs) → InputsFit i → (v : ℕ) (hs after : List ℕ) {survey : Survey} {p c : ℕ} {t : Bool}
    → survey ≡ survey_of i.marks → t ≡ ground_six (min v (survey.peaks * p)) survey.days survey.peaks c → p ≡ power_of i.contract
    → c ≡ capacity_sum i.marks after → after ≡ as_row hs → t ≡ ground_six_in i v hs
unfolding ground_six_in peak_part survey_of survey_with
six_test i fit v hs after e test power total filled =
    test ∙ rw (total, filled, capacity_row i.marks hs, power, e, peaks_are i fit)
