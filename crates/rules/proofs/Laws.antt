-- The rules are right of every input that a point can bring, of a month or of any whole days: there is an hour for each mark, the hours sum to
-- the volume, and each is near its exact share. Assumes nothing.
use Prim.Native.Nat.{ℕ, ◌-◌, ◌*◌, ◌≤◌, ◌<◌, max}
use mathlib.Core.Path.{◌≡◌, refl, sym, subst, ◌∙◌}
use mathlib.Core.Bool.{true, false, not, ◌||◌, true≢false}
use mathlib.Core.List.{List}
use native.Mathlib.Omega.{arith}
use native.Mathlib.Nat.{mul_comm, mul-le-mul, mul-le-mul_left, mul-one, le_refl}
use lib.Dec.{eqb, leb, ltb, lit≤}
use lib.ListN.{length}
use Rattle.numbers.specs.Lists.{tab, sum, at, none_above}
use Rattle.numbers.proofs.Laws.{by_cases, length_tab, at_tab, sum_most, cond_most, sum_at, none_above_at, none_above_from}
use Rattle.units.specs.Volumes.{greatest_volume_read}
use Rattle.sharing.specs.Shares.{ones, one, every, shares, past_at, stretched}
use Rattle.sharing.proofs.Rule.{length_shares, sum_shares, near_shares}
use Rattle.power.specs.Power.{formula}
use Rattle.power.proofs.Laws.{formula_most}
use Rattle.marks.specs.Marks.{peak_at, peak_count}
use Rattle.marks.specs.Peak.{peak_rule}
use Rattle.marks.proofs.Laws.{peaks_most}
use Rattle.marks.proofs.Rule.{sum_peak_rule, length_peak_rule, peak_rule_most, peak_near, other_near}
use Rattle.contract.specs.Contract.{power_of}
use Rattle.rules.specs.Rules.{Measured, missing, hourly, whole, PastHours, Inputs, Outcome, hours_in, point_power, as_read}
use Rattle.rules.specs.Rules.{by_weights, by_peaks, evenly, by_contract, on_past, ground_six_in, on_tested_past, on_control_past, on_control, on_billing, rules}
use Rattle.rules.specs.Rules.{becomes_past, is_missed}
use Rattle.rules.specs.Right.{Right, RightUpTo, HoursFit, MeasuredFits, PastHoursFit, days_of, InputsFit}
use Rattle.std.specs.Prelude.{Option, None, Some, option_map}
use Rattle.std.proofs.lemmas.Option.{none-some, same_Some}

-- READINGS WITHIN THEIR LIMITS: none, hours, and a volume; and a past that is that of some month, if there is one
pub of_missing : {k t : ℕ} → MeasuredFits k t missing
of_missing = record { hours = λ hs e. absurd cc; volume = λ v e. absurd cc }

pub of_hours : {k t : ℕ} {hs : List ℕ} → HoursFit t hs → MeasuredFits k t (hourly hs)
of_hours {t = t} {hs} f = record { hours = λ xs e. subst (HoursFit t) (let same : hs ≡ xs = cc in same) f; volume = λ v e. absurd cc }

pub of_volume : {k t v : ℕ} → v ≤ k → MeasuredFits k t (whole v)
of_volume {v = v} l = record { hours = λ hs e. absurd cc; volume = λ w e. let same : v ≡ w = cc in rw (← same) l }

pub each_past : {A : Type 0} (f : A → List ℕ) (o : Option A) → ((x : A) → none_above 3000000 (f x) ≡ true) → PastHoursFit (option_map f o)
each_past f None h hs e = absurd (none-some hs e)
each_past f (Some x) h hs e = rw (← same_Some (f x) hs e) (h x)

-- the sum of hours of at most k each
sum_hours : (hs : List ℕ) (k : ℕ) → none_above k hs ≡ true → sum hs ≤ k * length hs
sum_hours hs k e = rw (sum_at hs) (sum_most (at hs) k (length hs) (λ h l. none_above_at k hs e h))

-- what any ground gives t hours at most: 3,000,000 each, or the greatest control volume of a month
abbrev pub most_of : ℕ → ℕ
most_of t = max (3000000 * t) greatest_volume_read

-- AS READ, of hours of at most k each
as_read_lem : (g k t : ℕ) (hs : List ℕ) → length hs ≡ t → k ≤ 3000000 → none_above k hs ≡ true → RightUpTo (most_of t) t (as_read g hs)
unfolding as_read
as_read_lem g k t hs e l n = record {
  long = e;
  sums = refl;
  near = λ h i. record { below = omega arith; above = omega arith };
  most =
      let s = sum_hours hs k n in
      let m : k * length hs ≤ 3000000 * length hs = mul-le-mul l (le_refl (length hs)) in
      omega arith;
  small = λ y. none_above_from 3000000 hs (λ h i. omega (arith, none_above_at k hs n h));
}

-- BY WEIGHTS, on a ground other than 1 and 2
by_weights_lem : (g v t : ℕ) (ws : List ℕ) → eqb g 1 || eqb g 2 ≡ false → length ws ≡ t → 0 < t → v ≤ most_of t
    → RightUpTo (most_of t) t (by_weights g v ws)
unfolding by_weights becomes_past
by_weights_lem g v t ws other e any l =
    let hours : 0 < length ws = omega arith in
    record {
      long = length_shares v every ws ∙ e;
      sums = sum_shares v every ws hours;
      near = λ h i.
          let n = near_shares v every ws hours h (omega arith) in
          record { below = n.below; above = n.above };
      most = l;
      small = λ y. let late : becomes_past (by_weights g v ws) ≡ false = other in absurd (true≢false (sym y ∙ late));
    }

-- whole days
module _ (i : Inputs) (fit : InputsFit i) where
  abbrev most : ℕ
  most = most_of (hours_in i)

  abbrev RightIn : Outcome → Type 0
  RightIn u = RightUpTo most (hours_in i) u

  pub some_hour : 0 < hours_in i
  some_hour = omega (arith, fit.whole_days, fit.some)

  pub few_hours : hours_in i ≤ 744
  few_hours = omega (arith, fit.whole_days, fit.few)

  -- P is at most 1,000,000
  power_small : point_power i ≤ 1000000
  unfolding power_of
  power_small =
      by_cases (eqb i.contract.basis 3)
      (λ t. rw t (omega (arith, formula_most i.contract.cable 1 (fit.cable t))))
      (λ f. rw f fit.power)

  -- some hour is no peak
  rest : 0 < hours_in i - peak_count i.marks
  rest = omega (arith, fit.whole_days, fit.some, peaks_most i.marks (days_of i) fit.whole_days fit.not_crowded)

  -- BY THE PEAK RULE; on ground 1 or 2 a volume of at most 1,000,000 an hour
  by_peaks_lem : (g v : ℕ) → v ≤ most → (eqb g 1 || eqb g 2 ≡ true → v ≤ hours_in i * 1000000) → RightIn (by_peaks g i v)
  unfolding by_peaks becomes_past
  by_peaks_lem g v l early =
      let p = point_power i in
      let ms = i.marks in
      record {
        long = length_peak_rule v p ms;
        sums = sum_peak_rule v p ms some_hour;
        near = λ h m.
            by_cases (peak_at ms h)
            (λ t. let n = peak_near v p ms h m rest t in rw t (record { below = simp mul-one at n.below; above = simp mul-one at n.above }))
            (λ f. let n = other_near v p ms h m rest f in rw f (record { below = simp mul-one at n.below; above = simp mul-one at n.above }));
        most = l;
        small = λ y.
            none_above_from 3000000 (peak_rule v p ms) λ h m.
            peak_rule_most v p (days_of i) ms fit.whole_days fit.some fit.not_crowded power_small (early y) h
            (omega (arith, length_peak_rule v p ms));
      }

  -- EVENLY, on a ground other than 1 and 2
  by_even : (g v : ℕ) → eqb g 1 || eqb g 2 ≡ false → v ≤ 1000000 * hours_in i → RightIn (evenly g i v)
  unfolding evenly
  by_even g v other l = by_weights_lem g v (hours_in i) (ones (hours_in i)) other (length_tab (hours_in i) one) some_hour (omega arith)

  -- GROUNDS 8 AND 9
  by_contract_lem : RightIn (by_contract i)
  unfolding by_contract
  by_contract_lem =
      by_cases (eqb i.contract.basis 3)
      (λ t. rw t (by_even 9 (formula i.contract.cable (hours_in i)) refl (formula_most i.contract.cable (hours_in i) (fit.cable t))))
      (λ f. rw f (by_even 8 (hours_in i * point_power i) refl
      (omega (arith, mul_comm (hours_in i) (point_power i), mul-le-mul_left (hours_in i) power_small, mul_comm (hours_in i) 1000000))))

  -- the past for as many hours
  past_small : (hs : List ℕ) → none_above 3000000 hs ≡ true → none_above 3000000 (stretched hs (hours_in i)) ≡ true
  unfolding stretched
  past_small hs e =
      none_above_from 3000000 (tab (hours_in i) (past_at hs)) λ h l.
      rw (at_tab (hours_in i) (past_at hs) h (rw (length_tab (hours_in i) (past_at hs)) at l))
      (cond_most (ltb h (length hs)) (none_above_at 3000000 hs e h) (none_above_at 3000000 hs e (h - 168)))

  past_long : (hs : List ℕ) → length (stretched hs (hours_in i)) ≡ hours_in i
  unfolding stretched
  past_long hs = length_tab (hours_in i) (past_at hs)

  -- GROUND 7, else 8 and 9
  on_past_lem : (p : PastHours) → PastHoursFit p → RightIn (on_past i p)
  unfolding on_past
  on_past_lem None f = by_contract_lem
  on_past_lem (Some hs) f =
      by_cases (leb i.counted 2)
      (λ t. rw t (as_read_lem 7 3000000 (hours_in i) (stretched hs (hours_in i)) (past_long hs) (lit≤ tt) (past_small hs (f hs refl))))
      (λ g. rw g by_contract_lem)

  -- GROUNDS 5 AND 6
  on_tested_past_lem : (v : ℕ) (past : List ℕ) → length past ≡ hours_in i → v ≤ greatest_volume_read → RightIn (on_tested_past i v past)
  unfolding on_tested_past
  on_tested_past_lem v past long l =
      by_cases (ground_six_in i v (shares v past))
      (λ t. rw t (by_weights_lem 6 v (hours_in i) past refl long some_hour (omega arith)))
      (λ g. rw g (by_peaks_lem 5 v (omega arith) (λ e. absurd (true≢false (sym e)))))

  -- GROUNDS 4 TO 6
  on_control_past_lem : (v : ℕ) (p : PastHours) → v ≤ greatest_volume_read → RightIn (on_control_past i v p)
  unfolding on_control_past
  on_control_past_lem v None l = by_peaks_lem 5 v (omega arith) (λ e. absurd (true≢false (sym e)))
  on_control_past_lem v (Some hs) l =
      let ws = stretched hs (hours_in i) in
      by_cases (leb i.counted 2)
      (λ t. rw t (by_weights_lem 4 v (hours_in i) ws refl (past_long hs) some_hour (omega arith)))
      (λ f. rw f (on_tested_past_lem v ws (past_long hs) l))

  -- GROUNDS 3 TO 9
  on_control_lem : (m : Measured) → MeasuredFits greatest_volume_read (hours_in i) m → RightIn (on_control i m)
  unfolding on_control
  on_control_lem missing f = on_past_lem i.past fit.past
  on_control_lem (hourly hs) f = let r = f.hours hs refl in as_read_lem 3 1000000 (hours_in i) hs r.long (lit≤ tt) r.small
  on_control_lem (whole k) f = on_control_past_lem (k - i.neighbour) i.past (omega (arith, f.volume k refl))

  -- GROUNDS 1 TO 9
  on_billing_lem : (m : Measured) → MeasuredFits (hours_in i * 1000000) (hours_in i) m → RightIn (on_billing i m)
  unfolding on_billing
  on_billing_lem missing f = on_control_lem i.control fit.control
  on_billing_lem (hourly hs) f = let r = f.hours hs refl in as_read_lem 1 1000000 (hours_in i) hs r.long (lit≤ tt) r.small
  on_billing_lem (whole b) f =
      let l = f.volume b refl in by_peaks_lem 2 (b - i.neighbour) (omega arith) (λ e. omega arith)

-- THE RULES ARE RIGHT
pub rules_up_to : (i : Inputs) → InputsFit i → RightUpTo (most_of (hours_in i)) (hours_in i) (rules i)
unfolding rules
rules_up_to i fit = on_billing_lem i fit i.billing fit.billing

pub rules_right : (i : Inputs) → InputsFit i → Right (hours_in i) (rules i)
rules_right i fit =
    let r = rules_up_to i fit in
    record { long = r.long; sums = r.sums; near = r.near; most = omega (arith, r.most, few_hours i fit); small = r.small }

-- A MONTH BECOMES THE PAST just where it is not missed
contract_late : (i : Inputs) → becomes_past (by_contract i) ≡ false
unfolding becomes_past by_contract evenly by_weights
contract_late i = by_cases (eqb i.contract.basis 3) (λ t. rw t) (λ f. rw f)

past_late : (i : Inputs) (p : PastHours) → becomes_past (on_past i p) ≡ false
unfolding becomes_past on_past as_read
past_late i None = contract_late i
past_late i (Some hs) = by_cases (leb i.counted 2) (λ t. rw t) (λ f. rw f (contract_late i))

tested_past_late : (i : Inputs) (v : ℕ) (past : List ℕ) → becomes_past (on_tested_past i v past) ≡ false
unfolding becomes_past on_tested_past by_weights by_peaks
tested_past_late i v past = by_cases (ground_six_in i v (shares v past)) (λ t. rw t) (λ g. rw g)

control_past_late : (i : Inputs) (v : ℕ) (p : PastHours) → becomes_past (on_control_past i v p) ≡ false
unfolding becomes_past on_control_past by_weights by_peaks
control_past_late i v None = refl
control_past_late i v (Some hs) =
    by_cases (leb i.counted 2) (λ t. rw t) (λ f. rw f (tested_past_late i v (stretched hs (hours_in i))))

control_late : (i : Inputs) (m : Measured) → becomes_past (on_control i m) ≡ false
unfolding becomes_past on_control as_read
control_late i missing = past_late i i.past
control_late i (hourly hs) = refl
control_late i (whole k) = control_past_late i (k - i.neighbour) i.past

billing_past : (i : Inputs) (m : Measured) → becomes_past (on_billing i m) ≡ not (is_missed m)
unfolding becomes_past on_billing as_read by_peaks is_missed
billing_past i missing = control_late i i.control
billing_past i (hourly hs) = refl
billing_past i (whole b) = refl

pub past_not_missed : (i : Inputs) → becomes_past (rules i) ≡ not (is_missed i.billing)
unfolding rules
past_not_missed i = billing_past i i.billing
