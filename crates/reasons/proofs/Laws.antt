-- The reasons, as the code tells them, and what they say of the rules. Assumes nothing.
use Prim.Native.Nat.{ℕ, ◌-◌, ◌*◌}
use mathlib.Core.Path.{◌≡◌, refl, ap, ◌∙◌}
use mathlib.Core.Bool.{Bool, true, false, cond, ◌&&◌}
use mathlib.Core.List.{List}
use native.Mathlib.Omega.{arith}
use borrow.Author.Tests.{leb-true, leb-false, le-leb, lt-leb}
use lib.Dec.{eqb, leb, ltb}
use Rattle.std.specs.Prelude.{Option, None, Some, option_map, unwrap_or}
use Rattle.numbers.proofs.Laws.{by_cases}
use Rattle.sharing.specs.Shares.{shares, stretched}
use Rattle.marks.specs.Marks.{capacity_sum}
use Rattle.marks.specs.Peak.{peak_part}
use Rattle.record.specs.Record.{kwh}
use Rattle.store.specs.Store.{as_row}
use Rattle.rules.specs.Rules.{Measured, missing, hourly, whole, PastHours, Inputs, hours_in, peaks_in, days_in, point_power, by_peaks, by_weights}
use Rattle.rules.specs.Rules.{as_read, evenly, by_contract, on_past, ground_six_in, on_tested_past, on_control_past, on_control, on_billing, rules}
use Rattle.first_ground.proofs.Marks.{capacity_row}
use Rattle.reasons.specs.Reasons.{volume_read, compared_past, compared_by, compared_in}

-- C' of a volume, where there is a past
module _ (i : Inputs) (v : ℕ) {p : PastHours} {past : List ℕ} (is : p ≡ Some past) {peaks : ℕ} (e : peaks ≡ peaks_in i) where
  pub compared_due : leb 3 i.counted && ltb 0 peaks ≡ true → {c : ℕ} {after : List ℕ}
      → after ≡ as_row (shares v (stretched past (hours_in i))) → c ≡ capacity_sum i.marks after
      → Some (kwh c) ≡ option_map kwh (compared_past i v p)
  unfolding compared_past
  compared_due due filled total = rw (is, ← e, due, total, filled) (ap (λ (x : ℕ). Some (kwh x)) (capacity_row i.marks _))

  pub compared_not : leb 3 i.counted && ltb 0 peaks ≡ false → None ≡ option_map kwh (compared_past i v p)
  unfolding compared_past
  compared_not not = rw (is, ← e, not)

-- and where there is none
pub compared_none : (i : Inputs) (v : ℕ) {p : PastHours} → p ≡ None → None ≡ option_map kwh (compared_past i v p)
unfolding compared_past
compared_none i v none = rw none

-- by the readings
pub compared_as : (i : Inputs) {b k : Measured} → i.billing ≡ b → i.control ≡ k → compared_in i ≡ compared_by i b k
unfolding compared_in
compared_as i e f = λ n. compared_by i (e n) (f n)

pub compared_hours : (i : Inputs) {hs : List ℕ} → i.billing ≡ hourly hs → compared_in i ≡ None
unfolding compared_in compared_by
compared_hours i e = ap (λ (m : Measured). compared_by i m i.control) e

pub compared_volume : (i : Inputs) {b : ℕ} → i.billing ≡ whole b → compared_in i ≡ None
unfolding compared_in compared_by
compared_volume i e = ap (λ (m : Measured). compared_by i m i.control) e

-- GROUND 6 IS CHOSEN exactly where C' is told and A × d < n × C', with A of the reasons' reading, N, n and P
abbrev pub six_by : Inputs → ℕ → Option ℕ → Bool
six_by i v None = false
six_by i v (Some c) = ltb (peak_part v (point_power i) i.marks * days_in i.marks) (peaks_in i * c)

six_or_five : (b : Bool) (i : Inputs) (v : ℕ) (ws : List ℕ) → eqb (cond b (by_weights 6 v ws) (by_peaks 5 i v)).ground 6 ≡ b
unfolding by_weights by_peaks
six_or_five true i v ws = refl
six_or_five false i v ws = refl

six_peaks : (i : Inputs) (v : ℕ) (hs : List ℕ) → ground_six_in i v hs ≡ six_by i v (cond (ltb 0 (peaks_in i)) (Some (capacity_sum i.marks hs)) None)
unfolding ground_six_in
six_peaks i v hs = by_cases (ltb 0 (peaks_in i)) (λ t. rw t) (λ f. rw f)

six_tested : (i : Inputs) (v : ℕ) (past : List ℕ) → eqb (on_tested_past i v past).ground 6 ≡ ground_six_in i v (shares v past)
unfolding on_tested_past
six_tested i v past = six_or_five (ground_six_in i v (shares v past)) i v past

six_past : (i : Inputs) (v : ℕ) (p : PastHours) → eqb (on_control_past i v p).ground 6 ≡ six_by i v (compared_past i v p)
unfolding on_control_past by_peaks by_weights compared_past
six_past i v None = refl
six_past i v (Some hs) =
    let ws = stretched hs (hours_in i) in
    by_cases (leb i.counted 2)
    (λ t. rw (t, lt-leb 3 i.counted (omega (arith, leb-true i.counted 2 t))))
    (λ f. rw (f, le-leb 3 i.counted (omega (arith, leb-false i.counted 2 f))) (six_tested i v ws ∙ six_peaks i v (shares v ws)))

contract_other : (i : Inputs) → eqb (by_contract i).ground 6 ≡ false
unfolding by_contract evenly by_weights
contract_other i = by_cases (eqb i.contract.basis 3) (λ t. rw t) (λ f. rw f)

past_other : (i : Inputs) (p : PastHours) → eqb (on_past i p).ground 6 ≡ false
unfolding on_past as_read
past_other i None = contract_other i
past_other i (Some hs) = by_cases (leb i.counted 2) (λ t. rw t) (λ f. rw f (contract_other i))

six_control : (i : Inputs) (k : Measured)
    → eqb (on_control i k).ground 6 ≡ six_by i (unwrap_or (volume_read missing k) 0 - i.neighbour) (compared_by i missing k)
unfolding on_control as_read compared_by volume_read
six_control i missing = past_other i i.past
six_control i (hourly hs) = refl
six_control i (whole k) = six_past i (k - i.neighbour) i.past

six_billing : (i : Inputs) (b : Measured)
    → eqb (on_billing i b).ground 6 ≡ six_by i (unwrap_or (volume_read b i.control) 0 - i.neighbour) (compared_by i b i.control)
unfolding on_billing as_read by_peaks compared_by volume_read
six_billing i missing = six_control i i.control
six_billing i (hourly hs) = refl
six_billing i (whole b) = refl

pub six_is : (i : Inputs)
    → eqb (rules i).ground 6 ≡ six_by i (unwrap_or (volume_read i.billing i.control) 0 - i.neighbour) (compared_in i)
unfolding rules compared_in
six_is i = six_billing i i.billing
