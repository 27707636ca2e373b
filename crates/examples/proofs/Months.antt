-- Examples m) and n). The three closings of m) are accepted, because the point goes on and the marks are in order; the rest is computation. Assumes nothing.
use Prim.Native.Nat.{ℕ}
use mathlib.Core.Path.{◌≡◌, refl, ◌∙◌}
use mathlib.Core.Bool.{true}
use mathlib.Core.List.{List}
use native.Mathlib.Omega.{arith}
use lib.Dec.{lit<}
use lib.ListN.{length}
use Rattle.numbers.specs.Lists.{at, zeros, none_above}
use Rattle.numbers.proofs.Laws.{at_tab}
use Rattle.calendar.specs.Calendar.{leap_year, is_month, month_days, month_hours, open_hours, next_month}
use Rattle.sharing.specs.Shares.{past_at, stretched}
use Rattle.sharing.proofs.Rule.{past_short}
use Rattle.power.specs.Power.{agreed_fits, power_on}
use Rattle.marks.specs.Marks.{high, crowded, doubled, unmatched}
use Rattle.contract.specs.Contract.{kept, power_of}
use Rattle.store.specs.Store.{empty_store}
use Rattle.rules.specs.Rules.{evenly, by_weights, by_contract, on_past, on_control, on_billing, rules, becomes_past}
use Rattle.model.specs.Refusals.{refuse, open_refusal}
use Rattle.model.specs.Model.{State, measured_in, past_month, past_in, inputs, closed_with, accept, accepted, leaves}
use Rattle.model.specs.Opening.{opens, opened}
use Rattle.model.specs.Sound.{Sound}
use Rattle.model.proofs.GoesOn.{opening_sound, call_sound}
use Rattle.examples.specs.Examples.{february, one_kilowatt, plainly, after_march}
use Rattle.examples.proofs.Accepted.{passes}

record Closed (s : State) (t : ℕ) : Type 0 where
  left : leaves s (plainly t) ≡ accept s (plainly t)
  sound : Sound (accept s (plainly t))

closed : (s : State) (t : ℕ) → Sound s → accepted s (plainly t) ≡ true → Closed s t
unfolding leaves
closed s t sound y = record { left = rw y; sound = call_sound s (plainly t) sound y }

-- what computes
unfoldable month_definitions : Unit {0}
unfolding opened kept power_on power_of accept closed_with inputs measured_in past_month past_in rules on_billing on_control on_past by_contract evenly
    by_weights becomes_past
    open_hours month_hours month_days is_month leap_year next_month refuse high crowded doubled unmatched none_above
month_definitions = tt

-- the open months
unfoldable january : State
january = opened one_kilowatt

unfoldable next : State
next = accept january (plainly 744)

unfoldable march : State
march = accept next (plainly 672)

begun : opens one_kilowatt empty_store ≡ true
unfolding opens open_refusal refuse is_month agreed_fits
begun = refl

first : Closed january 744
unfolding january month_definitions
first =
    closed january 744 (opening_sound one_kilowatt empty_store begun)
    (passes january (zeros 744) (zeros 744) (opening_sound one_kilowatt empty_store begun) refl)

second : Closed next 672
unfolding january next month_definitions
second = closed next 672 first.sound (passes next (zeros 672) (zeros 744) first.sound refl)

third : Closed march 744
unfolding january next march month_definitions
third = closed march 744 second.sound (passes march (zeros 744) (zeros 744) second.sound refl)

computed : (accept march (plainly 744)).point.total.0 ≡ 2160
unfolding january next march month_definitions
computed = refl

pub three_months : after_march.point.total.0 ≡ 2160
unfolding after_march january next march
three_months = rw (first.left, second.left, third.left) computed

-- hour 672 of a past of 672 hours is its hour 504
pub past_hour : (past : List ℕ) → length past ≡ open_hours (february 2023) → at (stretched past (open_hours (february 2024))) 672 ≡ at past 504
unfolding stretched open_hours month_hours month_days is_month leap_year
past_hour past e =
    at_tab 696 (past_at past) 672 (lit< tt) ∙ past_short past 672 (omega arith)
