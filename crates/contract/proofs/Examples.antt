-- The meters that there are, P on each basis and what a point keeps of its contract, by computation. The formula and the shares stand by their
-- names: their values are in the examples of the crate `power`, and those of P on basis 3 in the grounds of `rules` too. Assumes nothing.
use Prim.Native.Nat.{ℕ}
use mathlib.Core.Path.{◌≡◌, refl}
use mathlib.Core.Bool.{true, false}
use mathlib.Core.List.{[], ◌∷◌}
use Rattle.power.specs.declared.Cable.{Cable}
use Rattle.power.specs.Power.{formula, shared_power, power_on}
use Rattle.power.proofs.Examples as P
use borrow.Author.Rules.{rules}
use Rattle.contract.specs.declared.Contract.{Contract}
use Rattle.contract.specs.Contract.{is_billing_kind, is_control_kind, meters_fit, integral_on_big_load, is_agreed, no_power, no_cable, keeping, kept, power_of}

-- THE METERS: a billing meter is 1 or 2, a control meter 0 to 2
billing_kinds : (is_billing_kind 0 ≡ false) × (is_billing_kind 1 ≡ true) × (is_billing_kind 2 ≡ true) × (is_billing_kind 3 ≡ false)
billing_kinds = (refl, refl, refl, refl)

control_kinds : (is_control_kind 0 ≡ true) × (is_control_kind 1 ≡ true) × (is_control_kind 2 ≡ true) × (is_control_kind 3 ≡ false)
control_kinds = (refl, refl, refl, refl)

-- an integral billing meter is not accepted from 670 kW on; an interval one is, with any P
big_loads :
    (integral_on_big_load 2 669 ≡ false)
    × (integral_on_big_load 2 670 ≡ true)
    × (integral_on_big_load 2 1000000 ≡ true)
    × (integral_on_big_load 2 0 ≡ false)
    × (integral_on_big_load 1 670 ≡ false)
    × (integral_on_big_load 1 1000000 ≡ false)
big_loads = (refl, refl, refl, refl, refl, refl)

agreed_bases : (is_agreed 0 ≡ false) × (is_agreed 1 ≡ true) × (is_agreed 2 ≡ true) × (is_agreed 3 ≡ false)
agreed_bases = (refl, refl, refl, refl)

-- a contract: meters, basis, power and cable
abbrev asking : ℕ → ℕ → ℕ → ℕ → Cable → Contract
asking billing control basis p cable =
    record { billing = billing; control = control; basis = basis; power = record { 0 = p }; cable = cable }

-- both meters count, each by its own rule: no billing meter is refused, and no control meter is not
both_meters :
    (meters_fit (asking 1 0 1 7 no_cable) ≡ true) × (meters_fit (asking 2 2 1 7 no_cable) ≡ true)
    × (meters_fit (asking 0 1 1 7 no_cable) ≡ false) × (meters_fit (asking 3 2 1 7 no_cable) ≡ false)
    × (meters_fit (asking 1 3 1 7 no_cable) ≡ false) × (meters_fit (asking 0 3 1 7 no_cable) ≡ false)
both_meters = (refl, refl, refl, refl, refl, refl)

-- 10 A and 250 V, with c and phases
abbrev cabled : ℕ → ℕ → Cable
cabled c phases = record { amperes = 10; volts = 250; cosine = c; phases = phases }

abbrev given : Cable
given = cabled 800 1

-- P OF A CONTRACT: the power field on bases 1 and 2, where no cable counts and nothing is shared again; on basis 3 the formula at t = 1, where no
-- power counts
powers :
    (power_of (asking 2 0 1 7 given) ≡ 7) × (power_of (asking 2 0 2 8 given) ≡ 8) × (power_of (asking 2 0 2 0 no_cable) ≡ 0)
    × (power_of (asking 2 0 3 0 given) ≡ formula given 1) × (power_of (asking 2 0 3 9 (cabled 0 3)) ≡ formula (cabled 0 3) 1)
unfolding power_of
powers = (refl, refl, refl, refl, refl)

-- there a missing c counts as 900
missing_cosine :
    (power_of (asking 2 0 3 0 (cabled 0 3)) ≡ power_of (asking 2 0 3 0 (cabled 900 3)))
    × (power_of (asking 2 0 3 9 (cabled 0 1)) ≡ power_of (asking 2 0 3 0 (cabled 900 1)))
unfolding power_of formula
missing_cosine = (refl, refl)

-- and the greatest cable is 2,000 × 250,000 × 1,000 / 500,000, whatever the power field
greatest_cable : power_of (asking 2 0 3 9 (record { amperes = 2000; volts = 250000; cosine = 1000; phases = 3 })) ≡ 1000000
unfolding power_of power_on
greatest_cable = search (P.powers, rules)

-- WHAT IS KEPT with a P of 4: meters and basis, P but on basis 3, and the cable on basis 3 alone, as given
kept_fields :
    (keeping (asking 1 2 1 7 given) (record { 0 = 4 }) ≡ asking 1 2 1 4 no_cable)
    × (keeping (asking 2 0 2 7 given) (record { 0 = 4 }) ≡ asking 2 0 2 4 no_cable)
    × (keeping (asking 2 1 3 7 (cabled 0 3)) (record { 0 = 4 }) ≡ asking 2 1 3 0 (cabled 0 3))
    × (no_power ≡ record { 0 = 0 })
    × (no_cable ≡ record { amperes = 0; volts = 0; cosine = 0; phases = 0 })
kept_fields = (refl, refl, refl, refl, refl)

-- the agreed power on basis 1, whatever the list; on basis 2 the share of the place in the list, counted from 0; no power on basis 3
kept_power :
    (kept (asking 1 2 1 10 given) (1 ∷ 1 ∷ 1 ∷ []) 1 ≡ asking 1 2 1 10 no_cable)
    × (kept (asking 1 2 2 10 given) (1 ∷ 1 ∷ 1 ∷ []) 1 ≡ asking 1 2 2 (shared_power 10 (1 ∷ 1 ∷ 1 ∷ []) 1) no_cable)
    × (kept (asking 2 1 2 1 no_cable) (1 ∷ 2000 ∷ []) 0 ≡ asking 2 1 2 (shared_power 1 (1 ∷ 2000 ∷ []) 0) no_cable)
    × (kept (asking 1 2 3 10 given) (1 ∷ 1 ∷ 1 ∷ []) 1 ≡ asking 1 2 3 0 given)
unfolding kept power_on
kept_power = (refl, refl, refl, refl)

-- what 10 gives the places of 1, 1, 1: 3, 4 and 3
kept_shares :
    (kept (asking 1 2 2 10 given) (1 ∷ 1 ∷ 1 ∷ []) 1 ≡ asking 1 2 2 4 no_cable)
    × (kept (asking 1 2 2 10 given) (1 ∷ 1 ∷ 1 ∷ []) 2 ≡ asking 1 2 2 3 no_cable)
unfolding kept power_on
kept_shares = search (P.powers, rules)
