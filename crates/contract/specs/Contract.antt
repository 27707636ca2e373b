-- The contract of a point (document 01, 'Power and the cable formula' and 'What a point keeps').
use Rattle.std.specs.Prelude.{ℕ, Bool, cond, ◌&&◌, ◌||◌, List, eqb, leb}
use Rattle.units.specs.declared.Kw.{Kw}
use Rattle.power.specs.declared.Cable.{Cable}
use Rattle.power.specs.Power.{formula, power_on}
use Rattle.contract.specs.declared.Contract.{Contract}

-- billing meter 1 interval or 2 integral
abbrev pub is_billing_kind : ℕ → Bool
is_billing_kind k = eqb k 1 || eqb k 2

-- control meter 0 none, 1 interval, 2 integral
abbrev pub is_control_kind : ℕ → Bool
is_control_kind k = leb k 2

-- both meters are of a kind that there is
abbrev pub meters_fit : Contract → Bool
meters_fit c = is_billing_kind c.billing && is_control_kind c.control

-- an integral billing meter on a big load, a P of 670 kW or more (document 02, E3)
abbrev pub integral_on_big_load : ℕ → ℕ → Bool
integral_on_big_load billing p = eqb billing 2 && leb 670 p

-- bases 1 and 2, an agreed power
abbrev pub is_agreed : ℕ → Bool
is_agreed basis = eqb basis 1 || eqb basis 2

abbrev pub no_power : Kw
no_power = record { 0 = 0 }

abbrev pub no_cable : Cable
no_cable = record { amperes = 0; volts = 0; cosine = 0; phases = 0 }

-- what a point keeps of the contract asked for, with the power p: basis with P, or the cable values as given; fields that the basis doesn't use are 0
abbrev pub keeping : Contract → Kw → Contract
keeping asked p =
    record {
      billing = asked.billing;
      control = asked.control;
      basis = asked.basis;
      power = cond (eqb asked.basis 3) no_power p;
      cable = cond (eqb asked.basis 3) asked.cable no_cable;
    }

-- the same with P worked out on its basis, from the currents of the list and the place in it
unfoldable pub kept : Contract → List ℕ → ℕ → Contract
kept asked currents place =
    keeping asked (record { 0 = power_on asked.basis asked.power.0 currents place asked.cable })

-- P of a contract that is kept: on basis 3 the formula at t = 1
unfoldable pub power_of : Contract → ℕ
power_of c = cond (eqb c.basis 3) (formula c.cable 1) c.power.0
