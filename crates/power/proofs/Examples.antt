-- Powers and the cable formula at each limit from both sides, by computation. Assumes nothing.
use Prim.Native.Nat.{ℕ}
use mathlib.Core.Path.{◌≡◌, refl}
use mathlib.Core.Bool.{true, false}
use mathlib.Core.List.{[], ◌∷◌}
use native.Mathlib.Omega.{arith}
use lib.ListN.{replicate}
use borrow.Author.Rules.{rules}
use Rattle.std.specs.Prelude.{Ok, Err}
use Rattle.numbers.specs.Rounding.{half_up}
use Rattle.sharing.specs.Shares.{portion, taken, spread, shares_over}
use Rattle.power.specs.declared.Cable.{Cable}
use Rattle.power.specs.Power.{formula, cable_fits, formula_in, agreed_fits, list_fits, shared_power, basis_fits, power_on}
use Rattle.power.specs.Power.{power_in, counted_cosine, divisor}
use Rattle.power.specs.declared.basis.Basis.TheVariants.{Agreed, Shared, Formula}
use Rattle.power.specs.Basis.{number_of, Decodes}

abbrev cable : ℕ → ℕ → ℕ → ℕ → Cable
cable i u c n = record { amperes = i; volts = u; cosine = c; phases = n }

-- 2^64 - 1, which is no volume
abbrev none : ℕ
none = 18446744073709551615

-- a half rounds up and less than a half down; c counts as given, or as 900 where it is missing; no hours give nothing
pub volumes :
    (formula_in (cable 3 25 125 1) 240 ≡ 2)
    × (formula_in (cable 3 25 125 1) 239 ≡ 1)
    × (formula_in (cable 3 25 125 3) 240 ≡ 5)
    × (formula_in (cable 60 220 0 3) 744 ≡ formula_in (cable 60 220 900 3) 744)
    × (formula_in (cable 60 220 0 3) 0 ≡ 0)
unfolding formula cable_fits formula_in half_up
volumes = search rules

-- outside each limit there is no volume, and at the limits there is
pub outside :
    (formula_in (cable 0 230 0 1) 720 ≡ none)
    × (formula_in (cable 2001 230 0 1) 720 ≡ none)
    × (formula_in (cable 100 0 0 1) 720 ≡ none)
    × (formula_in (cable 100 250001 0 1) 720 ≡ none)
    × (formula_in (cable 100 230 1001 1) 720 ≡ none)
    × (formula_in (cable 100 230 0 0) 720 ≡ none)
    × (formula_in (cable 100 230 0 2) 720 ≡ none)
    × (formula_in (cable 100 230 0 4) 720 ≡ none)
    × (formula_in (cable 100 230 0 1) 8761 ≡ none)
    × (formula_in (cable 2000 250000 1000 3) 8760 ≡ 8760000000)
    × (formula_in (cable 2000 250000 1000 1) 8760 ≡ 2920000000)
    × (formula_in (cable 1 1 1 1) 1 ≡ 0)
unfolding formula cable_fits formula_in half_up
outside = search rules

-- shares in list order, which may be 0, and the limits of a list
pub lists :
    (shared_power 10 (1 ∷ 2 ∷ 3 ∷ []) 0 ≡ 2)
    × (shared_power 10 (1 ∷ 2 ∷ 3 ∷ []) 1 ≡ 3)
    × (shared_power 10 (1 ∷ 2 ∷ 3 ∷ []) 2 ≡ 5)
    × (shared_power 1 (1 ∷ 2000 ∷ []) 0 ≡ 0)
    × (list_fits (1 ∷ 1 ∷ 1 ∷ []) 2 ≡ true)
    × (list_fits (1 ∷ 1 ∷ 1 ∷ []) 3 ≡ false)
    × (list_fits [] 0 ≡ false)
    × (list_fits (replicate 64 1) 63 ≡ true)
    × (list_fits (replicate 65 1) 0 ≡ false)
    × (list_fits (2000 ∷ []) 0 ≡ true)
    × (list_fits (1 ∷ 2001 ∷ []) 0 ≡ false)
    × (list_fits (1 ∷ 0 ∷ []) 0 ≡ false)
unfolding list_fits shared_power shares_over spread taken portion half_up
lists = search rules

-- P on each basis, which ignores what it does not use
pub powers :
    (agreed_fits 0 ≡ false)
    × (agreed_fits 1 ≡ true)
    × (agreed_fits 1000000 ≡ true)
    × (agreed_fits 1000001 ≡ false)
    × (basis_fits 1 7 [] 0 (cable 0 0 0 0) ≡ true)
    × (power_on 1 7 [] 0 (cable 0 0 0 0) ≡ 7)
    × (basis_fits 2 10 (1 ∷ 1 ∷ 1 ∷ []) 2 (cable 0 0 0 0) ≡ true)
    × (power_on 2 10 (1 ∷ 1 ∷ 1 ∷ []) 1 (cable 0 0 0 0) ≡ 4)
    × (power_on 2 10 (1 ∷ 1 ∷ 1 ∷ []) 2 (cable 0 0 0 0) ≡ 3)
    × (basis_fits 3 0 [] 0 (cable 2000 250000 1000 3) ≡ true)
    × (power_on 3 0 [] 0 (cable 2000 250000 1000 3) ≡ 1000000)
    × (basis_fits 0 7 (1 ∷ []) 0 (cable 1 1 1 1) ≡ false)
    × (basis_fits 4 7 (1 ∷ []) 0 (cable 1 1 1 1) ≡ false)
    × (basis_fits 2 1000001 (1 ∷ []) 0 (cable 1 1 1 1) ≡ false)
    × (basis_fits 2 7 (1 ∷ []) 1 (cable 1 1 1 1) ≡ false)
    × (basis_fits 3 7 (1 ∷ []) 0 (cable 1 1 1 2) ≡ false)
unfolding formula cable_fits agreed_fits list_fits shared_power basis_fits power_on half_up shares_over spread taken portion
powers = search rules

-- the numbers of the three bases
pub numbers : (number_of Agreed ≡ 1) × (number_of Shared ≡ 2) × (number_of Formula ≡ 3)
numbers = (refl, refl, refl)

-- a number decodes to the basis that has it, and each of 0 and 4 to an error with that number
pub decoded : Decodes 1 (Ok Agreed) × Decodes 2 (Ok Shared) × Decodes 3 (Ok Formula)
decoded = (refl, refl, refl)

pub unknown_0 : Decodes 0 (Err (record { 0 = 0 }))
unknown_0 = (refl, λ e. omega (arith, e), λ e. omega (arith, e), λ e. omega (arith, e))

pub unknown_4 : Decodes 4 (Err (record { 0 = 4 }))
unknown_4 = (refl, λ e. omega (arith, e), λ e. omega (arith, e), λ e. omega (arith, e))

-- no error decodes a number that a basis has
pub no_error_1 : Decodes 1 (Err (record { 0 = 1 })) → ⊥
no_error_1 d = d.1 refl

pub no_error_2 : Decodes 2 (Err (record { 0 = 2 })) → ⊥
no_error_2 d = d.2 refl

pub no_error_3 : Decodes 3 (Err (record { 0 = 3 })) → ⊥
no_error_3 d = d.3 refl

-- c as it counts, what is divided by, and a power that does not fit
pub parts :
    (counted_cosine 0 ≡ 900)
    × (counted_cosine 1 ≡ 1)
    × (divisor 1 ≡ 1500000)
    × (divisor 3 ≡ 500000)
    × (power_in true 7 ≡ 7)
    × (power_in false 7 ≡ 0)
parts = (refl, refl, refl, refl, refl, refl)

-- a power, a list and a cable that all fit give a power on each basis of its own; another point's current counts too
pub bases :
    (basis_fits 1 7 (1 ∷ 1 ∷ []) 0 (cable 100 100 500 3) ≡ true)
    × (basis_fits 2 7 (1 ∷ 1 ∷ []) 0 (cable 100 100 500 3) ≡ true)
    × (basis_fits 3 7 (1 ∷ 1 ∷ []) 0 (cable 100 100 500 3) ≡ true)
    × (power_on 1 7 (1 ∷ 1 ∷ []) 0 (cable 100 100 500 3) ≡ 7)
    × (power_on 2 7 (1 ∷ 1 ∷ []) 0 (cable 100 100 500 3) ≡ 4)
    × (power_on 3 7 (1 ∷ 1 ∷ []) 0 (cable 100 100 500 3) ≡ 10)
    × (basis_fits 2 7 (2001 ∷ 1 ∷ []) 1 (cable 100 100 500 3) ≡ false)
unfolding formula cable_fits agreed_fits list_fits shared_power basis_fits power_on half_up shares_over spread taken portion
bases = search rules
