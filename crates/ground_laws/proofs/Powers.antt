-- The power of a contract and what a cable gives, to the nearest whole number. Assumes nothing.
use mathlib.Core.Path.{◌≡◌, sym, ◌∙◌}
use mathlib.Core.Bool.{true, cond}
use mathlib.Core.Logic.{◌⊎◌, ⊎_elim}
use Prim.Native.Nat.{ℕ, ◌*◌, ◌≤◌, ◌<◌}
use native.Mathlib.Nat.{mul-le-mul_right, add-mul, le_antisymm}
use native.Mathlib.Omega.{arith}
use native.Mathlib.Decide.{dec_lt}
use borrow.Author.Tests.{le-leb, lt-leb, eqb-true, eqb-false}
use lib.Dec.{eqb, leb, lit<}
use Rattle.numbers.proofs.Laws.{by_cases}
use Rattle.numbers.proofs.Rounds.{Nearest, half_up_nearest}
use Rattle.power.specs.declared.Cable.{Cable}
use Rattle.power.specs.Power.{counted_cosine, divisor, formula, cable_fits}
use Rattle.power.proofs.Laws.{cable_limits}
use Rattle.contract.specs.declared.Contract.{Contract}
use Rattle.contract.specs.Contract.{power_of}
use Rattle.ground_laws.specs.Counted.{ToNearest, cable_work, IsPower}

pub to_nearest : {x d q : ℕ} → Nearest x d q → ToNearest x d q
to_nearest n = record { above = n.low; below = n.high }

-- c, where 0 counts as 900
cosine_same : (c : ℕ) → counted_cosine c ≡ cond (leb 1 c) c 900
cosine_same c =
    by_cases (eqb c 0)
    (λ t. rw (t, lt-leb 1 c (omega (arith, eqb-true c 0 t))))
    (λ f. rw (f, le-leb 1 c (omega (arith, eqb-false c 0 f))))

-- three phases give three times as much, where the divisor is a third
by_phases : {x q : ℕ} (f : ℕ) → (f ≡ 1) ⊎ (f ≡ 3) → Nearest x (divisor f) q → ToNearest (x * f) 1500000 q
by_phases {x} {q} f e n =
    ⊎_elim
    (λ one. let m = rw one at n in rw one (record { above = omega (arith, m.low); below = omega (arith, m.high) }))
    (λ three. let m = rw three at n in rw three (record { above = omega (arith, m.low); below = omega (arith, m.high) }))
    e

divisor_some : (f : ℕ) → 0 < divisor f
divisor_some f = by_cases (eqb f 1) (λ t. rw t (lit< tt)) (λ g. rw g (lit< tt))

pub formula_near : (k : Cable) (t : ℕ) → cable_fits k ≡ true → ToNearest (cable_work k t) 1500000 (formula k t)
unfolding formula
formula_near k t e =
    let x = k.amperes * k.volts * counted_cosine k.cosine * t in
    rw (sym (cosine_same k.cosine))
    (by_phases k.phases (cable_limits k e).phases (half_up_nearest x (divisor k.phases) (divisor_some k.phases)))

pub power_near : (c : Contract) → (eqb c.basis 3 ≡ true → cable_fits c.cable ≡ true) → IsPower c (power_of c)
unfolding power_of
power_near c fits = record {
  agreed = λ f. rw f;
  cable = λ t. rw t (formula_near c.cable 1 (fits t));
}

-- NO OTHER NUMBER is the nearest, or the power
nearest_most : {x d p q : ℕ} → ToNearest x d p → ToNearest x d q → p ≤ q
nearest_most {x} {d} {p} {q} a b =
    elim (dec_lt q p) [
      | yes g ↦ absurd (omega (arith, a.above, b.below, mul-le-mul_right d g, add-mul q 1 d))
      | no f ↦ omega arith
    ]

pub one_nearest : {x d p q : ℕ} → ToNearest x d p → ToNearest x d q → p ≡ q
one_nearest a b = le_antisymm (nearest_most a b) (nearest_most b a)

pub one_power : (c : Contract) (p q : ℕ) → IsPower c p → IsPower c q → p ≡ q
one_power c p q a b =
    by_cases (eqb c.basis 3)
    (λ t. one_nearest (a.cable t) (b.cable t))
    (λ f. a.agreed f ∙ sym (b.agreed f))
