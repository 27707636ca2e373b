-- What holds of powers and of the cable formula. Assumes nothing.
use Prim.Native.Nat.{ℕ, ◌*◌, ◌≤◌}
use mathlib.Core.Path.{◌≡◌}
use mathlib.Core.Bool.{true, ◌&&◌, ◌||◌}
use mathlib.Core.List.{List}
use mathlib.Core.Logic.{inl, inr, ⊎_elim}
use native.Mathlib.Nat.{mul-le-mul, le_refl}
use native.Mathlib.Omega.{arith}
use native.Mathlib.Decide.{dec_lt}
use borrow.Author.Tests.{leb-true, le-leb, eqb-true, ltb-true}
use lib.Dec.{eqb, leb, ltb}
use lib.ListN.{length, get_or-eq_default}
use Rattle.std.specs.List.{list_all}
use Rattle.numbers.specs.Lists.{all_to, sum_to, at}
use Rattle.numbers.proofs.Laws.{by_cases, both, either, cond_most, all_at, sum_most}
use Rattle.numbers.proofs.Rounds.{half_up_most}
use Rattle.units.specs.Volumes.{greatest_volume_read, greatest_month_volume}
use Rattle.sharing.specs.Shares.{month_fits, weights_fit, share_in}
use Rattle.sharing.proofs.Rule.{shares_most}
use Rattle.numbers.proofs.Items.{all_by_to}
use Rattle.power.specs.declared.Cable.{Cable}
use Rattle.power.specs.Power.{counted_cosine, formula, cable_fits, formula_in, agreed_fits, current_fits, list_fits, shared_power, basis_fits, power_on}
use Rattle.power.specs.Limits.{CableLimits, AgreedLimits, ListLimits}

-- the limits that cable_fits tests
pub cable_limits : (k : Cable) → cable_fits k ≡ true → CableLimits k
unfolding cable_fits
cable_limits k h =
    let p = both _ (eqb k.phases 1 || eqb k.phases 3) h in
    let q = both _ (leb k.cosine 1000) p.0 in
    let r = both _ (leb k.volts 250000) q.0 in
    let s = both _ (leb 1 k.volts) r.0 in
    let t = both (leb 1 k.amperes) (leb k.amperes 2000) s.0 in
    record {
      amperes_low = leb-true _ _ t.0;
      amperes = leb-true _ _ t.1;
      volts_low = leb-true _ _ s.1;
      volts = leb-true _ _ r.1;
      cosine = leb-true _ _ q.1;
      phases = ⊎_elim (λ e. inl (eqb-true _ _ e)) (λ e. inr (eqb-true _ _ e)) (either _ (eqb k.phases 3) p.1);
    }

-- so that the product of the formula fits 64 bits
pub product_most : (a v c t : ℕ) → a ≤ 2000 → v ≤ 250000 → c ≤ 1000 → t ≤ 8760 → a * v * c * t ≤ 4380000000000000000
product_most a v c t i j k l = omega (arith, mul-le-mul (mul-le-mul (mul-le-mul i j) k) l)

-- those that agreed_fits tests
pub agreed_limits : (p : ℕ) → agreed_fits p ≡ true → AgreedLimits p
unfolding agreed_fits
agreed_limits p h =
    let q = both (leb 1 p) (leb p 1000000) h in
    record { low = leb-true _ _ q.0; high = leb-true _ _ q.1 }

-- each item of a list of currents fits where each place does
pub currents_all : (currents : List ℕ) → list_all (λ x. leb 1 x && leb x 2000) currents ≡ all_to (current_fits currents) (length currents)
currents_all currents = all_by_to (λ x. leb 1 x && leb x 2000) 0 currents

-- and those that list_fits tests
pub list_limits : (currents : List ℕ) (place : ℕ) → list_fits currents place ≡ true → ListLimits currents place
unfolding list_fits
list_limits currents place h =
    let p = both _ (all_to (current_fits currents) (length currents)) h in
    let q = both _ (ltb place (length currents)) p.0 in
    let r = both (leb 1 (length currents)) (leb (length currents) 64) q.0 in
    record {
      some = leb-true _ _ r.0;
      few = leb-true _ _ r.1;
      inside = ltb-true _ _ q.1;
      low = λ k l. leb-true _ _ (both (leb 1 (at currents k)) (leb (at currents k) 2000) (all_at (current_fits currents) (length currents) k p.1 l)).0;
      high = λ k.
          elim (dec_lt k (length currents)) [
            | yes l ↦ leb-true _ _ (both (leb 1 (at currents k)) (leb (at currents k) 2000) (all_at (current_fits currents) (length currents) k p.1 l)).1
            | no f ↦ rw (get_or-eq_default currents 0 {n = k} (omega arith)) (omega arith)
          ];
    }

-- law: in t hours a cable gives at most 1,000,000 t
pub formula_most : (c : Cable) (t : ℕ) → cable_fits c ≡ true → formula c t ≤ 1000000 * t
unfolding formula
formula_most c t h =
    let l = cable_limits c h in
    let counted : counted_cosine c.cosine ≤ 1000 = cond_most (eqb c.cosine 0) (omega arith) l.cosine in
    let most = mul-le-mul (mul-le-mul (mul-le-mul l.amperes l.volts) counted) (le_refl t) in
    by_cases (eqb c.phases 1)
    (λ e. rw e (half_up_most _ 1500000 _ (omega arith)))
    (λ e. rw e (half_up_most _ 500000 _ (omega arith)))

-- law: within the limits the host's number is the formula
pub formula_in_lem : (c : Cable) (t : ℕ) → cable_fits c ≡ true → t ≤ 8760 → formula_in c t ≡ formula c t
unfolding formula_in
formula_in_lem c t h l = rw (h, le-leb t 8760 l)

-- law: no place gets more than the power that is shared
pub shared_most : (p : ℕ) (currents : List ℕ) (place : ℕ) → shared_power p currents place ≤ p
unfolding shared_power
shared_most p currents place = shares_most p currents place

-- within the limits of basis 2 the numbers fit that are shared
pub shared_in : (p : ℕ) (currents : List ℕ) (place : ℕ)
    → agreed_fits p && list_fits currents place ≡ true → share_in p currents place ≡ shared_power p currents place
unfolding share_in month_fits weights_fit shared_power
shared_in p currents place h =
    let a = agreed_limits p (both (agreed_fits p) (list_fits currents place) h).0 in
    let l = list_limits currents place (both (agreed_fits p) (list_fits currents place) h).1 in
    let n = length currents in
    let s : sum_to (at currents) n ≤ greatest_month_volume = omega (arith, sum_most (at currents) 2000 n (λ k m. l.high k)) in
    rw (le-leb p greatest_volume_read (omega arith), le-leb 1 n l.some, le-leb n 744 (omega arith), le-leb n n (le_refl n), le-leb _ greatest_month_volume s)

-- law: P is at most 1,000,000 on every basis
pub power_most : (basis p : ℕ) (currents : List ℕ) (place : ℕ) (cable : Cable)
    → basis_fits basis p currents place cable ≡ true → power_on basis p currents place cable ≤ 1000000
unfolding basis_fits power_on
power_most basis p currents place cable =
    by_cases (eqb basis 1)
    (λ e. rw e λ h. (agreed_limits p h).high)
    (λ e.
    by_cases (eqb basis 2)
    (λ f. rw (e, f) λ h. omega (arith, shared_most p currents place, agreed_limits p (both (agreed_fits p) _ h).0))
    (λ f. rw (e, f) λ h. omega (arith, formula_most cable 1 (both (eqb basis 3) (cable_fits cable) h).1)))
