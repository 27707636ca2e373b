-- Power and the cable formula (document 01): P on its three bases, and the volume that a cable gives in t hours.
use Rattle.std.specs.Prelude.{ℕ, ◌*◌, Bool, cond, ◌&&◌, ◌||◌, List, eqb, leb, ltb, length}
use Rattle.numbers.specs.Lists.{all_to, at}
use Rattle.numbers.specs.Rounding.{half_up}
use Rattle.sharing.specs.Shares.{shares}
use Rattle.power.specs.declared.Cable.{Cable}

-- c thousandths of cos φ as they count: 0 means missing and counts as 900
abbrev pub counted_cosine : ℕ → ℕ
counted_cosine c = cond (eqb c 0) 900 c

-- what is divided by: 1,500,000 with one phase, 500,000 with three
abbrev pub divisor : ℕ → ℕ
divisor phases = cond (eqb phases 1) 1500000 500000

-- THE FORMULA for t hours: I × U × c × t / 1,500,000 with one phase, / 500,000 with three, rounded half up
unfoldable pub formula : Cable → ℕ → ℕ
formula k t = half_up (k.amperes * k.volts * counted_cosine k.cosine * t) (divisor k.phases)

-- a cable's limits: I amperes 1 to 2,000, U volts 1 to 250,000, c thousandths of cos φ up to 1,000, phases 1 or 3
unfoldable pub cable_fits : Cable → Bool
cable_fits k =
    leb 1 k.amperes
    && leb k.amperes 2000
    && leb 1 k.volts
    && leb k.volts 250000
    && leb k.cosine 1000
    && (eqb k.phases 1 || eqb k.phases 3)

-- the formula as the host calls it: t is 0 to 8,760, and a value outside the limits gives 2^64 - 1
unfoldable pub formula_in : Cable → ℕ → ℕ
formula_in k t = cond (cable_fits k && leb t 8760) (formula k t) 18446744073709551615

-- bases 1 and 2: the agreed power, 1 to 1,000,000
unfoldable pub agreed_fits : ℕ → Bool
agreed_fits p = leb 1 p && leb p 1000000

-- each current is 1 to 2,000
abbrev pub current_fits : List ℕ → ℕ → Bool
current_fits currents k = leb 1 (at currents k) && leb (at currents k) 2000

-- basis 2: the currents of 1 to 64 points, and the point's place in the list, counted from 0
unfoldable pub list_fits : List ℕ → ℕ → Bool
list_fits currents place =
    leb 1 (length currents)
    && leb (length currents) 64
    && ltb place (length currents)
    && all_to (current_fits currents) (length currents)

-- P on basis 2: the agreed power, shared in list order by the currents of the points' cables
unfoldable pub shared_power : ℕ → List ℕ → ℕ → ℕ
shared_power p currents place = at (shares p currents) place

-- the power, or 0 where it does not fit
abbrev pub power_in : Bool → ℕ → ℕ
power_in fits p = cond fits p 0

-- whether the basis is 1 to 3, and what it uses is within its limits
unfoldable pub basis_fits : ℕ → ℕ → List ℕ → ℕ → Cable → Bool
basis_fits basis p currents place cable =
    cond (eqb basis 1) (agreed_fits p)
    (cond (eqb basis 2) (agreed_fits p && list_fits currents place) (eqb basis 3 && cable_fits cable))

-- P on its basis: agreed; shared; the formula at t = 1
unfoldable pub power_on : ℕ → ℕ → List ℕ → ℕ → Cable → ℕ
power_on basis p currents place cable =
    cond (eqb basis 1) p (cond (eqb basis 2) (shared_power p currents place) (formula cable 1))
