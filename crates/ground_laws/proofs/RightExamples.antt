-- What is right of an outcome, and which inputs fit: values at each limit and one past it, by computation. They rest on no law, so that what fails
-- of a changed definition is false of it. Assumes nothing.
use Prim.Native.Nat.{ℕ, zero, suc, ◌-◌, ◌≤◌, ◌<◌}
use mathlib.Core.Path.{◌≡◌, refl, sym, subst}
use mathlib.Core.Bool.{false≢true}
use mathlib.Core.List.{List, [], ◌∷◌, ◌++◌}
use native.Mathlib.Omega.{arith}
use lib.Dec.{lit<, lit≤}
use lib.ListN.{replicate}
use Rattle.numbers.specs.Lists.{at, zeros, none_above}
use Rattle.power.specs.Power.{cable_fits}
use Rattle.marks.specs.Marks.{crowded}
use Rattle.contract.specs.declared.Contract.{Contract}
use Rattle.rules.specs.Rules.{missing, hourly, whole, PastHours, Inputs, Share, Outcome, becomes_past}
use Rattle.rules.specs.Right.{NearShare, RightUpTo, Right, HoursFit, MeasuredFits, PastHoursFit, days_of, InputsFit}
use Rattle.rules.proofs.Examples.{agreed, inputs_with}
use Rattle.std.specs.Prelude.{None, Some}
use Rattle.std.proofs.lemmas.Option.{none-some, same_Some}

-- AN HOUR AND ITS SHARE: 3 and 4 are near 10 / 3, and a whole kWh away is not near
abbrev over : ℕ → ℕ → Share
over t b = record { top = t; bottom = b }

near : NearShare 3 (over 10 3) × NearShare 4 (over 10 3) × NearShare 1 (over 1 1)
near = (
  record { below = omega arith; above = omega arith },
  record { below = omega arith; above = omega arith },
  record { below = omega arith; above = omega arith },
)

far : (NearShare 2 (over 10 3) → ⊥) × (NearShare 5 (over 10 3) → ⊥) × (NearShare 0 (over 1 1) → ⊥) × (NearShare 2 (over 1 1) → ⊥)
far = (λ n. omega (arith, n.above), λ n. omega (arith, n.below), λ n. omega (arith, n.above), λ n. omega (arith, n.below))

-- AN OUTCOME: ground, the share of each hour, hours and volume
abbrev outcome : ℕ → Share → List ℕ → ℕ → Outcome
outcome g q hs v = record { ground = g; hours = hs; exact = λ h. q; volume = v }

-- 5 kWh in two hours, which is the most there may be. What lies past the hours need not be near 5 / 2
abbrev two_three : List ℕ
two_three = 2 ∷ 3 ∷ []

near_halves : (h : ℕ) → h < 2 → NearShare (at two_three h) (over 5 2)
near_halves zero l = record { below = omega arith; above = omega arith }
near_halves (suc zero) l = record { below = omega arith; above = omega arith }
near_halves (suc (suc h)) l = absurd (omega (arith, l))

two_hours : RightUpTo 5 2 (outcome 8 (over 5 2) two_three 5)
unfolding becomes_past none_above
two_hours = record { long = refl; sums = refl; near = near_halves; most = lit≤ tt; small = λ e. cc }

-- an hour too few, a sum that is not the volume, more than the most, and the first and the last hour far from its share
not_right :
    (RightUpTo 5 3 (outcome 8 (over 5 2) two_three 5) → ⊥) × (RightUpTo 6 2 (outcome 8 (over 5 2) two_three 6) → ⊥)
    × (RightUpTo 4 2 (outcome 8 (over 5 2) two_three 5) → ⊥) × (RightUpTo 5 3 (outcome 8 (over 2 1) (1 ∷ 2 ∷ 2 ∷ []) 5) → ⊥)
    × (RightUpTo 5 3 (outcome 8 (over 2 1) (2 ∷ 2 ∷ 1 ∷ []) 5) → ⊥)
not_right = (
  λ r. omega (arith, r.long),
  λ r. omega (arith, r.sums),
  λ r. omega (arith, r.most),
  λ r. let n = r.near 0 (lit< tt) in omega (arith, n.above),
  λ r. let n = r.near 2 (lit< tt) in omega (arith, n.above),
)

-- ONE HOUR, x kWh on ground g
abbrev alone : ℕ → ℕ → Outcome
alone g x = outcome g (over x 1) (x ∷ []) x

near_alone : (x h : ℕ) → h < 1 → NearShare (at (x ∷ []) h) (over x 1)
near_alone x zero l = record { below = omega arith; above = omega arith }
near_alone x (suc h) l = absurd (omega (arith, l))

-- on grounds 1 and 2 it is at most 3,000,000, on ground 8 it can be more
row :
    RightUpTo 3000000 1 (alone 1 3000000) × RightUpTo 3000001 1 (alone 8 3000001)
    × (RightUpTo 3000001 1 (alone 1 3000001) → ⊥) × (RightUpTo 3000001 1 (alone 2 3000001) → ⊥)
unfolding becomes_past none_above
row = (
  record { long = refl; sums = refl; near = near_alone 3000000; most = lit≤ tt; small = λ e. refl },
  record { long = refl; sums = refl; near = near_alone 3000001; most = lit≤ tt; small = λ e. absurd (false≢true e) },
  λ r. false≢true (r.small refl),
  λ r. false≢true (r.small refl),
)

-- the greatest month volume, and one more
greatest : Right 1 (alone 8 2232000000) × (Right 1 (alone 8 2232000001) → ⊥)
unfolding becomes_past
greatest =
    (record { long = refl; sums = refl; near = near_alone 2232000000; most = lit≤ tt; small = λ e. absurd (false≢true e) }, λ r. omega (arith, r.most))

-- READINGS: two hours of at most 1,000,000, and not one of 1,000,001, nor two hours for three
abbrev reads : ℕ → List ℕ
reads x = 1000000 ∷ x ∷ []

reading : HoursFit 2 (reads 1000000) × (HoursFit 2 (reads 1000001) → ⊥) × (HoursFit 3 (reads 1000000) → ⊥)
unfolding none_above
reading = (record { long = refl; small = refl }, λ f. false≢true f.small, λ f. omega (arith, f.long))

-- none; hours that fit; and a volume of at most k
none_fits : {k t : ℕ} → MeasuredFits k t missing
none_fits = record { hours = λ hs e. absurd cc; volume = λ v e. absurd cc }

hourly_fits : {k t : ℕ} {hs : List ℕ} → HoursFit t hs → MeasuredFits k t (hourly hs)
hourly_fits {t = t} {hs} f = record { hours = λ xs e. subst (HoursFit t) (let same : hs ≡ xs = cc in same) f; volume = λ v e. absurd cc }

whole_fits : {k t v : ℕ} → v ≤ k → MeasuredFits k t (whole v)
whole_fits {k} {v = v} l = record { hours = λ hs e. absurd cc; volume = λ w e. let same : v ≡ w = cc in rw (← same) l }

not_measured :
    (MeasuredFits 5 2 (whole 6) → ⊥) × (MeasuredFits 5 3 (hourly (reads 0)) → ⊥) × (MeasuredFits 5 2 (hourly (reads 1000001)) → ⊥)
unfolding none_above
not_measured = (
  λ m. omega (arith, m.volume 6 refl),
  λ m. let f = m.hours (reads 0) refl in omega (arith, f.long),
  λ m. let f = m.hours (reads 1000001) refl in false≢true f.small,
)

-- A PAST: none, and one whose last hour is x
abbrev past : ℕ → PastHours
past x = Some (0 ∷ x ∷ [])

no_past : PastHoursFit None
no_past hs e = absurd (none-some hs e)

past_fits : PastHoursFit (past 3000000)
unfolding none_above
past_fits hs e = rw (← same_Some (0 ∷ 3000000 ∷ []) hs e) refl

past_high : PastHoursFit (past 3000001) → ⊥
unfolding none_above
past_high f = false≢true (f (0 ∷ 3000001 ∷ []) refl)

-- INPUTS: basis, power and amperes; and a day with n peaks
abbrev contract : ℕ → ℕ → ℕ → Contract
contract basis p a = record (agreed p) { basis = basis; cable = record { amperes = a; volts = 250000; cosine = 1000; phases = 3 } }

abbrev day : ℕ → List ℕ
day n = replicate n 1 ++ zeros (24 - n)

-- a day with 16 peaks and no capacity hour, and every value at its limit
abbrev fitting : Inputs
fitting = inputs_with (contract 3 1000000 2000) (day 16) 1 (whole 24000000) (whole 744000000) 0 (past 3000000)

one_day : InputsFit fitting
unfolding crowded cable_fits
one_day = record {
  whole_days = refl;
  some = lit< tt;
  few = lit≤ tt;
  not_crowded = refl;
  power = lit≤ tt;
  cable = λ e. refl;
  billing = whole_fits (lit≤ tt);
  control = whole_fits (lit≤ tt);
  past = past_fits;
}

-- 31 days
longest : InputsFit (record fitting { marks = day 16 ++ zeros 720; billing = whole 744000000 })
unfolding crowded cable_fits
longest = record {
  whole_days = refl;
  some = lit< tt;
  few = lit≤ tt;
  not_crowded = refl;
  power = lit≤ tt;
  cable = λ e. refl;
  billing = whole_fits (lit≤ tt);
  control = whole_fits (lit≤ tt);
  past = past_fits;
}

-- basis 1, on which the cable may be anything, the hours of both meters, and no past
abbrev read : List ℕ
read = replicate 24 1000000

by_hours : InputsFit (inputs_with (contract 1 1000000 0) (day 16) 1 (hourly read) (hourly read) 0 None)
unfolding crowded none_above
by_hours = record {
  whole_days = refl;
  some = lit< tt;
  few = lit≤ tt;
  not_crowded = refl;
  power = lit≤ tt;
  cable = λ e. absurd (false≢true e);
  billing = hourly_fits (record { long = refl; small = refl });
  control = hourly_fits (record { long = refl; small = refl });
  past = no_past;
}

-- NOT FITTING, each in one respect. Marks of no day, of 32 days, of a day and an hour, and with a 17th peak, and no billing reading
abbrev marked : List ℕ → Inputs
marked ms = record fitting { marks = ms; billing = missing }

other_marks :
    (InputsFit (marked []) → ⊥) × (InputsFit (marked (zeros 768)) → ⊥) × (InputsFit (marked (zeros 25)) → ⊥)
    × (InputsFit (marked (day 17)) → ⊥)
unfolding crowded
other_marks =
    (λ f. omega (arith, f.some), λ f. omega (arith, f.few), λ f. omega (arith, f.whole_days), λ f. false≢true (sym f.not_crowded))

-- a power of 1,000,001, and cables of 0 and 2,001 amperes on basis 3
abbrev under : Contract → Inputs
under c = record fitting { contract = c }

other_contracts :
    (InputsFit (under (contract 1 1000001 0)) → ⊥) × (InputsFit (under (contract 3 0 0)) → ⊥) × (InputsFit (under (contract 3 0 2001)) → ⊥)
unfolding cable_fits
other_contracts = (λ f. omega (arith, f.power), λ f. false≢true (f.cable refl), λ f. false≢true (f.cable refl))

-- volumes of one more, an hour fewer on either meter, and a past hour of 3,000,001
other_readings :
    (InputsFit (record fitting { billing = whole 24000001 }) → ⊥) × (InputsFit (record fitting { control = whole 744000001 }) → ⊥)
    × (InputsFit (record fitting { billing = hourly (zeros 23) }) → ⊥) × (InputsFit (record fitting { control = hourly (zeros 23) }) → ⊥)
    × (InputsFit (record fitting { past = past 3000001 }) → ⊥)
unfolding none_above
other_readings = (
  λ f. omega (arith, f.billing.volume 24000001 refl),
  λ f. omega (arith, f.control.volume 744000001 refl),
  λ f. let h = f.billing.hours (zeros 23) refl in omega (arith, h.long),
  λ f. let h = f.control.hours (zeros 23) refl in omega (arith, h.long),
  λ f. false≢true (f.past (0 ∷ 3000001 ∷ []) refl),
)

-- whole days of marks: what is left of 47 counts for none
days : (days_of (marked (zeros 47)) ≡ 1) × (days_of fitting ≡ 1)
days = (refl, refl)
