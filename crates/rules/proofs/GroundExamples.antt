-- Closings of two and three days on grounds 5, 6 and 8, by which changed definitions of the rules are refused: hours, and what is returned. Those on
-- the other grounds, and on these with other inputs, stand above the laws of the grounds, in `ground_laws`. Each was worked out on paper, as its
-- comment says, and is shown by computation. Assumes nothing.
use Prim.Native.Nat.{ℕ}
use mathlib.Core.Path.{◌≡◌, refl}
use mathlib.Core.List.{List, [], ◌∷◌, ◌++◌}
use lib.ListN.{set, replicate}
use Rattle.numbers.specs.Lists.{zeros}
use Rattle.contract.specs.declared.Contract.{Contract}
use Rattle.contract.specs.Contract.{no_cable}
use Rattle.rules.specs.Rules.{missing, whole, Inputs, rules, figures}
use Rattle.rules.proofs.Examples.{agreed, inputs_with, GroundAndVolume, figures_are, rule_definitions}
use Rattle.std.specs.Prelude.{None, Some}

-- CONTRACTS: agreed P is basis 1; the same on basis 2, and a cable
abbrev pub shared : ℕ → Contract
shared p = record { billing = 2; control = 2; basis = 2; power = record { 0 = p }; cable = no_cable }

abbrev pub cabled : ℕ → ℕ → ℕ → ℕ → Contract
cabled a u c phases =
    record {
      billing = 2;
      control = 2;
      basis = 3;
      power = record { 0 = 0 };
      cable = record { amperes = a; volts = u; cosine = c; phases = phases };
    }

-- P 5: 10 × 250 × 900 / 500,000 is 4.5, with c missing
abbrev pub five : Contract
five = cabled 10 250 0 3

-- P 3: 20 × 250 × 800 / 1,500,000 is 2.67
abbrev pub three : Contract
three = cabled 20 250 800 1

-- MARKS AND HOURS of three days: a, b, c and e in hours 0, 9, 10 and 71, and r in the others
abbrev pub three_days : ℕ → ℕ → ℕ → ℕ → ℕ → List ℕ
three_days r a b c e = a ∷ (replicate 8 r ++ (b ∷ c ∷ (replicate 60 r ++ (e ∷ []))))

-- peaks in hours 9, 10 and 71, capacity hours 0 and 71, and no mark on the second day: n 3, d 2
abbrev pub busy : List ℕ
busy = three_days 0 2 1 1 3

-- two days with no peaks, and capacity hours 11 and 47: n 0, d 2
abbrev pub quiet : List ℕ
quiet = set (set (zeros 48) 11 2) 47 2

-- PASTS: 8 kWh in three days; 13 kWh; the 8 in a past that is longer, whose last hours do not count; one of zeros; and a week of 26 kWh
abbrev pub weights : List ℕ
weights = three_days 0 1 2 3 2

abbrev pub thirteen : List ℕ
thirteen = three_days 0 1 4 5 3

-- WHAT A CLOSING GIVES: hours, ground and volume
abbrev pub Gives : Inputs → List ℕ → ℕ → ℕ → Type 0
Gives i hs ground volume = ((rules i).hours ≡ hs) × GroundAndVolume i ground volume

-- hours, and what it returns: ground, volume, capacity, C and d
abbrev pub Closes : Inputs → List ℕ → ℕ → ℕ → ℕ → ℕ → ℕ → Type 0
Closes i hs ground volume capacity sum days =
    ((rules i).hours ≡ hs) × (figures (rules i) i.marks ≡ figures_are ground volume capacity sum days)

-- P 5 and V 89 - 4: A 15, 5 in each peak hour; 70 over the 69 others, of which the 35th, hour 36, gets the one more. C 1 + 5
abbrev pub by_five : List ℕ
by_five = set (three_days 1 1 5 5 5) 36 2

-- P 20 and V 134 - 4: A 60, and again 70 over the 69 others
abbrev pub by_twenty : List ℕ
by_twenty = set (three_days 1 1 20 20 20) 36 2

-- R 3: ground 4 would give 10, 40, 50, 30, so that C' is 40, and 60 × 2 is not below 3 × 40. V 12 is below n × P of the cable, so A is 12, and
-- 12 × 2 is not below 3 × 5. Without peaks there is no test. Without a past R does not count
ground_5 :
    Closes (inputs_with (agreed 20) busy 3 missing (whole 134) 4 (Some thirteen)) by_twenty 5 130 11 21 2
    × Gives (inputs_with five busy 3 missing (whole 16) 4 (Some weights)) (three_days 0 0 4 4 4) 5 12
    × Gives (inputs_with (agreed 5) quiet 3 missing (whole 50) 0 (Some weights)) (set (set (replicate 48 1) 11 2) 35 2) 5 50
    × Gives (inputs_with (agreed 5) busy 1 missing (whole 89) 4 None) by_five 5 85
    × Gives (inputs_with five busy 2 missing (whole 85) 0 None) by_five 5 85
    × Gives (inputs_with three busy 3 missing (whole 78) 0 None) (three_days 1 1 3 3 3) 5 78
unfolding rule_definitions
ground_5 = ((refl, refl), (refl, (refl, refl)), (refl, (refl, refl)), (refl, (refl, refl)), (refl, (refl, refl)), (refl, (refl, refl)))

-- P 20 and V 139 - 4 by 1, 4, 5, 3 of 13: 10.38, 51.92, 103.85, 135, so that C' is 10 + 31, and 60 × 2 is below 3 × 41. P 7 and V 12 by 1, 0, 1, 2
-- of 4: A is V, C' is 3 + 6, and 12 × 2 is below 3 × 9
ground_6 :
    Closes (inputs_with (agreed 20) busy 3 missing (whole 139) 4 (Some thirteen)) (three_days 0 10 42 52 31) 6 135 21 41 2
    × Gives (inputs_with (agreed 7) busy 5 missing (whole 12) 0 (Some (three_days 0 1 0 1 2))) (three_days 0 3 0 3 6) 6 12
unfolding rule_definitions
ground_6 = ((refl, refl), (refl, (refl, refl)))

-- P × T, with R 3, and without a past
ground_8 :
    Gives (inputs_with (agreed 5) busy 3 missing missing 4 (Some weights)) (replicate 72 5) 8 360
    × Closes (inputs_with (shared 7) quiet 1 missing missing 0 None) (replicate 48 7) 8 336 7 14 2
unfolding rule_definitions
ground_8 = ((refl, (refl, refl)), (refl, refl))
