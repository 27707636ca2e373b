-- Closings of two, three and eight days on the grounds that the examples of `rules` have not, and the exact shares of some hours. Each was worked out
-- on paper, as its comment says, and is shown by computation. Assumes nothing.
use Prim.Native.Nat.{ℕ}
use mathlib.Core.Path.{◌≡◌, refl}
use mathlib.Core.List.{List, [], ◌∷◌, ◌++◌}
use lib.ListN.{set, replicate}
use Rattle.numbers.specs.Lists.{zeros}
use Rattle.contract.specs.declared.Contract.{Contract}
use Rattle.rules.specs.Rules.{missing, hourly, whole, PastHours, Inputs, rules}
use Rattle.rules.proofs.Examples.{agreed, inputs_with, GroundAndVolume, rule_definitions}
use Rattle.std.specs.Prelude.{None, Some}
use Rattle.rules.proofs.GroundExamples.{shared, cabled, five, three, three_days, busy, quiet, weights, Gives, Closes, by_five}

-- a power of 0, and 1.5 kWh in 48 hours
abbrev thin : Contract
thin = cabled 1 25 625 3

-- eight days with capacity hours 23, 24 and 191: n 0, d 3
abbrev eight_days : List ℕ
eight_days = set (set (set (zeros 192) 23 2) 24 2) 191 2

abbrev longer : PastHours
longer = Some (weights ++ (9 ∷ 9 ∷ 9 ∷ []))

abbrev empty : PastHours
empty = Some (zeros 72)

abbrev week : List ℕ
week = 5 ∷ (zeros 22 ++ (6 ∷ 7 ∷ (zeros 142 ++ (8 ∷ []))))

-- as read, before the control meter and the past, with nothing taken away for N: V 68 + 7 + 100 + 3 + 4, C 7 + 4, and 11 / 2 is 6; with
-- R 3 too
ground_1 :
    Closes (inputs_with (agreed 5) busy 1 (hourly (three_days 1 7 100 3 4)) (whole 9) 4 (Some weights)) (three_days 1 7 100 3 4) 1 182 6 11 2
    × Gives (inputs_with five (zeros 72) 3 (hourly (three_days 1 7 100 3 4)) missing 0 None) (three_days 1 7 100 3 4) 1 182
unfolding rule_definitions
ground_1 = ((refl, refl), (refl, (refl, refl)))

-- the same on basis 2, and on basis 3 with N 0; V 8 is below n × P, so all of it is A, and 8 / 3 is 2.67, 5.33, 8; N above B leaves nothing
ground_2 :
    Closes (inputs_with (agreed 5) busy 1 (whole 89) (hourly weights) 4 (Some weights)) by_five 2 85 3 6 2
    × Gives (inputs_with (shared 5) busy 3 (whole 89) (whole 9) 4 None) by_five 2 85
    × Gives (inputs_with five busy 1 (whole 85) missing 0 (Some weights)) by_five 2 85
    × Gives (inputs_with (agreed 5) busy 1 (whole 12) missing 4 None) (three_days 0 0 3 2 3) 2 8
    × Gives (inputs_with (agreed 5) busy 1 (whole 3) missing 4 None) (zeros 72) 2 0
unfolding rule_definitions
ground_2 = ((refl, refl), (refl, (refl, refl)), (refl, (refl, refl)), (refl, (refl, refl)), (refl, (refl, refl)))

-- P 3 by the cable with one phase: A 9, and 1 in each of the 69 others. P 0, as 1 × 25 × 625 / 500,000 is 0.03: nothing in a peak hour. Without peaks
-- 50 over 48 hours, of which the 12th and the 36th get one more
ground_2_apart :
    Gives (inputs_with three busy 1 (whole 78) missing 0 None) (three_days 1 1 3 3 3) 2 78
    × Gives (inputs_with thin busy 1 (whole 69) missing 0 None) (three_days 1 1 0 0 0) 2 69
    × Gives (inputs_with (agreed 5) quiet 1 (whole 50) missing 0 None) (set (set (replicate 48 1) 11 2) 35 2) 2 50
unfolding rule_definitions
ground_2_apart = ((refl, (refl, refl)), (refl, (refl, refl)), (refl, (refl, refl)))

-- as read, before the past, with R 1 and 5
ground_3 :
    Closes (inputs_with (agreed 5) busy 1 missing (hourly (three_days 2 4 30 6 3)) 4 (Some weights)) (three_days 2 4 30 6 3) 3 179 4 7 2
    × Gives (inputs_with five busy 5 missing (hourly (three_days 2 4 30 6 3)) 4 (Some weights)) (three_days 2 4 30 6 3) 3 179
unfolding rule_definitions
ground_3 = ((refl, refl), (refl, (refl, refl)))

-- V 14 - 4 by 1, 2, 3, 2 of 8: 1.25, 3.75, 7.5, 10. C 1 + 2. The same with R 1 by a longer past. By zeros 73 evenly over 72, of which the 36th gets
-- one more; all in one hour, where the past has all; N above K leaves nothing
ground_4 :
    Closes (inputs_with (agreed 5) busy 2 missing (whole 14) 4 (Some weights)) (three_days 0 1 3 4 2) 4 10 2 3 2
    × Gives (inputs_with (agreed 5) busy 1 missing (whole 10) 0 longer) (three_days 0 1 3 4 2) 4 10
    × Gives (inputs_with (agreed 5) busy 2 missing (whole 77) 4 empty) (set (replicate 72 1) 35 2) 4 73
    × Gives (inputs_with (agreed 5) busy 2 missing (whole 9) 4 (Some (three_days 0 0 0 0 3))) (three_days 0 0 0 0 5) 4 5
    × Gives (inputs_with (agreed 5) busy 2 missing (whole 3) 4 (Some weights)) (zeros 72) 4 0
unfolding rule_definitions
ground_4 = ((refl, refl), (refl, (refl, refl)), (refl, (refl, refl)), (refl, (refl, refl)), (refl, (refl, refl)))

-- a week for eight days: hours 168 to 191 are its hours 0 to 23. V 26 + 5 + 6, C 6 + 7 + 6, and 19 / 3 is 6. With R 1, and the longer past cut; N is
-- not taken away
ground_7 :
    Closes (inputs_with (agreed 5) eight_days 2 missing missing 4 (Some week)) (week ++ (5 ∷ (zeros 22 ++ (6 ∷ [])))) 7 37 6 19 3
    × Gives (inputs_with five busy 1 missing missing 0 longer) weights 7 8
unfolding rule_definitions
ground_7 = ((refl, refl), (refl, (refl, refl)))

-- 1 × 25 × 625 × 48 / 500,000 is 1.5: 2 over 48 hours, which fall on the 12th and the 36th. Of 72 hours it is 2.25, on the 18th and the 54th,
-- peaks or not. 2,000 × 250,000 × 900 × 48 / 500,000 is 43,200,000, 900,000 an hour, and a third of it with one phase.
-- 20 × 250 × 800 × 48 / 1,500,000 is 128
ground_9 :
    Closes (inputs_with thin quiet 3 missing missing 4 (Some weights)) (set (set (zeros 48) 11 1) 35 1) 9 2 1 1 2
    × Gives (inputs_with thin busy 1 missing missing 0 None) (set (set (zeros 72) 17 1) 53 1) 9 2
    × Gives (inputs_with (cabled 2000 250000 0 3) quiet 1 missing missing 0 None) (replicate 48 900000) 9 43200000
    × Gives (inputs_with (cabled 2000 250000 0 1) quiet 1 missing missing 0 None) (replicate 48 300000) 9 14400000
    × GroundAndVolume (inputs_with three quiet 1 missing missing 0 None) 9 128
unfolding rule_definitions
ground_9 = ((refl, refl), (refl, (refl, refl)), (refl, (refl, refl)), (refl, (refl, refl)), (refl, refl))

-- EXACT SHARES: hour h's is top / bottom
abbrev Exact : Inputs → ℕ → ℕ → ℕ → Type 0
Exact i h top bottom = (rules i).exact h ≡ record { top = top; bottom = bottom }

-- as read, hour 9; by the peak rule 15 over 3 peaks and 70 over 69 others; V 10 by a weight of 3 out of 8, and of none; by zeros, by one hour alone, and
-- evenly
exact_shares :
    Exact (inputs_with (agreed 5) busy 1 (hourly (three_days 1 7 100 3 4)) missing 0 None) 9 100 1
    × Exact (inputs_with (agreed 5) busy 1 (whole 85) missing 0 None) 9 15 3
    × Exact (inputs_with (agreed 5) busy 1 (whole 85) missing 0 None) 0 70 69
    × Exact (inputs_with (agreed 5) busy 2 missing (whole 10) 0 (Some weights)) 10 30 8
    × Exact (inputs_with (agreed 5) busy 2 missing (whole 10) 0 (Some weights)) 1 0 8
    × Exact (inputs_with (agreed 5) busy 2 missing (whole 73) 0 empty) 1 73 72
    × Exact (inputs_with (agreed 5) busy 2 missing (whole 5) 0 (Some (three_days 0 0 0 0 3))) 71 15 3
    × Exact (inputs_with (agreed 5) busy 3 missing missing 0 None) 1 360 72
unfolding rule_definitions
exact_shares = (refl, refl, refl, refl, refl, refl, refl, refl)
