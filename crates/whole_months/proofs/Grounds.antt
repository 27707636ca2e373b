-- Ground 6, and ground 5 in its place, and what a closing returns, over January 2023. By computation; assumes nothing.
use mathlib.Core.Path.{◌≡◌, refl}
use lib.ListN.{set}
use Rattle.numbers.specs.Lists.{zeros}
use Rattle.rules.specs.Rules.{missing, whole, as_read, figures}
use Rattle.rules.proofs.Examples.{agreed, inputs_with, marked, past, GroundAndVolume, rule_definitions}

-- A 1, n 1, d 1, C' 7: by the past; with P 7, A 7: the peak rule
ground_6 : GroundAndVolume (inputs_with (agreed 1) marked 3 missing (whole 9) 2 past) 6 7
    × GroundAndVolume (inputs_with (agreed 7) marked 3 missing (whole 9) 2 past) 5 7
unfolding rule_definitions
ground_6 = ((refl, refl), (refl, refl))

-- C 4 + 3 in the capacity hours of two days, d 2, capacity 7 / 2 rounded half up
returned :
    figures (as_read 1 (set (set (zeros 744) 10 4) 34 3)) (set marked 34 2)
    ≡ record { ground = 1; volume = record { 0 = 7 }; capacity = record { 0 = 4 }; sum = record { 0 = 7 }; days = 2; wrong_day = 0 }
unfolding rule_definitions
returned = refl
