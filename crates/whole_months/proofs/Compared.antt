-- C' and a whole answer of the reasons, over January 2023. By computation; assumes nothing.
use mathlib.Core.Path.{◌≡◌, refl}
use mathlib.Core.List.{List}
use Prim.Native.Nat.{ℕ}
use lib.ListN.{set}
use Rattle.numbers.specs.Lists.{zeros}
use Rattle.record.specs.Record.{kwh, given_as, no_readings, fresh_service, with_serving, with_denials, with_control, with_first}
use Rattle.rules.specs.Rules.{missing, hourly, whole}
use Rattle.model.specs.Model.{state}
use Rattle.std.specs.Prelude.{Some}
use Rattle.rules.specs.declared.Clause.TheVariants.{DeniedTwice}
use Rattle.reasons.specs.Reasons.{compared_in, reasons_of}
use Rattle.reasons.proofs.Examples.{on, contract, inputs_with, reason_definitions}
use Rattle.std.specs.Prelude.{None}

-- one peak and capacity hour, hour 10; and a past of 5 kWh there and 15 in hour 20
abbrev marked : List ℕ
marked = set (zeros 744) 10 3

abbrev row : List ℕ
row = set (set (zeros 744) 10 5) 20 15

-- V 16 by the past gives hour 10 a quarter; C' is 0 with N above K; there is none with R 2, without peak hours, without a past, and with any other
-- reading
sums :
    (compared_in (inputs_with marked 3 missing (whole 20) 4 (Some row)) ≡ Some 4)
    × (compared_in (inputs_with marked 2 missing (whole 20) 4 (Some row)) ≡ None)
    × (compared_in (inputs_with (set (zeros 744) 10 2) 3 missing (whole 20) 4 (Some row)) ≡ None)
    × (compared_in (inputs_with marked 3 missing (whole 20) 4 None) ≡ None)
    × (compared_in (inputs_with marked 3 missing (whole 20) 24 (Some row)) ≡ Some 0)
    × (compared_in (inputs_with marked 3 (whole 20) (whole 20) 4 (Some row)) ≡ None)
    × (compared_in (inputs_with marked 3 missing (hourly row) 4 (Some row)) ≡ None)
    × (compared_in (inputs_with marked 3 missing missing 4 (Some row)) ≡ None)
unfolding reason_definitions
sums = (refl, refl, refl, refl, refl, refl, refl, refl)

-- out of service with two denials, K 20, N 4, and January 2022 in row 0
whole_answer :
    reasons_of (state (record {
      opened = 1;
      contract = contract;
      date = on 2023 1;
      service = with_denials (with_serving fresh_service 0) 2;
      past = record { years = set (zeros 12) 0 2022; latest = 24265 };
      readings = with_first (with_control no_readings (given_as 20)) (given_as 4);
      total = kwh 0;
    }) row) marked
    ≡ record {
      clause = Some DeniedTwice;
      reading = Some (kwh 20);
      neighbour = kwh 4;
      power = record { 0 = 3 };
      peaks = 1;
      run = 0;
      denials = 2;
      counted = 3;
      past = Some (on 2022 1);
      compared = Some (kwh 4);
    }
unfolding reason_definitions
whole_answer = refl
