-- What counts at a closing, as the code holds it, is the rules' `Inputs`.
use Rattle.std.specs.Prelude.{ℕ, List, Option, None, Some}
use Rattle.std.specs.Borrow.{Bor}
use Rattle.units.specs.declared.Kwh.{Kwh}
use Rattle.contract.specs.declared.Contract.{Contract}
use Rattle.rules.specs.Rules.{Measured, missing, hourly, whole, PastHours, Inputs}
use Rattle.first_ground.specs.declared.counts.Metered.{Metered}
use Rattle.first_ground.specs.declared.counts.Metered.TheVariants.{Missing, Hours, Volume}

-- a reading
abbrev pub measured_of : Metered → Measured
measured_of Missing = missing
measured_of (Hours hs) = hourly hs.now
measured_of (Volume v) = whole v.0

-- the past
abbrev pub lent_past : Option (Bor (List ℕ)) → PastHours
lent_past None = None
lent_past (Some hs) = Some hs.now

abbrev pub counting : Contract → Bor (List ℕ) → ℕ → Metered → Metered → Kwh → Option (Bor (List ℕ)) → Inputs
counting c marks counted billing control neighbour past =
    record {
      contract = c;
      marks = marks.now;
      counted = counted;
      billing = measured_of billing;
      control = measured_of control;
      neighbour = neighbour.0;
      past = lent_past past;
    }
