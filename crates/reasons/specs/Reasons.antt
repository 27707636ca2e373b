-- WHY A MONTH IS CLOSED ON ITS GROUND: what the rules look at (document 01, 'Closing'), before the closing.
use Rattle.std.specs.Prelude.{ℕ, ◌-◌, cond, ◌&&◌, List, Option, None, Some, option_map, eqb, leb, ltb}
use Rattle.sharing.specs.Shares.{shares, stretched}
use Rattle.marks.specs.Marks.{capacity_sum}
use Rattle.record.specs.declared.Record.{Record}
use Rattle.record.specs.Record.{is_set, kwh}
use Rattle.rules.specs.Rules.{Measured, missing, hourly, whole, PastHours, Inputs, hours_in, peaks_in, point_power}
use Rattle.model.specs.Model.{State, past_month, inputs}
use Rattle.rules.specs.declared.Clause.{Clause}
use Rattle.rules.specs.declared.Clause.TheVariants.{Missed, DeniedTwice, OutOfService}
use Rattle.rules.specs.declared.Reasons.{Reasons}

-- the point of document 000: none with a billing reading; else 178 with denials 2; else 179 out of service; else 166
unfoldable pub clause_of : Record → Option Clause
clause_of r =
    cond (is_set r.readings.billing.given) None
    (cond (eqb r.service.denials 2) (Some DeniedTwice) (cond (is_set r.service.serving) (Some Missed) (Some OutOfService)))

-- the reading in a volume that V comes from: B, or without a billing reading K; none where V comes from no such reading
unfoldable pub volume_read : Measured → Measured → Option ℕ
volume_read (whole b) control = Some b
volume_read (hourly hs) control = None
volume_read missing (whole k) = Some k
volume_read missing (hourly hs) = None
volume_read missing missing = None

-- C', which is C over ground 4's hours, where ground 6 asks for it: control, integral, V = max(0, K - N); past; R at least 3; n > 0; else none
unfoldable pub compared_past : Inputs → ℕ → PastHours → Option ℕ
compared_past i v None = None
compared_past i v (Some hs) =
    cond (leb 3 i.counted && ltb 0 (peaks_in i)) (Some (capacity_sum i.marks (shares v (stretched hs (hours_in i))))) None

unfoldable pub compared_by : Inputs → Measured → Measured → Option ℕ
compared_by i missing (whole k) = compared_past i (k - i.neighbour) i.past
compared_by i missing (hourly hs) = None
compared_by i missing missing = None
compared_by i (hourly hs) control = None
compared_by i (whole b) control = None

unfoldable pub compared_in : Inputs → Option ℕ
compared_in i = compared_by i i.billing i.control

-- THE REASONS of a closing with these marks: the point of document 000, B or K, N, P, n, the run and the denials, R, the past month and C'
unfoldable pub reasons_of : State → List ℕ → Reasons
reasons_of s marks =
    let i : Inputs = inputs s marks in
    record {
      clause = clause_of s.point;
      reading = option_map kwh (volume_read i.billing i.control);
      neighbour = kwh i.neighbour;
      power = record { 0 = point_power i };
      peaks = peaks_in i;
      run = s.point.service.run;
      denials = s.point.service.denials;
      counted = i.counted;
      past = past_month s.point;
      compared = option_map kwh (compared_in i);
    }
