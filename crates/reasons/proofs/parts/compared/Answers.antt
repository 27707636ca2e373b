-- By the two readings.
use Rattle.std.proofs.Common.{◌≡◌, ◌-◌, ap, sym, ◌∙◌, arith}
use Rattle.std.specs.Prelude.{option_map}
use Rattle.record.specs.Record.{kwh}
use Rattle.first_ground.specs.Metered.{measured_of}
use Rattle.first_ground.specs.Counts.{inputs_of}
use Rattle.reasons.specs.Reasons.{compared_by}
use Rattle.reasons.proofs.Laws.{compared_as, compared_hours, compared_volume}
use Rattle.reasons.proofs.parts.compared.Goals as goal

pub returns-in-Volume-control : goal.returns-in-Volume-control
unfolding compared_by
returns-in-Volume-control c =
    let k = c.in-Volume-control.k.0 in
    let most = c.args.counts.now.fit.control.volume k (ap measured_of c.in-Volume-control.is) in
    let left : c.less_neighbour.result.0 ≡ k - c.args.counts.now.neighbour.0 = omega (arith, most) in
    (rw left at c.compared_past.ensures)
    ∙ ap (option_map kwh) (sym (compared_as (inputs_of c.args.counts.now) (ap measured_of c.in-Missing.is) (ap measured_of c.in-Volume-control.is)))

pub returns-in-Missing-control : goal.returns-in-Missing-control
unfolding compared_by
returns-in-Missing-control c =
    ap (option_map kwh) (sym (compared_as (inputs_of c.args.counts.now) (ap measured_of c.in-Missing.is) (ap measured_of c.in-Missing-control.is)))

pub returns-in-Hours-control : goal.returns-in-Hours-control
unfolding compared_by
returns-in-Hours-control c =
    ap (option_map kwh) (sym (compared_as (inputs_of c.args.counts.now) (ap measured_of c.in-Missing.is) (ap measured_of c.in-Hours-control.is)))

pub returns-in-Hours : goal.returns-in-Hours
returns-in-Hours c = ap (option_map kwh) (sym (compared_hours (inputs_of c.args.counts.now) (ap measured_of c.in-Hours.is)))

pub returns-in-Volume : goal.returns-in-Volume
returns-in-Volume c = ap (option_map kwh) (sym (compared_volume (inputs_of c.args.counts.now) (ap measured_of c.in-Volume.is)))
