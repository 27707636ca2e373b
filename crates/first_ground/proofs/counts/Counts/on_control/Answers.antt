-- By the control reading.
use Rattle.std.proofs.Common.{ap}
use Rattle.first_ground.specs.Metered.{measured_of}
use Rattle.first_ground.specs.Counts.{inputs_of}
use Rattle.first_ground.proofs.Firsts.{three_outcome, volume_outcome, past_outcome}
use Rattle.first_ground.proofs.counts.Counts.on_control.Goals as goal

pub returns-in-Missing : goal.returns-in-Missing
returns-in-Missing c = past_outcome (inputs_of c.args.self.now) (ap measured_of c.in-Missing.is) c.on_past.ensures

pub returns-in-Hours : goal.returns-in-Hours
returns-in-Hours c = three_outcome (inputs_of c.args.self.now) (ap measured_of c.in-Hours.is) c.as_read.ensures

pub returns-in-Volume : goal.returns-in-Volume
returns-in-Volume c =
    volume_outcome (inputs_of c.args.self.now) (ap measured_of c.in-Volume.is) (rw c.less_neighbour.ensures at c.on_control_past.ensures)
