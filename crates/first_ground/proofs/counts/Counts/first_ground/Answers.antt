-- By the billing reading.
use Rattle.std.proofs.Common.{ap}
use Rattle.first_ground.specs.Metered.{measured_of}
use Rattle.first_ground.specs.Counts.{inputs_of}
use Rattle.first_ground.proofs.Firsts.{one_outcome, two_outcome, control_outcome}
use Rattle.first_ground.proofs.counts.Counts.first_ground.Goals as goal

pub returns-in-Missing : goal.returns-in-Missing
returns-in-Missing c = control_outcome (inputs_of c.args.self.now) (ap measured_of c.in-Missing.is) c.on_control.ensures

pub returns-in-Hours : goal.returns-in-Hours
returns-in-Hours c = one_outcome (inputs_of c.args.self.now) (ap measured_of c.in-Hours.is) c.as_read.ensures

pub returns-in-Volume : goal.returns-in-Volume
returns-in-Volume c =
    two_outcome (inputs_of c.args.self.now) (ap measured_of c.in-Volume.is)
    (rw (c.less_neighbour.ensures, c.power.ensures) at c.by_peaks.ensures)
