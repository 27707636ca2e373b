-- Hour h of the buffer becomes the past's.
use Rattle.std.proofs.Common.{arith}
use Rattle.numbers.proofs.Laws.{filled_more}
use Rattle.grounds.proofs.hours.copy_past.Goals as goal

pub loop-h-preserved : goal.loop-h-preserved
loop-h-preserved c =
    (omega arith, filled_more c.loop-h.invariant.1 (omega arith) c.past_at.ensures)
