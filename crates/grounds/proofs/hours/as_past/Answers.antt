-- The hours are those of the past in a buffer that was cleared, and the volume is their sum.
use Rattle.grounds.proofs.Laws.{past_found}
use Rattle.grounds.proofs.hours.as_past.Goals as goal

pub returns : goal.returns
returns c =
    past_found _ c.args.past.now c.args.t c.args.hours.now c.requires.1 c.clear.ensures c.copy_past.ensures c.sum_first.ensures
