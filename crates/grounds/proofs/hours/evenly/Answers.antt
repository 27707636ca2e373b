-- Every hour of the month is chosen.
use Rattle.std.proofs.Common.{◌∙◌}
use Rattle.grounds.proofs.Laws.{even_there, even_found}
use Rattle.grounds.proofs.hours.evenly.Goals as goal

pub unwrap-requires : goal.unwrap-requires
unwrap-requires c =
    c.share_evenly.ensures.done ∙ even_there _ _ _ c.requires.0 c.requires.1 c.requires.2 c.requires.3

pub returns : goal.returns
returns c =
    even_found _ c.args.volume.0 c.args.t c.args.hours.now c.requires.0 c.requires.1 c.requires.2 c.requires.3
    c.share_evenly.ensures
