-- Every hour is chosen, and the numbers fit the sharing.
use Rattle.std.proofs.Common.{◌∙◌}
use Rattle.grounds.proofs.Laws.{shares_fit, shares_found}
use Rattle.grounds.proofs.hours.by_past.Goals as goal

pub unwrap-requires : goal.unwrap-requires
unwrap-requires c =
    c.share_by_past.ensures.done
    ∙ shares_fit _ _ _ _ c.requires.fits.0 c.requires.fits.1 c.requires.room.0 c.requires.room.1 c.requires.room.2

pub returns : goal.returns
returns c =
    shares_found c.args.past.now _ _ c.args.hours.now c.requires.fits.0 c.requires.fits.1 c.requires.room.0 c.requires.room.1
    c.requires.room.2 _ c.share_by_past.ensures
