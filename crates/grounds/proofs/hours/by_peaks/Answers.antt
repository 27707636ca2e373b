-- The volume is within the limits of a month.
use Rattle.std.proofs.Common.{length, ◌∙◌}
use Rattle.grounds.proofs.Laws.{month_there, month_found}
use Rattle.grounds.proofs.hours.by_peaks.Goals as goal

pub unwrap-requires : goal.unwrap-requires
unwrap-requires c =
    c.peak_rule.ensures.done ∙ month_there _ _ _ c.requires.0 c.requires.1 c.requires.2 c.requires.3

pub returns : goal.returns
returns c =
    month_found _ c.args.volume.0 (length c.args.marks.now) c.args.hours.now _ c.requires.0 c.requires.1 c.requires.2
    c.requires.3 c.peak_rule.ensures
