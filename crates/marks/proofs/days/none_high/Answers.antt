-- The order of the marks' type is that of their numbers.
use Rattle.std.proofs.Common.{◌∙◌}
use Rattle.numbers.proofs.Items.{none_above_items}
use Rattle.marks.proofs.days.none_high.Goals as goal

pub returns : goal.returns
returns c = c.none_above.ensures ∙ none_above_items 3 c.args.marks.now
