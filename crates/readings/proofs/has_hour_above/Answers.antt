-- The order of the hours' type is that of their numbers.
use Rattle.std.proofs.Common.{not, ap, ◌∙◌}
use Rattle.numbers.proofs.Items.{none_above_items}
use Rattle.readings.proofs.has_hour_above.Goals as goal

pub returns : goal.returns
returns c = ap not (c.none_above.ensures ∙ none_above_items 1000000 c.args.hours.now)
