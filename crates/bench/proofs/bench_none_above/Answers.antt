-- The order of the words' type is that of their numbers.
use Rattle.std.proofs.Common.{◌∙◌}
use Rattle.numbers.proofs.Items.{none_above_items}
use Rattle.bench.proofs.bench_none_above.Goals as goal

pub returns : goal.returns
returns c = c.none_above.ensures ∙ none_above_items _ _
