-- The words of both parts of the store, tested by the order of their type.
use Rattle.std.proofs.Common.{◌∙◌}
use Rattle.numbers.proofs.Items.{none_above_items}
use Rattle.store.proofs.Laws.{fits_parts}
use Rattle.store.proofs.store_fits.Goals as goal

pub returns : goal.returns
returns c =
    fits_parts _ c.if-store-ne10416.false (c.none_above.ensures ∙ none_above_items _ _)
    (c.none_above-2.ensures ∙ none_above_items _ _)
