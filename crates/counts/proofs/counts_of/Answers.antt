-- Each part is the model's, so that the rules' limits hold of them.
use Rattle.std.proofs.Common.{sym, subst, lit≤, ◌∙◌}
use Rattle.store.proofs.Laws.{lent_there}
use Rattle.rules.specs.Right.{InputsFit}
use Rattle.counts.proofs.Laws.{marks_few, inputs_are}
use Rattle.counts.proofs.counts_of.Goals as goal

pub invariant_of-result : goal.invariant_of-result
invariant_of-result c =
    let k = c.requires.settled in
    let billing_row = c.row_hours.ensures ∙ lent_there _ _ _ k.words (lit≤ tt) (marks_few k) in
    let control_row = c.row_hours-2.ensures ∙ lent_there _ _ _ k.words (lit≤ tt) (marks_few k) in
    let same = inputs_are k billing_row control_row c.counted.ensures c.metered.ensures c.metered-2.ensures c.neighbour_volume.ensures c.past_hours.ensures in
    record { fit = subst InputsFit (sym same) k.counts; surveyed = c.requires.surveyed }

pub returns : goal.returns
returns c =
    let k = c.requires.settled in
    let billing_row = c.row_hours.ensures ∙ lent_there _ _ _ k.words (lit≤ tt) (marks_few k) in
    let control_row = c.row_hours-2.ensures ∙ lent_there _ _ _ k.words (lit≤ tt) (marks_few k) in
    inputs_are k billing_row control_row c.counted.ensures c.metered.ensures c.metered-2.ensures c.neighbour_volume.ensures c.past_hours.ensures
