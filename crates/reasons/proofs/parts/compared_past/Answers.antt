-- Where R and n ask for it, C' is that of the rules.
use Rattle.std.proofs.Common.{ap, ◌∙◌}
use Rattle.marks.specs.declared.Survey.{Survey}
use Rattle.first_ground.specs.Metered.{lent_past}
use Rattle.first_ground.specs.Counts.{inputs_of}
use Rattle.first_ground.proofs.Marks.{peaks_are}
use Rattle.reasons.proofs.Laws.{compared_due, compared_not, compared_none}
use Rattle.reasons.proofs.parts.compared_past.Goals as goal

pub returns-in_err-past : goal.returns-in_err-past
returns-in_err-past c = c.from_residual.ensures ∙ compared_none (inputs_of c.args.counts.now) _ (ap lent_past c.in_err-past.was)

pub returns-then-not-due : goal.returns-then-not-due
returns-then-not-due c =
    let m = c.args.counts.now in
    compared_not (inputs_of m) _ (ap lent_past c.in_ok-past.was) (ap (λ (x : Survey). x.peaks) m.surveyed ∙ peaks_are (inputs_of m) m.fit)
    c.if-not-due.true

pub returns : goal.returns
returns c =
    let m = c.args.counts.now in
    compared_due (inputs_of m) _ (ap lent_past c.in_ok-past.was) (ap (λ (x : Survey). x.peaks) m.surveyed ∙ peaks_are (inputs_of m) m.fit)
    c.if-not-due.false c.by_past.ensures.hours c.capacity_sum.ensures
