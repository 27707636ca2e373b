-- What counts at the closing is the model's, and each reason is the one told.
use Rattle.std.proofs.Common.{ap, refl, ◌∙◌}
use Rattle.marks.specs.declared.Survey.{Survey}
use Rattle.first_ground.specs.Counts.{inputs_of}
use Rattle.first_ground.proofs.Marks.{peaks_are}
use Rattle.reasons.specs.Reasons.{reasons_of}
use Rattle.reasons.proofs.settled_reasons.Goals as goal

pub returns : goal.returns
unfolding reasons_of
returns c =
    let m = c.counts_of-counts.result in
    rw (
      ← c.counts_of-counts.ensures,
      c.clause_of.ensures,
      c.volume_read.ensures,
      c.power.ensures,
      ap (λ (x : Survey). x.peaks) m.surveyed ∙ peaks_are (inputs_of m) m.fit,
      c.past_month.ensures,
      c.compared.ensures,
    ) refl
