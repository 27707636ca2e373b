-- What is known of the closing keeps the numbers within their limits, and what it leaves in parts is what the model leaves.
use Rattle.std.proofs.Common.{arith, ap}
use Rattle.calendar.proofs.Laws.{open_high}
use Rattle.marks.specs.declared.Survey.{Survey}
use Rattle.marks.specs.Marks.{survey_of, survey_with}
use Rattle.store.proofs.Laws.{length_row}
use Rattle.model.specs.Model.{state}
use Rattle.model.proofs.Closes.{closing_right}
use Rattle.closing.proofs.Leaves.{figures_whole, closes_with}
use Rattle.closing.proofs.close_settled.Goals as goal

pub point_after-after-requires : goal.point_after-after-requires
point_after-after-requires c =
    let k = c.requires.settled in
    (k.month, k.run, k.total, rw (c.first_ground-found.ensures.volume, c.counts_of.ensures) (closing_right k).most)

pub store_after-requires : goal.store_after-requires
store_after-requires c =
    let k = c.requires.settled in (
      k.words,
      k.month,
      rw (c.first_ground-found.ensures.hours, c.counts_of.ensures)
          (length_row _ (omega (arith, (closing_right k).long, open_high c.args.r.date))),
    )

pub returns : goal.returns
unfolding survey_of survey_with
returns c =
    let a = c.args in
    let figures = c.figures_of-figures.ensures in
    closes_with (state a.r a.store.now) a.marks.now (closing_right c.requires.settled) (open_high a.r.date)
    (rw c.counts_of.ensures at c.first_ground-found.ensures) c.capacity_sum-sum.ensures (ap (λ (x : Survey). x.days) c.requires.surveyed)
    (figures_whole _ _ _ figures.found_value.0 figures.found_value.1 figures.capacity_value figures.sum_value.0 figures.sum_value.1 figures.no_wrong_day)
    c.is_measured-new.ensures c.point_after-after.ensures c.store_after.ensures
