-- The days and the counts are those of the first k days.
use Rattle.std.proofs.Common.{◌≡◌, ◌*◌, ◌≤◌}
use Rattle.numbers.specs.Lists.{sum_to}
use Rattle.marks.specs.Marks.{day_of, is_crowded, is_doubled, is_unmatched, first_day, working_days}
use Rattle.marks.proofs.days.survey_days.Given as goal

abbrev pub invariant-loop-k : goal.invariant-loop-k
invariant-loop-k l =
    (l.survey.days ≤ l.k)
    × (l.survey.peaks ≤ 24 * l.k)
    × (l.survey.high ≡ l.high)
    × (l.survey.crowded_day ≡ first_day is_crowded l.marks l.k)
    × (l.survey.doubled_day ≡ first_day is_doubled l.marks l.k)
    × (l.survey.unmatched_day ≡ first_day is_unmatched l.marks l.k)
    × (l.survey.peaks ≡ sum_to (λ j. (day_of l.marks j).peaks) l.k)
    × (l.survey.days ≡ working_days l.marks l.k)
