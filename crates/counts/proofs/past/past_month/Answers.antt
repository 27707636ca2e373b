-- A valid record's open month is within the calendar.
use Rattle.std.proofs.Common.{◌∙◌}
use Rattle.counts.proofs.PastMonths.{year_some, month_some, row_some, same_month, latest_month}
use Rattle.counts.proofs.past.past_month.Goals as goal

pub overflow_sub-same : goal.overflow_sub-same
overflow_sub-same c = year_some _ c.requires

pub overflow_sub-row : goal.overflow_sub-row
overflow_sub-row c = month_some _ c.requires

pub bounds-r-row : goal.bounds-r-row
bounds-r-row c = row_some _ c.requires

pub returns-then-r-row : goal.returns-then-r-row
returns-then-r-row c = same_month _ c.if-r-row.true

pub returns : goal.returns
returns c = c.date_of.ensures.month ∙ latest_month _ c.requires c.if-r-row.false
