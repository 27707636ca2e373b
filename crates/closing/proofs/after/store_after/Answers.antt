-- The month's row is one of the twelve, and the store keeps its length.
use Rattle.calendar.proofs.Laws.{limits}
use Rattle.model.proofs.Closes.{row_few}
use Rattle.closing.proofs.after.store_after.Goals as goal

pub overflow_sub-row : goal.overflow_sub-row
overflow_sub-row c = (limits _ c.requires.1).first

pub keep_hours-requires : goal.keep_hours-requires
keep_hours-requires c = (c.requires.0, row_few _ c.requires.1, c.requires.2)
