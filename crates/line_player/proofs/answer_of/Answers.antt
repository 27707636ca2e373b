-- The point is the one that the opening leaves.
use Rattle.std.proofs.Common.{rules}
use Rattle.line_reader.specs.Modes.{is_opening}
use Rattle.line_player.proofs.Points.{opening_state}
use Rattle.line_player.proofs.answer_of.Goals as goal

pub returns-in-Some-Open : goal.returns-in-Some-Open
unfolding is_opening
returns-in-Some-Open c = opening_state c.args.read _ _ (search rules) c.open_by.ensures
