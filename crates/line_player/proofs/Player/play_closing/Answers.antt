-- The point is the one that the closing leaves.
use Rattle.line_player.specs.Played.{other_call_leaves}
use Rattle.line_player.proofs.Points.{makes_state}
use Rattle.line_player.proofs.Player.play_closing.Goals as goal

pub returns-in-Some-clause-point : goal.returns-in-Some-clause-point
unfolding other_call_leaves
returns-in-Some-clause-point g c = rw c.answered.ensures.point (makes_state c.make_call-a.ensures)

pub returns-in_default-clause-point : goal.returns-in_default-clause-point
unfolding other_call_leaves
returns-in_default-clause-point g c = rw c.answered.ensures.point (makes_state c.make_call-a.ensures)
