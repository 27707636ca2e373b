-- The point is the one that the call leaves.
use Rattle.line_player.specs.Played.{other_call_leaves}
use Rattle.line_player.proofs.Points.{makes_state}
use Rattle.line_player.proofs.other_answer.Goals as goal

pub returns : goal.returns
unfolding other_call_leaves
returns c = makes_state c.make_call.ensures
