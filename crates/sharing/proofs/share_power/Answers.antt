-- What a place gets is at most the power.
use Rattle.std.proofs.Common.{◌≤◌, arith}
use Rattle.sharing.proofs.Rule.{share_in_most}
use Rattle.sharing.proofs.share_power.Goals as goal

pub overflow_cast-result : goal.overflow_cast-result
overflow_cast-result c =
    let most : c.share_at.result ≤ c.from.result = rw c.share_at.ensures (share_in_most _ _ _) in
    omega (arith, c.from.ensures)
