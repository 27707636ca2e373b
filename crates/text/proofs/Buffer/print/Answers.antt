-- What the value displays stands behind what was written, in pieces, and whole where all of it has room.
use Rattle.std.proofs.Common.{arith}
use Rattle.std.proofs.lemmas.Result.{on_ok_weaker}
use Rattle.text.proofs.Pieces.{printed_behind, whole}
use Rattle.text.proofs.Buffer.print.Goals as goal

pub returns-clause-pieces : goal.returns-clause-pieces
returns-clause-pieces g c =
    let put = c.print_into-count in
    on_ok_weaker put.result.1
    (printed_behind g.row.N c.self.inside.len _ _ _ _ c.self.inside.bytes _ _ _ _ c.self.view_is c.self.invariant c.self.told
    (omega (arith, c.self.invariant)) (omega (arith, c.self.told)) put.auto.bytes put.ensures.fits (omega arith))
    put.ensures.pieces

pub returns-clause-whole : goal.returns-clause-whole
returns-clause-whole g c = on_ok_weaker c.print_into-count.result.1 (whole g.row.N _ _ _) (returns-clause-pieces g c)
