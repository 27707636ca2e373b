-- An hour inside writes its entry behind those before it, and an hour outside writes none.
use Rattle.std.proofs.Common.{sym, ◌∙◌}
use Rattle.parts.proofs.Loops.{writing_none, writing_yes, writing_no}
use Rattle.parts.proofs.fill.fill_front.Goals as goal
use Rattle.parts.proofs.fill.fill_front.Goals.{then-lies_inside, else-lies_inside}

pub loop-h-init : goal.loop-h-init
loop-h-init g c = writing_none

pub loop-h-preserved : goal.loop-h-preserved
loop-h-preserved g c =
    let is = sym c.lies_inside.ensures in
    elim c.if-lies_inside.branch [
      | then-lies_inside w ↦
          rw (w.front-is, w.k-is, w.write_entry.ensures)
          (writing_yes c.loop-h.invariant (is ∙ w.if-lies_inside.true) c.loop-h-test.true c.index-entries-h.is)
      | else-lies_inside w ↦ rw (w.front-is, w.k-is) (writing_no c.loop-h.invariant (is ∙ w.if-lies_inside.false))
    ]
