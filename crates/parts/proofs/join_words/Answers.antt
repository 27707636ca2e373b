-- An hour inside gets the next entry of the part, and an hour outside stays.
use Rattle.std.proofs.Common.{sym, ◌∙◌, arith}
use Rattle.std.proofs.lemmas.List.{set-get_or}
use Rattle.parts.proofs.Loops.{joining_none, joining_yes, joining_no, joining_end}
use Rattle.parts.proofs.join_words.Goals as goal
use Rattle.parts.proofs.join_words.Goals.{then-lies_inside, else-lies_inside}

pub loop-h-init : goal.loop-h-init
loop-h-init c = joining_none

pub loop-h-preserved : goal.loop-h-preserved
loop-h-preserved c =
    let is = sym c.lies_inside.ensures in
    elim c.if-lies_inside.branch [
      | then-lies_inside w ↦
          rw (w.hours-is, w.k-is) (joining_yes c.loop-h.invariant (is ∙ w.if-lies_inside.true) (omega arith) w.word_at.ensures)
      | else-lies_inside w ↦ rw (w.hours-is, w.k-is, set-get_or) (joining_no c.loop-h.invariant (is ∙ w.if-lies_inside.false) (omega arith))
    ]

pub returns : goal.returns
returns c = joining_end c.loop-h.invariant (omega arith)
