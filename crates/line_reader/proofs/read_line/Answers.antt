-- One token more is one fewer to read, and leaves less of the line.
use Rattle.std.proofs.Common.{sym, ◌∙◌, ap, suc, length}
use Rattle.line_reader.specs.Lines.{LineRead, line_read, fresh_line, read_tokens, read_line}
use Rattle.line_reader.proofs.Finished.{tokens_last}
use Rattle.line_reader.proofs.Ends.{token_less, one_fewer}
use Rattle.line_reader.proofs.read_line.Goals as goal

pub loop-s-init : goal.loop-s-init
unfolding read_line read_tokens
loop-s-init c =
    let fresh = line_read fresh_line c.args.numbers.now c.args.group.now in
    let n = length c.args.line.now in
    (suc n, rw c.fresh_line-s.ensures (tokens_last n c.args.hours c.args.first c.args.line.now fresh))

pub loop-s-smaller : goal.loop-s-smaller
loop-s-smaller c =
    let read = line_read c.loop-s.s c.loop-s.numbers c.loop-s.group in
    let on = sym c.is_finished.ensures ∙ c.loop-s-test.true in
    let e = ap (λ (r : LineRead). r.line) c.read_token.ensures in
    rw e (token_less c.args.hours c.args.first c.args.line.now read on)

pub loop-s-preserved : goal.loop-s-preserved
loop-s-preserved c =
    let read = line_read c.loop-s.s c.loop-s.numbers c.loop-s.group in
    let on = sym c.is_finished.ensures ∙ c.loop-s-test.true in
    rw c.read_token.ensures (one_fewer c.args.hours c.args.first c.args.line.now read on _ _ c.loop-s.invariant.0 c.loop-s.invariant.1)
