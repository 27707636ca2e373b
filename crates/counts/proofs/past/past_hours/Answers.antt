-- The past month is in its calendar month's row.
use Rattle.std.proofs.Common.{◌≡◌, ◌-◌, refl, sym, ◌∙◌, arith}
use Rattle.calendar.proofs.Laws.{open_high}
use Rattle.store.specs.Store.{row_part}
use Rattle.store.proofs.Laws.{lent_there}
use Rattle.model.specs.Model.{past_in}
use Rattle.counts.proofs.PastMonths.{past_limits}
use Rattle.counts.proofs.past.past_hours.Goals as goal

pub returns-in_err-past : goal.returns-in_err-past
unfolding past_in
returns-in_err-past c = rw (c.from_residual.ensures, sym c.past_month.ensures ∙ c.in_err-past.was) refl

pub overflow_sub-row : goal.overflow_sub-row
overflow_sub-row c = (past_limits _ c.requires.0 (sym c.past_month.ensures ∙ c.in_ok-past.was)).0

pub returns : goal.returns
unfolding past_in
returns c =
    let d = c.in_ok-past.past in
    let l = past_limits _ c.requires.0 (sym c.past_month.ensures ∙ c.in_ok-past.was) in
    let lent : c.row_hours.result.now ≡ row_part c.args.store.now (d.month - 1) c.open_hours-t.result =
    c.row_hours.ensures ∙ lent_there _ _ _ c.requires.1 (omega (arith, l.1)) (omega (arith, c.open_hours-t.ensures, open_high d)) in
    rw (lent, c.open_hours-t.ensures, sym c.past_month.ensures ∙ c.in_ok-past.was) refl
