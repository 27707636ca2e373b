-- What the opening and the closing promise makes the month, by the laws of `Months`.
use Rattle.first_month.proofs.Months.{opened_only, opened_and_closed}
use Rattle.first_month.proofs.open_and_close.Goals as goal

pub returns-then-first-ne0 : goal.returns-then-first-ne0
returns-then-first-ne0 c =
    let a = c.args in
    opened_only (record { asked = a.asked; date = a.date; currents = a.currents.now; place = a.place }) a.store.now a.marks.now
    a.hours.now _ c.open_point-first.ensures c.if-first-ne0.true

pub returns : goal.returns
returns c =
    let a = c.args in
    opened_and_closed (record { asked = a.asked; date = a.date; currents = a.currents.now; place = a.place }) a.store.now _
    a.marks.now a.hours.now c.open_point-first.result c.open_point-first.ensures c.if-first-ne0.false c.close.ensures
