-- A refused closing leaves everything as it was, and what is known of an accepted one is what its code needs.
use Rattle.std.proofs.Common.{refl}
use Rattle.rules.specs.Calls.{marks_of, buffer_of}
use Rattle.rules.specs.Calls.Call.{closing}
use Rattle.model.specs.Model.{state, refused_figures}
use Rattle.model.proofs.Laws.{numbered, is_accepted, refused}
use Rattle.model.proofs.Closes.{settled, room_there}
use Rattle.closing.proofs.Leaves.{settled_does}
use Rattle.closing.proofs.close.Goals as goal

pub returns-in-Err : goal.returns-in-Err
unfolding buffer_of marks_of refused_figures
returns-in-Err c =
    let a = c.args in
    refused (state a.r a.store.now) (closing a.marks.now a.hours.now) c.in-Err.ensures (numbered c.in-Err.refusal)
    (rw (c.wrong_day.ensures a.marks.now c.survey_marks-survey.ensures) at c.refused_on.ensures)

pub close_settled-requires-clause-settled : goal.close_settled-requires-clause-settled
close_settled-requires-clause-settled c =
    let a = c.args in
    settled (state a.r a.store.now) a.marks.now a.hours.now (is_accepted _ _ c.in_default.ensures refl)

pub close_settled-requires-clause-room : goal.close_settled-requires-clause-room
close_settled-requires-clause-room c =
    let a = c.args in
    room_there (state a.r a.store.now) a.marks.now a.hours.now (is_accepted _ _ c.in_default.ensures refl)

pub returns : goal.returns
returns c =
    let a = c.args in
    settled_does (state a.r a.store.now) a.marks.now a.hours.now c.in_default.ensures c.close_settled.ensures
