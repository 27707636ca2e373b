-- A closing without a refusal is accepted.
use Rattle.std.proofs.Common.{refl}
use Rattle.model.specs.Model.{state}
use Rattle.model.proofs.Laws.{is_accepted}
use Rattle.model.proofs.Closes.{settled, room_there}
use Rattle.reasons.proofs.reasons_of.Goals as goal

pub settled_reasons-requires-clause-settled : goal.settled_reasons-requires-clause-settled
settled_reasons-requires-clause-settled c =
    let a = c.args in
    settled (state a.r a.store.now) a.marks.now a.hours.now (is_accepted _ _ c.in-Ok.ensures refl)

pub settled_reasons-requires-clause-room : goal.settled_reasons-requires-clause-room
settled_reasons-requires-clause-room c =
    let a = c.args in
    room_there (state a.r a.store.now) a.marks.now a.hours.now (is_accepted _ _ c.in-Ok.ensures refl)
