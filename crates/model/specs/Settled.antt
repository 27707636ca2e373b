-- What is known of a closing that is accepted, of its record, store and marks: by numbers 1 to 3 and 40 to 46, and by the limits of a record
-- that passes 2. The law `settled` gives it; of its hour buffer only the length counts, by `room_there`.
use Rattle.std.specs.Prelude.{ℕ, ◌≤◌, ◌≡◌, true, List, length}
use Rattle.calendar.specs.Calendar.{is_month, open_hours}
use Rattle.units.specs.Volumes.{greatest_total}
use Rattle.record.specs.declared.Record.{Record}
use Rattle.validity.specs.Valid.{valid}
use Rattle.store.specs.Store.{store_fits}
use Rattle.rules.specs.Right.{InputsFit}
use Rattle.model.specs.Model.{state, inputs}

pub record Settled (r : Record) (store marks : List ℕ) : Type 0 where
  pub words : length store ≡ 10416
  pub sound : valid r ≡ true
  pub month : is_month r.date ≡ true
  pub long : length marks ≡ open_hours r.date
  pub fits : store_fits store ≡ true
  -- what counts is within the limits of the rules
  pub counts : InputsFit (inputs (state r store) marks)
  pub run : r.service.run ≤ 12000
  pub total : r.total.0 ≤ greatest_total
