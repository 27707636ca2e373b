-- The numbers of the calls that read a meter, and what they leave, whichever meter it is. Assumes nothing.
use Prim.Native.Nat.{ℕ}
use mathlib.Core.Path.{◌≡◌, refl}
use mathlib.Core.Bool.{false}
use mathlib.Core.List.{List}
use lib.ListN.{length}
use Rattle.calendar.proofs.Laws.{open_high}
use Rattle.store.proofs.Laws.{written_in_lem}
use Rattle.record.specs.declared.Record.{Record}
use Rattle.record.specs.Record.{given_as, with_readings}
use Rattle.store.specs.Store.{with_hours}
use Rattle.model.specs.Refusals.{refuse, not_month, hour_above, volume_above, reading_number, own_refusal}
use Rattle.model.specs.Model.{state, refusal, after_reading, accept}
use Rattle.readings.specs.declared.Meter.{Meter}
use Rattle.readings.specs.declared.Meter.TheVariants.{Billing, Control}
use Rattle.readings.specs.Meters.{row_of, with_reading, hours_call, volume_call, refuse_meter}

pub hours_number : (m : Meter) (r : Record) (store hs : List ℕ)
    → refusal (state r store) (hours_call m hs)
    ≡ refuse_meter (length store) r m 1 (refuse (not_month r hs) 23 (refuse (hour_above hs) 24 0))
unfolding refusal own_refusal reading_number
hours_number Billing r store hs = refl
hours_number Control r store hs = refl

pub hours_left : (m : Meter) (r : Record) (store hs : List ℕ)
    → accept (state r store) (hours_call m hs)
    ≡ state (with_readings r (with_reading m r.readings (given_as 0))) (with_hours (row_of m) hs store)
unfolding accept after_reading
hours_left Billing r store hs = refl
hours_left Control r store hs = refl

pub volume_number : (m : Meter) (r : Record) (store : List ℕ) (v : ℕ)
    → refusal (state r store) (volume_call m v)
    ≡ refuse_meter (length store) r m 2 (refuse false 23 (refuse (volume_above r v) 24 0))
unfolding refusal own_refusal reading_number
volume_number Billing r store v = refl
volume_number Control r store v = refl

pub volume_left : (m : Meter) (r : Record) (store : List ℕ) (v : ℕ)
    → accept (state r store) (volume_call m v) ≡ state (with_readings r (with_reading m r.readings (given_as v))) store
unfolding accept after_reading
volume_left Billing r store v = refl
volume_left Control r store v = refl

-- what the proof of a reading of hours uses
pub ruleset hours_laws = (hours_number, hours_left, open_high, written_in_lem)
