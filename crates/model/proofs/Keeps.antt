-- A point goes on: each accepted call that does not close the month leaves a record that passes number 2 and a store that passes 1 and 45,
-- given ones that did. Assumes nothing.
use Prim.Native.Nat.{ℕ, ◌+◌, ◌≤◌, ◌<◌}
use mathlib.Core.Path.{◌≡◌, refl}
use mathlib.Core.Bool.{Bool, true, false, not, cond, ◌&&◌, ◌||◌, true≢false}
use mathlib.Core.List.{List, []}
use native.Mathlib.Omega.{arith}
use borrow.Author.Tests.{eqb-true, eqb-false, ne_eqb, le-leb, ltb-false, not-false}
use lib.Dec.{eqb, lit≤, lit<}
use lib.ListN.{length}
use Rattle.numbers.specs.Lists.{none_above}
use Rattle.numbers.proofs.Laws.{by_cases, first_of, cond_most}
use Rattle.calendar.specs.declared.Date.{Date}
use Rattle.calendar.specs.Calendar.{is_month, is_end, month_number, is_month_number}
use Rattle.calendar.proofs.Laws.{number_limits}
use Rattle.record.specs.declared.Service.{Service}
use Rattle.record.specs.declared.Readings.{Readings}
use Rattle.record.specs.declared.Record.{Record}
use Rattle.record.specs.Record.{not_given, given_as, with_service, with_readings}
use Rattle.record.specs.Record.{with_billing, with_control, with_first, with_second}
use Rattle.validity.specs.Valid.{volume_limit, valid}
use Rattle.validity.proofs.Laws.{Valid, valid_parts, valid_from, ServiceFits, service_parts, service_from, ReadingsFit, readings_parts}
use Rattle.validity.proofs.Laws.{readings_from, missing_fits, hours_fit, volume_fits}
use Rattle.store.specs.Store.{as_row, put_row}
use Rattle.store.proofs.Laws.{length_row, length_put, put_fits_month}
use Rattle.rules.specs.Calls.{MeterReading, billing_hours, control_hours, billing_volume, control_volume, neighbour}
use Rattle.rules.specs.Calls.{Report, failure, admission, denial, permission, Call, read, report, closing, is_closing, is_fault}
use Rattle.model.specs.Refusals.{reading_number, report_number, own_refusal}
use Rattle.model.specs.Model.{State, state, discarded, fault_within_year, service_after, discards_reading, with_service_after, after_reading}
use Rattle.model.specs.Model.{after_report, accept, refusal, accepted}
use Rattle.model.specs.Sound.{StateFits}
use Rattle.model.proofs.Laws.{skip, Passed, passed, reading_passed, month_most}

-- what the acceptance of a call tells
pub call_passed : (s : State) (c : Call) → accepted s c ≡ true → Passed (length s.store) s.point (own_refusal s.point s.store c)
unfolding accepted refusal
call_passed s c t = passed (eqb-true (refusal s c) 0 t)

-- the open month is one that is calculated
pub open_month : (r : Record) → valid r ≡ true → eqb r.date.year 3000 ≡ false → is_month r.date ≡ true
open_month r v f = first_of (is_month r.date) (is_end r.date) (valid_parts r v).month (rw f)

-- a record with other readings, and with another service
with_readings_lem : (r : Record) (g : Readings) → Valid r → ReadingsFit g r.contract (volume_limit r.date) → valid (with_readings r g) ≡ true
with_readings_lem r g v f =
    valid_from (with_readings r g)
    (record {
      opened = v.opened;
      contract = v.contract;
      month = v.month;
      service = v.service;
      past = v.past;
      readings = readings_from g r.contract (volume_limit r.date) f;
      total = v.total;
    })

with_service_lem : (r : Record) (s : Service) → Valid r → ServiceFits s r.date → valid (with_service r s) ≡ true
with_service_lem r s v f =
    valid_from (with_service r s)
    (record {
      opened = v.opened;
      contract = v.contract;
      month = v.month;
      service = service_from s r.date f;
      past = v.past;
      readings = v.readings;
      total = v.total;
    })

-- the readings and the service that a record has
old_readings : (r : Record) → Valid r → ReadingsFit r.readings r.contract (volume_limit r.date)
old_readings r v = readings_parts r.readings r.contract (volume_limit r.date) v.readings

old_service : (r : Record) → Valid r → ServiceFits r.service r.date
old_service r v = service_parts r.service r.date v.service

-- hours written into row 12 or 13
written : (s : State) (r : Record) (row : ℕ) (hs : List ℕ) → StateFits s → valid r ≡ true → length r.past.years ≡ 12 → 12 ≤ row
    → row ≤ 13
    → length hs ≤ 744 → none_above 1000000 hs ≡ true → StateFits (state r (put_row row (as_row hs) s.store))
written s r row hs f v y low high l n = record {
  record_fits = v;
  twelve = y;
  words = length_put row (as_row hs) s.store f.words high (length_row hs l);
  store_fits_lem = put_fits_month row hs s.store f.words f.store_fits_lem l low high n;
}

-- the store as it was
record_kept : (s : State) (r : Record) → StateFits s → valid r ≡ true → length r.past.years ≡ 12 → StateFits (state r s.store)
record_kept s r f v y = record { record_fits = v; twelve = y; words = f.words; store_fits_lem = f.store_fits_lem }

pub no_hours : none_above 1000000 [] ≡ true
unfolding none_above
no_hours = refl

-- a discarded reading
discarded_fits : (s : State) → StateFits s → StateFits (discarded s)
discarded_fits s f =
    let r = s.point in
    let v = valid_parts r f.record_fits in
    let g = old_readings r v in
    written s (with_readings r (with_billing r.readings not_given)) 12 [] f
    (with_readings_lem r (with_billing r.readings not_given) v
    (record { billing = missing_fits true (eqb r.contract.billing 2) (volume_limit r.date); control = g.control; first = g.first; second = g.second }))
    f.twelve (lit≤ tt) (lit≤ tt) (lit≤ tt) no_hours

keep_billing_hours : (s : State) (hs : List ℕ) → StateFits s → accepted s (read (billing_hours hs)) ≡ true
    → StateFits (after_reading s (billing_hours hs))
unfolding reading_number own_refusal after_reading
keep_billing_hours s hs f t =
    let r = s.point in
    let o = call_passed s (read (billing_hours hs)) t in
    let q = reading_passed o.own in
    let v = valid_parts r f.record_fits in
    let g = old_readings r v in
    written s _ 12 hs f
    (with_readings_lem r (with_billing r.readings (given_as 0)) v
    (record { billing = hours_fit (eqb r.contract.billing 2) (volume_limit r.date); control = g.control; first = g.first; second = g.second }))
    f.twelve (lit≤ tt) (lit≤ tt) (month_most r hs q.long) (not-false _ q.small)

-- a control meter of a kind that the contract has
control_there : (k n : ℕ) → not (eqb k n) ≡ false → 0 < n → not (eqb k 0) ≡ true
control_there k n e l =
    by_cases (eqb k 0)
    (λ t. absurd (omega (arith, eqb-true k 0 t, eqb-true k n (not-false _ e))))
    (λ f. rw f)

keep_control_hours : (s : State) (hs : List ℕ) → StateFits s → accepted s (read (control_hours hs)) ≡ true
    → StateFits (after_reading s (control_hours hs))
unfolding reading_number own_refusal after_reading
keep_control_hours s hs f t =
    let r = s.point in
    let o = call_passed s (read (control_hours hs)) t in
    let q = reading_passed o.own in
    let v = valid_parts r f.record_fits in
    let g = old_readings r v in
    written s _ 13 hs f
    (with_readings_lem r (with_control r.readings (given_as 0)) v
    (record {
      billing = g.billing;
      control = rw (control_there r.contract.control 1 q.meter (lit< tt)) (hours_fit (eqb r.contract.control 2) (volume_limit r.date));
      first = g.first;
      second = g.second;
    }))
    f.twelve (lit≤ tt) (lit≤ tt) (month_most r hs q.long) (not-false _ q.small)

keep_billing_volume : (s : State) (v : ℕ) → StateFits s → accepted s (read (billing_volume v)) ≡ true → StateFits (after_reading s (billing_volume v))
unfolding reading_number own_refusal after_reading
keep_billing_volume s v f t =
    let r = s.point in
    let q = reading_passed (call_passed s (read (billing_volume v)) t).own in
    let p = valid_parts r f.record_fits in
    let g = old_readings r p in
    record_kept s _ f
    (with_readings_lem r (with_billing r.readings (given_as v)) p
    (record {
      billing = rw (not-false (eqb r.contract.billing 2) q.meter) (volume_fits v (volume_limit r.date) (ltb-false _ v q.small));
      control = g.control;
      first = g.first;
      second = g.second;
    }))
    f.twelve

keep_control_volume : (s : State) (v : ℕ) → StateFits s → accepted s (read (control_volume v)) ≡ true → StateFits (after_reading s (control_volume v))
unfolding reading_number own_refusal after_reading
keep_control_volume s v f t =
    let r = s.point in
    let q = reading_passed (call_passed s (read (control_volume v)) t).own in
    let p = valid_parts r f.record_fits in
    let g = old_readings r p in
    record_kept s _ f
    (with_readings_lem r (with_control r.readings (given_as v)) p
    (record {
      billing = g.billing;
      control =
          rw (control_there r.contract.control 2 q.meter (lit< tt), not-false (eqb r.contract.control 2) q.meter)
          (volume_fits v (volume_limit r.date) (ltb-false _ v q.small));
      first = g.first;
      second = g.second;
    }))
    f.twelve

keep_neighbour : (s : State) (source v : ℕ) → StateFits s → accepted s (read (neighbour source v)) ≡ true
    → StateFits (after_reading s (neighbour source v))
unfolding reading_number own_refusal after_reading
keep_neighbour s source v f t =
    let r = s.point in
    let q = reading_passed (call_passed s (read (neighbour source v)) t).own in
    let p = valid_parts r f.record_fits in
    let g = old_readings r p in
    let fits = volume_fits v (volume_limit r.date) (ltb-false _ v q.small) in
    by_cases (eqb source 1)
    (λ y.
    rw y
    (record_kept s _ f
    (with_readings_lem r (with_first r.readings (given_as v)) p (record { billing = g.billing; control = g.control; first = fits; second = g.second }))
    f.twelve))
    (λ n.
    rw n
    (record_kept s _ f
    (with_readings_lem r (with_second r.readings (given_as v)) p (record { billing = g.billing; control = g.control; first = g.first; second = fits }))
    f.twelve))

-- the month of a fault
month_number_lem : (d : Date) → is_month d ≡ true → eqb (month_number d) 0 || is_month_number (month_number d) ≡ true
month_number_lem d m =
    let l = number_limits d m in
    rw (ne_eqb (month_number d) 0 (λ z. omega (arith, l.0)), le-leb 24169 (month_number d) l.0, le-leb (month_number d) 36000 l.1)

-- what holds of both sides of a choice holds of it
choice : {A : Type 0} (P : A → Type 0) (b : Bool) {x y : A} → P x → P y → P (cond b x y)
choice P true p q = p
choice P false p q = q

-- the service after a report
service_fits : (s : State) (x : Report) → StateFits s → accepted s (report x) ≡ true
    → ServiceFits (service_after s.point.service s.point.date x) s.point.date
unfolding report_number own_refusal
service_fits s (failure reason) f t =
    let r = s.point in
    let o = call_passed s (report (failure reason)) t in
    let h = old_service r (valid_parts r f.record_fits) in
    let m = open_month r o.sound o.not_over in
    record {
      run = cond_most (is_fault reason && fault_within_year r.service.fault (month_number r.date)) (lit≤ tt) h.run;
      serving = lit≤ tt;
      denials = h.denials;
      month = choice (λ (n : ℕ). eqb n 0 || is_month_number n ≡ true) (is_fault reason) (month_number_lem r.date m) h.month;
      before = cond_most (is_fault reason) (omega arith) h.before;
    }
service_fits s admission f t =
    let h = old_service s.point (valid_parts s.point f.record_fits) in
    record { run = h.run; serving = lit≤ tt; denials = h.denials; month = h.month; before = h.before }
service_fits s denial f t =
    let r = s.point in
    let q = (skip (lit< tt) (call_passed s (report denial) t).own).0 in
    let h = old_service r (valid_parts r f.record_fits) in
    let most : r.service.denials + 1 ≤ 2 = omega (arith, h.denials, eqb-false r.service.denials 2 q) in
    record { run = h.run; serving = h.serving; denials = most; month = h.month; before = h.before }
service_fits s permission f t =
    let h = old_service s.point (valid_parts s.point f.record_fits) in
    record { run = h.run; serving = h.serving; denials = lit≤ tt; month = h.month; before = h.before }

-- A POINT GOES ON, while the month is not closed
keeps_reading : (s : State) (x : MeterReading) → StateFits s → accepted s (read x) ≡ true → StateFits (after_reading s x)
keeps_reading s (billing_hours hs) f t = keep_billing_hours s hs f t
keeps_reading s (control_hours hs) f t = keep_control_hours s hs f t
keeps_reading s (billing_volume v) f t = keep_billing_volume s v f t
keeps_reading s (control_volume v) f t = keep_control_volume s v f t
keeps_reading s (neighbour source v) f t = keep_neighbour s source v f t

keeps_report : (s : State) (x : Report) → StateFits s → accepted s (report x) ≡ true → StateFits (after_report s x)
unfolding after_report
keeps_report s x f t =
    let kept : StateFits (with_service_after s x) =
    record_kept s _ f (with_service_lem s.point _ (valid_parts s.point f.record_fits) (service_fits s x f t)) f.twelve in
    choice StateFits (discards_reading s.point.service x) (discarded_fits (with_service_after s x) kept) kept

pub keeps : (s : State) (c : Call) → is_closing c ≡ false → StateFits s → accepted s c ≡ true → StateFits (accept s c)
unfolding is_closing accept
keeps s (read x) e f t = keeps_reading s x f t
keeps s (report x) e f t = keeps_report s x f t
keeps s (closing marks buffer) e f t = absurd (true≢false e)
