-- Unused words are 0: an accepted opening leaves them so, and every accepted call keeps them so. Assumes nothing.
use Prim.Native.Nat.{ℕ, ◌+◌, ◌-◌, ◌*◌, ◌≤◌, ◌<◌}
use mathlib.Core.Path.{◌≡◌, refl, ◌∙◌}
use mathlib.Core.Logic.{◌⊎◌, inl, inr, ⊎_elim}
use mathlib.Core.Bool.{true}
use mathlib.Core.List.{List, []}
use native.Mathlib.Omega.{arith}
use native.Mathlib.Decide.{dec_lt}
use borrow.Author.Tests.{eqb-true, eqb-false, ne_eqb, not-false}
use lib.Dec.{eqb, lit≤, lit<}
use lib.ListN.{length, set, get_or-eq_default}
use lib.Seq.{get_or-set_same, get_or-set_other}
use Rattle.numbers.specs.Lists.{at}
use Rattle.numbers.proofs.Laws.{by_cases, at_zeros}
use Rattle.calendar.specs.Calendar.{is_month, open_hours}
use Rattle.calendar.proofs.Laws.{limits, days_high, month_hours_lem}
use Rattle.store.specs.Store.{as_row, with_hours, without_hours}
use Rattle.store.proofs.Laws.{at_row, length_row, length_put, at_put_before, at_put_in, at_put_after}
use Rattle.rules.specs.Calls.{Opening, MeterReading, billing_hours, control_hours, billing_volume, control_volume, neighbour}
use Rattle.rules.specs.Calls.{Report, Call, read, report, closing}
use Rattle.rules.specs.Rules.{rules, becomes_past}
use Rattle.model.specs.Refusals.{reading_number, own_refusal}
use Rattle.model.specs.Model.{State, discarded, discards_reading, with_service_after, row_of, inputs, past_after, rows_after, closed_with, after_reading}
use Rattle.model.specs.Model.{after_report}
use Rattle.model.specs.Model.{accept, accepted}
use Rattle.model.specs.Opening.{opened}
use Rattle.model.specs.Sound.{StateFits, ZeroFrom, month_used, Unused}
use Rattle.model.proofs.Laws.{reading_passed, month_most}
use Rattle.model.proofs.Keeps.{call_passed}
use Rattle.model.proofs.Closes.{settled, closing_right, row_few}

-- AN ACCEPTED OPENING
pub opening_spare : (o : Opening) → Unused (opened o)
unfolding opened
opening_spare o =
    record {
      months = λ k l h m n. at_zeros 10416 (744 * k + h);
      billing = λ h m n. at_zeros 10416 (744 * 12 + h);
      control = λ h m n. at_zeros 10416 (744 * 13 + h);
    }

-- hours written into row r of a store: it is 0 past them, and another row is 0 where it was
module _ (r : ℕ) (hs store : List ℕ) (size : length store ≡ 10416) (row : r ≤ 13) (long : length hs ≤ 744) where
  own_row : (used : ℕ) → length hs ≤ used → ZeroFrom (with_hours r hs store) r used
  own_row used l h m n =
      let e : 744 * r + h - 744 * r ≡ h = omega arith in
      at_put_in r (as_row hs) store size row (length_row hs long) (744 * r + h) (omega arith) (omega arith)
      ∙ rw e (at_row hs h ∙ get_or-eq_default hs 0 {n = h} (omega arith))

  other_row : (q used : ℕ) → (q < r) ⊎ (r < q) → ZeroFrom store q used → ZeroFrom (with_hours r hs store) q used
  other_row q used other zero h m n =
      ⊎_elim
      (λ o. at_put_before r (as_row hs) store size row (length_row hs long) (744 * q + h) (omega arith))
      (λ o. at_put_after r (as_row hs) store size row (length_row hs long) (744 * q + h) (omega arith))
      other
      ∙ zero h m n

  size_after : length (with_hours r hs store) ≡ 10416
  size_after = length_put r (as_row hs) store size row (length_row hs long)

-- a discarded reading
spare_discarded : (s : State) → length s.store ≡ 10416 → Unused s → Unused (discarded s)
spare_discarded s w u =
    record {
      months = λ k l. other_row 12 [] s.store w (lit≤ tt) (lit≤ tt) k (month_used s.point.past.years k) (inl l) (u.months k l);
      billing = own_row 12 [] s.store w (lit≤ tt) (lit≤ tt) 0 (lit≤ tt);
      control = other_row 12 [] s.store w (lit≤ tt) (lit≤ tt) 13 _ (inr (lit< tt)) u.control;
    }

spare_billing_hours : (s : State) (hs : List ℕ) → StateFits s → Unused s → accepted s (read (billing_hours hs)) ≡ true
    → Unused (after_reading s (billing_hours hs))
unfolding reading_number own_refusal after_reading
spare_billing_hours s hs f u t =
    let q = reading_passed (call_passed s (read (billing_hours hs)) t).own in
    let long = month_most s.point hs q.long in
    let e = eqb-true (length hs) (open_hours s.point.date) (not-false _ q.long) in
    record {
      months = λ k l. other_row 12 hs s.store f.words (lit≤ tt) long k (month_used s.point.past.years k) (inl l) (u.months k l);
      billing =
          rw (not-false (eqb s.point.contract.billing 1) q.meter)
          (own_row 12 hs s.store f.words (lit≤ tt) long (open_hours s.point.date) (omega (arith, e)));
      control = other_row 12 hs s.store f.words (lit≤ tt) long 13 _ (inr (lit< tt)) u.control;
    }

spare_control_hours : (s : State) (hs : List ℕ) → StateFits s → Unused s → accepted s (read (control_hours hs)) ≡ true
    → Unused (after_reading s (control_hours hs))
unfolding reading_number own_refusal after_reading
spare_control_hours s hs f u t =
    let q = reading_passed (call_passed s (read (control_hours hs)) t).own in
    let long = month_most s.point hs q.long in
    let e = eqb-true (length hs) (open_hours s.point.date) (not-false _ q.long) in
    record {
      months = λ k l. other_row 13 hs s.store f.words (lit≤ tt) long k (month_used s.point.past.years k) (inl (omega arith)) (u.months k l);
      billing = other_row 13 hs s.store f.words (lit≤ tt) long 12 _ (inl (lit< tt)) u.billing;
      control =
          rw (not-false (eqb s.point.contract.control 1) q.meter)
          (own_row 13 hs s.store f.words (lit≤ tt) long (open_hours s.point.date) (omega (arith, e)));
    }

-- the row of an integral meter is not used, and was not used before its reading
spare_billing_volume : (s : State) (v : ℕ) → Unused s → accepted s (read (billing_volume v)) ≡ true → Unused (after_reading s (billing_volume v))
unfolding reading_number own_refusal after_reading
spare_billing_volume s v u t =
    let q = reading_passed (call_passed s (read (billing_volume v)) t).own in
    record {
      months = u.months;
      billing = rw (eqb-true s.point.contract.billing 2 (not-false _ q.meter)) (rw q.first at u.billing);
      control = u.control;
    }

spare_control_volume : (s : State) (v : ℕ) → Unused s → accepted s (read (control_volume v)) ≡ true → Unused (after_reading s (control_volume v))
unfolding reading_number own_refusal after_reading
spare_control_volume s v u t =
    let q = reading_passed (call_passed s (read (control_volume v)) t).own in
    record {
      months = u.months;
      billing = u.billing;
      control = rw (eqb-true s.point.contract.control 2 (not-false _ q.meter)) (rw q.first at u.control);
    }

spare_neighbour : (s : State) (source v : ℕ) → Unused s → Unused (after_reading s (neighbour source v))
unfolding after_reading
spare_neighbour s source v u =
    by_cases (eqb source 1)
    (λ y. rw y (record { months = u.months; billing = u.billing; control = u.control }))
    (λ n. rw n (record { months = u.months; billing = u.billing; control = u.control }))

-- what holds of a state holds of one with another service
spare_served : (s t : State) → Unused s → t.store ≡ s.store → t.point.past ≡ s.point.past → t.point.readings ≡ s.point.readings
    → t.point.contract ≡ s.point.contract → t.point.date ≡ s.point.date → Unused t
spare_served s t u a b c d e = record { months = rw (a, b) u.months; billing = rw (a, c, d, e) u.billing; control = rw (a, c, d, e) u.control }

-- CLOSING
-- the row of a calendar month, which is the closed month's or another's
unused_closed : (s : State) (hs : List ℕ) (k : ℕ) → StateFits s → Unused s → is_month s.point.date ≡ true
    → length hs ≡ open_hours s.point.date → k < 12
    → ZeroFrom (with_hours (row_of s.point.date) hs s.store) k (month_used (past_after true s.point.past s.point.date).years k)
unused_closed s hs k f u m long below =
    let d = s.point.date in
    let l = limits d m in
    let years = s.point.past.years in
    let short : length hs ≤ 744 = omega (arith, long, month_hours_lem d m, days_high d) in
    let row : row_of d ≤ 13 = omega (arith, row_few d m) in
    by_cases (eqb k (row_of d))
    (λ t.
    let e = eqb-true k (row_of d) t in
    let year : at (set years (row_of d) d.year) (row_of d) ≡ d.year = get_or-set_same years (row_of d) d.year 0 (omega (arith, f.twelve, row_few d m)) in
    let back : d.month - 1 + 1 ≡ d.month = omega arith in
    rw (e, year, ne_eqb d.year 0 (λ z. omega arith), back) (own_row (row_of d) hs s.store f.words row short (open_hours d) (omega (arith, long))))
    (λ g.
    let other : (k < row_of d) ⊎ (row_of d < k) = elim (dec_lt k (row_of d)) [
      | yes y ↦ inl y
      | no n ↦ inr (omega (arith, eqb-false k (row_of d) g))
    ] in
    rw (get_or-set_other years (row_of d) k d.year 0 (eqb-false k (row_of d) g))
    (other_row (row_of d) hs s.store f.words row short k (month_used years k) other (u.months k below)))

spare_closing : (s : State) (marks buffer : List ℕ) → StateFits s → Unused s → accepted s (closing marks buffer) ≡ true
    → Unused (accept s (closing marks buffer))
unfolding accept closed_with inputs
spare_closing s marks buffer f u t =
    let d = s.point.date in
    let out = rules (inputs s marks) in
    let c = settled s marks buffer t in
    let m = c.month in
    let long : length out.hours ≡ open_hours d = (closing_right c).long in
    let short : length out.hours ≤ 744 = omega (arith, long, month_hours_lem d m, days_high d) in
    let filed : List ℕ = rows_after (becomes_past out) out.hours d s.store in
    let size : length filed ≡ 10416 =
    by_cases (becomes_past out)
    (λ y. rw y (size_after (row_of d) out.hours s.store f.words (omega (arith, row_few d m)) short))
    (λ n. rw n f.words) in
    let size' = size_after 12 [] filed size (lit≤ tt) (lit≤ tt) in
    let months : (k : ℕ) → k < 12 → ZeroFrom filed k (month_used (past_after (becomes_past out) s.point.past d).years k) =
    λ k l.
    by_cases (becomes_past out)
    (λ y. rw y (unused_closed s out.hours k f u m long l))
    (λ n. rw n (u.months k l)) in
    record {
      months = λ k l.
          other_row 13 [] (without_hours 12 filed) size' (lit≤ tt) (lit≤ tt) k _ (inl (omega arith))
          (other_row 12 [] filed size (lit≤ tt) (lit≤ tt) k _ (inl l) (months k l));
      billing =
          other_row 13 [] (without_hours 12 filed) size' (lit≤ tt) (lit≤ tt) 12 0 (inl (lit< tt))
          (own_row 12 [] filed size (lit≤ tt) (lit≤ tt) 0 (lit≤ tt));
      control = own_row 13 [] (without_hours 12 filed) size' (lit≤ tt) (lit≤ tt) 0 (lit≤ tt);
    }

-- EVERY ACCEPTED CALL
reading_spare : (s : State) (x : MeterReading) → StateFits s → Unused s → accepted s (read x) ≡ true → Unused (after_reading s x)
reading_spare s (billing_hours hs) f u t = spare_billing_hours s hs f u t
reading_spare s (control_hours hs) f u t = spare_control_hours s hs f u t
reading_spare s (billing_volume v) f u t = spare_billing_volume s v u t
reading_spare s (control_volume v) f u t = spare_control_volume s v u t
reading_spare s (neighbour source v) f u t = spare_neighbour s source v u

report_spare : (s : State) (x : Report) → StateFits s → Unused s → Unused (after_report s x)
unfolding after_report
report_spare s x f u =
    let one = spare_served s (with_service_after s x) u refl refl refl refl refl in
    by_cases (discards_reading s.point.service x) (λ y. rw y (spare_discarded (with_service_after s x) f.words one)) (λ n. rw n one)

pub call_spare : (s : State) (c : Call) → StateFits s → Unused s → accepted s c ≡ true → Unused (accept s c)
unfolding accept
call_spare s (read x) f u t = reading_spare s x f u t
call_spare s (report x) f u t = report_spare s x f u
call_spare s (closing marks buffer) f u t = spare_closing s marks buffer f u t
