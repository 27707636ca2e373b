-- A point goes on: an accepted closing works by inputs of which the rules are right, and leaves, where its run and total have room, a
-- record that passes number 2 and a store that passes 1 and 45. Assumes nothing.
use Prim.Native.Nat.{ℕ, ◌+◌, ◌-◌, ◌*◌, ◌/◌, ◌%◌, ◌≤◌}
use mathlib.Core.Path.{◌≡◌, ◌∙◌}
use mathlib.Core.Bool.{Bool, true, false, not, ◌&&◌, ◌||◌}
use mathlib.Core.List.{List, []}
use native.Mathlib.Omega.{arith}
use borrow.Author.Tests.{eqb-true, eqb-false, eq-eqb, ne_eqb, leb-true, le-leb, lt-ltb, ltb-true, not-false}
use lib.Dec.{eqb, leb, ltb, lit≤, lit<}
use lib.ListN.{length, drop, set, length-drop, length-set}
use lib.Seq.{get_or-set_same, get_or-set_other, length-take-le}
use Rattle.numbers.specs.Lists.{at, none_above}
use Rattle.numbers.proofs.Laws.{by_cases, both, cond_most, all_at, all_from}
use Rattle.calendar.specs.declared.Date.{Date}
use Rattle.calendar.specs.Calendar.{is_month, open_hours, month_number, is_month_number, year_of, place_of, next_month}
use Rattle.calendar.proofs.Laws.{limits, days_low, days_high, month_hours_lem, open_next, number_limits, number_next}
use Rattle.store.specs.Store.{row_part}
use Rattle.marks.specs.Marks.{crowded}
use Rattle.power.specs.Power.{cable_fits}
use Rattle.contract.specs.declared.Contract.{Contract}
use Rattle.record.specs.declared.Past.{Past}
use Rattle.record.specs.declared.Reading.{Reading}
use Rattle.record.specs.declared.Record.{Record}
use Rattle.record.specs.Record.{is_set, with_run}
use Rattle.validity.specs.Valid.{all_of, contract_tests, year_fits, reading_tests, volume_limit}
use Rattle.validity.proofs.Laws.{each_test, valid_parts, valid_from, service_parts, service_from, PastFits, past_parts, past_from, readings_parts, none_fit}
use Rattle.store.specs.Store.{as_row, put_row, store_fits}
use Rattle.store.proofs.Laws.{length_row, length_put, put_fits_month, put_fits_past, row_part_fits, row_part_fits_month}
use Rattle.rules.specs.Calls.{closing}
use Rattle.rules.specs.Rules.{rules, becomes_past}
use Rattle.rules.specs.Right.{Right, HoursFit, MeasuredFits, PastHoursFit}
use Rattle.rules.proofs.Laws.{rules_right, of_missing, of_hours, of_volume, each_past}
use Rattle.model.specs.Refusals.{closing_number, own_refusal}
use Rattle.model.specs.Model.{State, state, measured_in, row_of, past_month, row_hours, past_in, inputs, past_after, run_after, rows_after, closed_with}
use Rattle.model.specs.Model.{accept, accepted}
use Rattle.model.specs.Settled.{Settled}
use Rattle.model.specs.Sound.{StateFits, Room}
use Rattle.model.proofs.Laws.{skip}
use Rattle.model.proofs.Keeps.{call_passed, open_month, no_hours}

-- what numbers 40 to 46 leave of a closing that is accepted
record OwnPassed (r : Record) (store marks buffer : List ℕ) : Type 0 where
  long : length marks ≡ open_hours r.date
  not_crowded : crowded marks (length marks / 24) ≡ false
  room : length buffer ≡ 744
  fits : store_fits store ≡ true

own_passed : (r : Record) (store marks buffer : List ℕ) → closing_number r store marks buffer ≡ 0 → OwnPassed r store marks buffer
own_passed r store marks buffer h =
    let a = skip (lit< tt) h in
    let b = skip (lit< tt) a.1 in
    let d = skip (lit< tt) b.1 in
    let e = skip (lit< tt) d.1 in
    let f = skip (lit< tt) e.1 in
    let g = skip (lit< tt) f.1 in
    let i = skip (lit< tt) g.1 in
    record { long = eqb-true _ _ (not-false _ a.0); not_crowded = d.0; room = eqb-true _ _ (not-false _ g.0); fits = not-false _ i.0 }

-- a reading that the record holds
measured : (kind k t : ℕ) (g : Reading) (hs : List ℕ) → HoursFit t hs → g.volume.0 ≤ k → MeasuredFits k t (measured_in kind g hs)
unfolding measured_in
measured kind k t g hs f l =
    by_cases (is_set g.given)
    (λ y. rw y (by_cases (eqb kind 1) (λ h. rw h (of_hours f)) (λ h. rw h (of_volume l))))
    (λ n. rw n of_missing)

-- a row of the month
row_hours_lem : (store : List ℕ) (r t : ℕ) → length store ≡ 10416 → store_fits store ≡ true → 12 ≤ r → r ≤ 13 → t ≤ 744
    → HoursFit t (row_part store r t)
row_hours_lem store r t words fits low high l = record {
  long = length-take-le t (drop (744 * r) store) (rw (length-drop (744 * r) store) (omega arith));
  small = row_part_fits_month r t store fits low;
}

-- the volume of a reading is within its limit
volume_most : (d : Date) (g : Reading) (has w : Bool) → all_of (reading_tests g has w (volume_limit d)) ≡ true → g.volume.0 ≤ open_hours d * 1000000
unfolding volume_limit
volume_most d g has w h = leb-true _ _ (each_test (reading_tests g has w (open_hours d * 1000000)) h).1.1.1.0

-- a cable on basis 3
cable_there : (c : Contract) → all_of (contract_tests c) ≡ true → eqb c.basis 3 ≡ true → cable_fits c.cable ≡ true
cable_there c h t = rw t at (each_test (contract_tests c) h).1.1.1.1.0

past_small : (s : State) → store_fits s.store ≡ true → PastHoursFit (past_in s)
unfolding past_in
past_small s f = each_past (row_hours s) (past_month s.point) (λ d. row_part_fits (row_of d) (open_hours d) s.store f)

-- WHAT IS KNOWN OF A CLOSING THAT IS ACCEPTED
pub settled : (s : State) (marks buffer : List ℕ) → accepted s (closing marks buffer) ≡ true → Settled s.point s.store marks
unfolding own_refusal inputs
settled s marks buffer t =
    let r = s.point in
    let o = call_passed s (closing marks buffer) t in
    let q = own_passed r s.store marks buffer o.own in
    let v = valid_parts r o.sound in
    let g = readings_parts r.readings r.contract (volume_limit r.date) v.readings in
    let m = open_month r o.sound o.not_over in
    let e = month_hours_lem r.date m in
    let short : open_hours r.date ≤ 744 = omega (arith, e, days_high r.date) in
    let control = volume_most r.date r.readings.control (not (eqb r.contract.control 0)) _ g.control in
    record {
      words = o.size;
      sound = o.sound;
      month = m;
      long = q.long;
      fits = q.fits;
      counts = record {
        whole_days = omega (arith, q.long, e);
        some = omega (arith, q.long, e, days_low r.date m);
        few = omega (arith, q.long, e, days_high r.date);
        not_crowded = q.not_crowded;
        power = leb-true _ _ (each_test (contract_tests r.contract) v.contract).1.1.1.0;
        cable = cable_there r.contract v.contract;
        billing =
            rw q.long
            (measured _ _ _ _ _ (row_hours_lem s.store 12 (open_hours r.date) o.size q.fits (lit≤ tt) (lit≤ tt) short)
            (volume_most r.date r.readings.billing true _ g.billing));
        control =
            rw q.long
            (measured _ _ _ _ _ (row_hours_lem s.store 13 (open_hours r.date) o.size q.fits (lit≤ tt) (lit≤ tt) short)
            (omega (arith, control, short)));
        past = past_small s q.fits;
      };
      run = (service_parts r.service r.date v.service).run;
      total = leb-true _ _ v.total;
    }

-- and its hour buffer has the length of a row
pub room_there : (s : State) (marks buffer : List ℕ) → accepted s (closing marks buffer) ≡ true → length buffer ≡ 744
unfolding own_refusal
room_there s marks buffer t = (own_passed s.point s.store marks buffer (call_passed s (closing marks buffer) t).own).room

-- what it works out is right for the hours of its month
pub closing_right : {r : Record} {store marks : List ℕ} → Settled r store marks
    → Right (open_hours r.date) (rules (inputs (state r store) marks))
unfolding inputs
closing_right {r} {store} {marks} k = rw k.long at (rules_right (inputs (state r store) marks) k.counts)

-- THE RECORD AFTER IT
-- the row of a calendar month is one of the first 12
pub row_few : (d : Date) → is_month d ≡ true → row_of d ≤ 11
row_few d m = let l = limits d m in omega arith

-- a row's year that fits still fits in the month after
year_grows : (years : List ℕ) (d e : Date) (k : ℕ) → month_number d ≤ month_number e → year_fits years d k ≡ true → year_fits years e k ≡ true
year_grows years d e k l h =
    by_cases (eqb (at years k) 0)
    (λ t. rw t)
    (λ f.
    let n = month_number (record { year = at years k; month = k + 1 }) in
    let p = both (leb 2014 (at years k) && leb (at years k) 2999) (ltb n (month_number d)) (rw f at h) in
    rw (f, p.0) (lt-ltb n (month_number e) (omega (arith, ltb-true n (month_number d) p.1))))

-- the closed month's year fits its row in the month after
year_closed : (years : List ℕ) (d : Date) (k : ℕ) → is_month d ≡ true → k ≡ row_of d → at years k ≡ d.year
    → year_fits years (next_month d) k ≡ true
unfolding month_number
year_closed years d k m e y =
    let l = limits d m in
    let n = number_next d m in
    rw (y, ne_eqb d.year 0 (λ z. omega arith), le-leb 2014 d.year l.from, le-leb d.year 2999 l.to)
    (lt-ltb (d.year * 12 + (k + 1)) ((next_month d).year * 12 + (next_month d).month) (omega arith))

-- the closed month is the latest past in the month after, and stands in its row
latest_closed : (d : Date) → is_month d ≡ true
    → eqb (month_number d) 0 || (is_month_number (month_number d) && ltb (month_number d) (month_number (next_month d))) ≡ true
latest_closed d m =
    let l = number_limits d m in
    rw (ne_eqb (month_number d) 0 (λ z. omega (arith, l.0)), le-leb 24169 (month_number d) l.0, le-leb (month_number d) 36000 l.1)
    (lt-ltb (month_number d) (month_number (next_month d)) (omega (arith, number_next d m)))

row_closed : (years : List ℕ) (d : Date) → is_month d ≡ true → at years (row_of d) ≡ d.year
    → eqb (month_number d) 0 || eqb (at years (place_of (month_number d))) (year_of (month_number d)) ≡ true
unfolding month_number
row_closed years d m there =
    let l = limits d m in
    let row : (d.year * 12 + d.month - 1) % 12 ≡ d.month - 1 = omega arith in
    let year : (d.year * 12 + d.month - 1) / 12 ≡ d.year = omega arith in
    rw (ne_eqb (d.year * 12 + d.month) 0 (λ z. omega arith), row, year) (eq-eqb _ _ there)

-- rows and latest past after a closing on ground 1 or 2
past_kept : (p : Past) (d : Date) → is_month d ≡ true → length p.years ≡ 12 → PastFits p d → PastFits (past_after true p d) (next_month d)
past_kept p d m twelve f =
    let after : List ℕ = set p.years (row_of d) d.year in
    let there = get_or-set_same p.years (row_of d) d.year 0 (omega (arith, row_few d m)) in
    record {
      years =
          all_from (year_fits after (next_month d)) 12 λ k below.
          by_cases (eqb k (row_of d))
          (λ t. let e = eqb-true k (row_of d) t in year_closed after d k m e (rw e there))
          (λ g.
          let other = get_or-set_other p.years (row_of d) k d.year 0 (eqb-false k (row_of d) g) in
          rw other (year_grows p.years d (next_month d) k (omega (arith, number_next d m)) (all_at (year_fits p.years d) 12 k f.years below)));
      latest = latest_closed d m;
      row = row_closed after d m there;
    }

-- and on another
past_same : (p : Past) (d : Date) → is_month d ≡ true → PastFits p d → PastFits (past_after false p d) (next_month d)
past_same p d m f =
    record {
      years =
          all_from (year_fits p.years (next_month d)) 12 λ k below.
          year_grows p.years d (next_month d) k (omega (arith, number_next d m)) (all_at (year_fits p.years d) 12 k f.years below);
      latest =
          by_cases (eqb p.latest 0) (λ t. rw t)
          (λ g.
          let q = both (is_month_number p.latest) (ltb p.latest (month_number d)) (rw g at f.latest) in
          rw (g, q.0) (lt-ltb p.latest (month_number (next_month d)) (omega (arith, number_next d m, ltb-true p.latest (month_number d) q.1))));
      row = f.row;
    }

-- THE STORE AFTER IT: the hours of ground 1 or 2 in their row, rows 12 and 13 cleared
record Stored (store : List ℕ) : Type 0 where
  words : length store ≡ 10416
  fits : store_fits store ≡ true

cleared : (row : ℕ) (store : List ℕ) → 12 ≤ row → row ≤ 13 → Stored store → Stored (put_row row (as_row []) store)
cleared row store low high f = record {
  words = length_put row (as_row []) store f.words high (length_row [] (lit≤ tt));
  fits = put_fits_month row [] store f.words f.fits (lit≤ tt) low high no_hours;
}

filed : (row : ℕ) (hs store : List ℕ) → row ≤ 11 → length hs ≤ 744 → none_above 3000000 hs ≡ true → Stored store
    → Stored (put_row row (as_row hs) store)
filed row hs store l short n f = record {
  words = length_put row (as_row hs) store f.words (omega arith) (length_row hs short);
  fits = put_fits_past row hs store f.words f.fits short l n;
}

-- A POINT GOES ON with a closing that has room
pub closing_fits : (s : State) (marks buffer : List ℕ) → StateFits s → accepted s (closing marks buffer) ≡ true
    → Room s (rules (inputs s marks)) → StateFits (accept s (closing marks buffer))
unfolding accept closed_with
closing_fits s marks buffer f t room =
    let r = s.point in
    let d = r.date in
    let k = settled s marks buffer t in
    let v = valid_parts r f.record_fits in
    let h = service_parts r.service d v.service in
    let m = k.month in
    let right = closing_right k in
    let u = rules (inputs s marks) in
    let old : Stored s.store = record { words = f.words; fits = f.store_fits_lem } in
    let store : Stored (rows_after (becomes_past u) u.hours d s.store) =
    by_cases (becomes_past u)
    (λ y. rw y (filed (row_of d) u.hours s.store (row_few d m) (omega (arith, right.long, month_hours_lem d m, days_high d)) (right.small y) old))
    (λ n. rw n old) in
    let both-clear = cleared 13 _ (lit≤ tt) (lit≤ tt) (cleared 12 _ (lit≤ tt) (lit≤ tt) store) in
    record {
      record_fits =
          valid_from _
          (record {
            opened = v.opened;
            contract = v.contract;
            month = open_next d m;
            service =
                service_from (with_run r.service (run_after (becomes_past u) r.service.run)) (next_month d)
                (record {
                  run = cond_most (becomes_past u) (lit≤ tt) (omega (arith, room.run));
                  serving = h.serving;
                  denials = h.denials;
                  month = h.month;
                  before = omega (arith, h.before, number_next d m);
                });
            past =
                past_from (past_after (becomes_past u) r.past d) (next_month d)
                (by_cases (becomes_past u)
                (λ y. rw y (past_kept r.past d m f.twelve (past_parts r.past d v.past)))
                (λ n. rw n (past_same r.past d m (past_parts r.past d v.past))));
            readings = none_fit r.contract (volume_limit (next_month d));
            total = le-leb _ _ room.total;
          });
      twelve = by_cases (becomes_past u) (λ y. rw y (length-set r.past.years (row_of d) d.year ∙ f.twelve)) (λ n. rw n f.twelve);
      words = both-clear.words;
      store_fits_lem = both-clear.fits;
    }
