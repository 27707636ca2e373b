-- A POINT GOES ON: an accepted opening leaves a sound state, and every accepted call keeps it sound, closings included. Assumes nothing.
use Prim.Native.Nat.{ℕ, ◌≤◌, zero-le}
use mathlib.Core.Path.{◌≡◌, refl, sym, ap, ◌∙◌}
use mathlib.Core.Logic.{◌⊎◌, inl, inr, ⊎_elim, ◌≢◌}
use mathlib.Core.Bool.{Bool, true, false, not, ◌&&◌, ◌||◌, false≢true}
use mathlib.Core.List.{List}
use native.Mathlib.Omega.{arith}
use borrow.Author.Tests.{eqb-true, eqb-false, eq-eqb, le-leb}
use lib.Dec.{eqb, lit≤}
use lib.ListN.{length, length-replicate}
use Rattle.numbers.proofs.Laws.{by_cases, both, cond_most}
use Rattle.calendar.specs.Calendar.{month_number}
use Rattle.calendar.proofs.Laws.{number_limits, number_next}
use Rattle.power.specs.declared.Cable.{Cable}
use Rattle.power.specs.Power.{cable_fits, basis_fits}
use Rattle.power.proofs.Laws.{power_most}
use Rattle.contract.specs.Contract.{is_agreed, kept}
use Rattle.record.specs.Record.{no_past, fresh_service}
use Rattle.validity.specs.Valid.{all_of, contract_tests, volume_limit}
use Rattle.validity.proofs.Laws.{all, valid_from, service_from, past_from, none_fit}
use Rattle.calendar.specs.declared.Date.{Date}
use Rattle.record.specs.declared.Service.{Service}
use Rattle.record.specs.declared.Record.{Record}
use Rattle.store.specs.Store.{store_fits}
use Rattle.store.proofs.Laws.{fits_empty}
use Rattle.rules.specs.Calls.{Opening, MeterReading, billing_hours, control_hours, billing_volume, control_volume, neighbour}
use Rattle.rules.specs.Calls.{Report, failure, admission, denial, permission, Call, read, report, closing, is_closing, is_fault}
use Rattle.rules.specs.Rules.{rules, becomes_past}
use Rattle.model.specs.Refusals.{refuse, refuse_reading, closing_number, reading_number, report_number, own_refusal, open_refusal}
use Rattle.model.specs.declared.Answer.{Answer}
use Rattle.model.specs.Model.{State, fault_within_year, service_after, discards_reading, inputs, closed_with, after_reading, after_report, accept, accepted}
use Rattle.model.specs.Model.{state, refusal, leaves, answer, Does}
use Rattle.model.specs.Opening.{opens, opened, open_leaves, open_answer, Opens}
use Rattle.model.specs.Sound.{Room, Sound, StateFits}
use Rattle.model.proofs.Laws.{Allowed, allowed}
use Rattle.model.proofs.Keeps.{keeps}
use Rattle.model.proofs.Closes.{settled, closing_right, closing_fits}

-- one of the three bases
basis_known : (k p : ℕ) (currents : List ℕ) (place : ℕ) (cable : Cable) → basis_fits k p currents place cable ≡ true
    → is_agreed k || eqb k 3 ≡ true
unfolding basis_fits
basis_known k p currents place cable h =
    by_cases (eqb k 1) (λ t. rw t)
    (λ f. rw f (by_cases (eqb k 2) (λ t. rw t) (λ g. rw g (both (eqb k 3) (cable_fits cable) (rw (f, g) at h)).0)))

-- a cable on basis 3
basis_cable : (k p : ℕ) (currents : List ℕ) (place : ℕ) (cable : Cable) → basis_fits k p currents place cable ≡ true → eqb k 3 ≡ true
    → cable_fits cable ≡ true
unfolding basis_fits
basis_cable k p currents place cable h t = rw (eqb-true k 3 t) at h

-- the contract that an opening keeps
contract_opens : (words : ℕ) (o : Opening) → Allowed words o → all_of (contract_tests (kept o.asked o.currents o.place)) ≡ true
unfolding kept
contract_opens words o a =
    let c = o.asked in
    let known = basis_known c.basis c.power.0 o.currents o.place c.cable a.basis in
    let most = power_most c.basis c.power.0 o.currents o.place c.cable a.basis in
    by_cases (eqb c.basis 3)
    (λ t.
    let there = basis_cable c.basis c.power.0 o.currents o.place c.cable a.basis t in
    all (contract_tests (kept c o.currents o.place))
    (a.billing, (a.control, (known, (rw t, (rw (t, there), (rw t, tt)))))))
    (λ f.
    all (contract_tests (kept c o.currents o.place))
    (a.billing, (a.control, (known, (rw f (le-leb _ 1000000 most), (rw f, (rw f, tt)))))))

-- AN OPENING of which 1 and 10 to 14 say nothing, whatever 15 says of it
pub asked_sound : (words : ℕ) (o : Opening) → Allowed words o → Sound (opened o)
unfolding opened
asked_sound words o a =
    let d = o.date in
    record {
      fits = record {
        record_fits =
            valid_from _
            (record {
              opened = refl;
              contract = contract_opens words o a;
              month = rw a.month;
              service = service_from fresh_service d (record { run = lit≤ tt; serving = lit≤ tt; denials = lit≤ tt; month = refl; before = zero-le });
              past = past_from no_past d (record { years = refl; latest = refl; row = refl });
              readings = none_fit (kept o.asked o.currents o.place) (volume_limit d);
              total = refl;
            });
        twelve = refl;
        words = length-replicate {A = ℕ} 10416 0;
        store_fits_lem = fits_empty;
      };
      run = zero-le;
      total = zero-le;
    }

-- AN ACCEPTED OPENING
pub opening_sound : (o : Opening) (store : List ℕ) → opens o store ≡ true → Sound (opened o)
unfolding opens
opening_sound o store t = asked_sound (length store) o (allowed o (eqb-true (open_refusal (length store) o) 0 t))

-- a call that does not close the month leaves the month and the total, and does not raise the run
record Stays (s t : State) : Type 0 where
  date : t.point.date ≡ s.point.date
  run : t.point.service.run ≤ s.point.service.run
  total : t.point.total.0 ≡ s.point.total.0

reading_stays : (s : State) (x : MeterReading) → Stays s (after_reading s x)
unfolding after_reading
reading_stays s (billing_hours hs) = record { date = refl; run = omega arith; total = refl }
reading_stays s (control_hours hs) = record { date = refl; run = omega arith; total = refl }
reading_stays s (billing_volume v) = record { date = refl; run = omega arith; total = refl }
reading_stays s (control_volume v) = record { date = refl; run = omega arith; total = refl }
reading_stays s (neighbour source v) = record { date = refl; run = omega arith; total = refl }

service_run : (s : Service) (d : Date) (x : Report) → (service_after s d x).run ≤ s.run
service_run s d (failure reason) = cond_most (is_fault reason && fault_within_year s.fault (month_number d)) zero-le (omega arith)
service_run s d admission = omega arith
service_run s d denial = omega arith
service_run s d permission = omega arith

report_stays : (s : State) (x : Report) → Stays s (after_report s x)
unfolding after_report
report_stays s x =
    let run = service_run s.point.service s.point.date x in
    by_cases (discards_reading s.point.service x)
    (λ t. rw t (record { date = refl; run = run; total = refl }))
    (λ f. rw f (record { date = refl; run = run; total = refl }))

stays : (s : State) (c : Call) → is_closing c ≡ false → Stays s (accept s c)
unfolding is_closing accept
stays s (read x) e = reading_stays s x
stays s (report x) e = report_stays s x
stays s (closing marks buffer) e = absurd (false≢true (sym e))

between_closings : (s : State) (c : Call) → is_closing c ≡ false → Sound s → accepted s c ≡ true → Sound (accept s c)
between_closings s c e sound t =
    let k = stays s c e in
    record {
      fits = keeps s c e sound.fits t;
      run = rw k.date (omega (arith, k.run, sound.run));
      total = rw (k.date, k.total) sound.total;
    }

at_closing : (s : State) (marks buffer : List ℕ) → Sound s → accepted s (closing marks buffer) ≡ true → Sound (accept s (closing marks buffer))
unfolding accept closed_with
at_closing s marks buffer sound t =
    let d = s.point.date in
    let u = rules (inputs s marks) in
    let k = settled s marks buffer t in
    let n = number_next d k.month in
    let l = number_limits d k.month in
    let right = closing_right k in
    let room : Room s u = record {
      run = omega (arith, sound.run, l.1);
      total = omega (arith, sound.total, l.1, right.most);
    } in
    record {
      fits = closing_fits s marks buffer sound.fits t room;
      run = rw n (cond_most (becomes_past u) zero-le (omega (arith, sound.run, l.0)));
      total = rw n (omega (arith, sound.total, l.0, right.most));
    }

-- EVERY ACCEPTED CALL
pub call_sound : (s : State) (c : Call) → Sound s → accepted s c ≡ true → Sound (accept s c)
unfolding is_closing
call_sound s (read x) f t = between_closings s (read x) refl f t
call_sound s (report x) f t = between_closings s (report x) refl f t
call_sound s (closing marks buffer) f t = at_closing s marks buffer f t

opens_at : (o : Opening) (store : List ℕ) → open_refusal (length store) o ≡ 0 → opens o store ≡ true
unfolding opens
opens_at o store e = eq-eqb _ 0 e

-- THE CONTRACTS: an opening that does what its contract says and is accepted, and any call after it, accepted or refused
pub opens_sound : (o : Opening) (before after : List ℕ) (a : Answer) → Opens o before a after → a.refusal ≡ 0 → Sound (state a.after after)
unfolding open_answer open_leaves
opens_sound o before after a does e =
    let z : open_refusal (length before) o ≡ 0 = sym (ap (λ (x : Answer). x.refusal) does.answered) ∙ e in
    let t : opens o before ≡ true = opens_at o before z in
    rw (does.answered, does.left, t) (opening_sound o before t)

pub does_sound : (s : State) (c : Call) (a : Answer) (store buffer : List ℕ) → Does s c a store buffer → Sound s → Sound (state a.after store)
unfolding answer leaves
does_sound s c a store buffer does sound =
    rw (does.answered, does.left)
    (by_cases (accepted s c) (λ t. rw t (call_sound s c sound t)) (λ f. rw f sound))

-- the numbers that a call can give on a state that fits
abbrev Among : ℕ → Type 0
Among n = (n ≡ 0) ⊎ ((3 ≤ n) × (eqb n 45 ≡ false))

among : (test : Bool) (number rest : ℕ) → 3 ≤ number → eqb number 45 ≡ false → Among rest → Among (refuse test number rest)
unfolding refuse
among true number rest l m r = inr (l, m)
among false number rest l m r = r

readings_among : (t20 t21 t22 t23 t24 : Bool) → Among (refuse_reading t20 t21 t22 t23 t24)
readings_among t20 t21 t22 t23 t24 =
    among t20 20 _ (lit≤ tt) refl
    (among t21 21 _ (lit≤ tt) refl
    (among t22 22 _ (lit≤ tt) refl (among t23 23 _ (lit≤ tt) refl (among t24 24 0 (lit≤ tt) refl (inl refl)))))

one_among : (test : Bool) (number : ℕ) → 3 ≤ number → eqb number 45 ≡ false → Among (refuse test number 0)
one_among test number l m = among test number 0 l m (inl refl)

store_among : (store : List ℕ) → store_fits store ≡ true → Among (refuse (not (store_fits store)) 45 0)
unfolding refuse
store_among store f = rw f (inl refl)

closing_among : (r : Record) (store marks buffer : List ℕ) → store_fits store ≡ true → Among (closing_number r store marks buffer)
closing_among r store marks buffer f =
    among _ 40 _ (lit≤ tt) refl
    (among _ 41 _ (lit≤ tt) refl
    (among _ 42 _ (lit≤ tt) refl
    (among _ 43 _ (lit≤ tt) refl
    (among _ 46 _ (lit≤ tt) refl
    (among _ 44 _ (lit≤ tt) refl (store_among store f))))))

reading_among : (r : Record) (x : MeterReading) → Among (reading_number r x)
unfolding reading_number
reading_among r (billing_hours hs) = readings_among _ _ _ _ _
reading_among r (control_hours hs) = readings_among _ _ _ _ _
reading_among r (billing_volume v) = readings_among _ _ _ _ _
reading_among r (control_volume v) = readings_among _ _ _ _ _
reading_among r (neighbour source v) = readings_among _ _ _ _ _

report_among : (r : Record) (x : Report) → Among (report_number r x)
unfolding report_number
report_among r (failure reason) = among _ 30 _ (lit≤ tt) refl (one_among _ 31 (lit≤ tt) refl)
report_among r admission = one_among _ 32 (lit≤ tt) refl
report_among r denial = one_among _ 33 (lit≤ tt) refl
report_among r permission = one_among _ 34 (lit≤ tt) refl

own_among : (r : Record) (store : List ℕ) (c : Call) → store_fits store ≡ true → Among (own_refusal r store c)
unfolding own_refusal
own_among r store (read x) f = reading_among r x
own_among r store (report x) f = report_among r x
own_among r store (closing marks buffer) f = closing_among r store marks buffer f

refusal_among : (s : State) (c : Call) → StateFits s → Among (refusal s c)
unfolding refusal refuse
refusal_among s c f =
    rw (eq-eqb (length s.store) 10416 f.words, f.record_fits)
    (among (eqb s.point.date.year 3000) 3 _ (lit≤ tt) refl (own_among s.point s.store c f.store_fits_lem))

-- NO CALL IS REFUSED WITH 1, 2 OR 45
pub never_refused : (s : State) (c : Call) → Sound s → (refusal s c ≢ 1) × (refusal s c ≢ 2) × (refusal s c ≢ 45)
never_refused s c sound =
    let a = refusal_among s c sound.fits in (
      λ e. ⊎_elim (λ z. omega (arith, z, e)) (λ r. omega (arith, r.0, e)) a,
      λ e. ⊎_elim (λ z. omega (arith, z, e)) (λ r. omega (arith, r.0, e)) a,
      λ e. ⊎_elim (λ z. omega (arith, z, e)) (λ r. eqb-false _ 45 r.1 e) a,
    )
