-- What a call does, from the number that it returns. Assumes nothing.
use Prim.Native.Nat.{ℕ, ◌≤◌, ◌<◌}
use mathlib.Core.Path.{◌≡◌, refl, sym, ◌∙◌}
use mathlib.Core.Logic.{◌≢◌}
use Rattle.std.specs.Prelude.{Result, Ok, Err}
use mathlib.Core.Bool.{Bool, true, false, not, ◌&&◌, ◌||◌, true≢false}
use mathlib.Core.List.{List, []}
use native.Mathlib.Omega.{arith}
use borrow.Author.Tests.{eq-eqb, ne_eqb, eqb-true, eqb-false, not-false}
use lib.Dec.{eqb, lit<}
use lib.ListN.{length}
use Rattle.numbers.proofs.Laws.{by_cases, both}
use Rattle.calendar.specs.Calendar.{is_month, open_hours}
use Rattle.calendar.proofs.Laws.{open_high}
use Rattle.power.specs.declared.Cable.{Cable}
use Rattle.power.specs.Power.{agreed_fits, cable_fits, list_fits, basis_fits}
use Rattle.contract.specs.Contract.{is_billing_kind, is_control_kind, meters_fit, is_agreed}
use Rattle.record.specs.declared.Record.{Record}
use Rattle.record.specs.Record.{zero_record}
use Rattle.validity.specs.Valid.{valid}
use Rattle.marks.specs.Marks.{first_day}
use Rattle.rules.specs.Calls.{Opening, Call, read, report, closing, is_closing, marks_of, buffer_of}
use Rattle.rules.specs.Rules.{no_figures}
use Rattle.model.specs.Refusals.{refuse, refuse_anyone, refuse_reading, not_month, refuse_asked, open_refusal, reading_number, report_number, own_refusal}
use Rattle.model.specs.Refusals.{wrong_day}
use Rattle.model.specs.Model.{State, after_reading, after_report, accept, refusal, accepted, leaves, without_figures, figures_of, hours_out}
use Rattle.model.specs.Model.{refused_figures}
use Rattle.model.specs.Model.{answer, buffer_after, Does}
use Rattle.model.specs.declared.Answer.{Answer}
use Rattle.model.specs.declared.refusals.Refusal.{Refusal}
use Rattle.model.specs.Refused.{refusal_number, number_of, Gives, answered, GivesPoint}
use Rattle.model.specs.Opening.{opens, opened, open_leaves, open_answer, Opens}

-- where a list of refusals gives n, a test with another number did not apply, and the rest of the list gives n
passes_by : {test : Bool} (number : ℕ) {rest n : ℕ} → eqb number n ≡ false → refuse test number rest ≡ n → (test ≡ false) × (rest ≡ n)
unfolding refuse
passes_by {test = true} number {n = n} d e = absurd (eqb-false number n d e)
passes_by {test = false} number d e = (refl, e)

pub unasked : {test : Bool} (number rest : ℕ) {n : ℕ} → eqb number n ≡ false → refuse test number rest ≡ n → test ≡ false
unasked number rest d e = (passes_by number d e).0

pub behind : (test : Bool) (number : ℕ) {rest n : ℕ} → eqb number n ≡ false → refuse test number rest ≡ n → rest ≡ n
behind test number d e = (passes_by number d e).1

-- no number: the test did not apply, and the rest of the list gives none either
pub skip : {test : Bool} {number rest : ℕ} → 0 < number → refuse test number rest ≡ 0 → (test ≡ false) × (rest ≡ 0)
skip {number = number} l e = passes_by number (ne_eqb number 0 (λ z. omega (arith, l, z))) e

-- what numbers 1 to 3 leave of a call that is accepted
pub record Passed (words : ℕ) (r : Record) (rest : ℕ) : Type 0 where
  pub size : words ≡ 10416
  pub sound : valid r ≡ true
  pub not_over : eqb r.date.year 3000 ≡ false
  pub own : rest ≡ 0

pub passed : {words : ℕ} {r : Record} {rest : ℕ} → refuse_anyone words r rest ≡ 0 → Passed words r rest
passed h =
    let a = skip (lit< tt) h in
    let b = skip (lit< tt) a.1 in
    let d = skip (lit< tt) b.1 in
    record { size = eqb-true _ _ (not-false _ a.0); sound = not-false _ b.0; not_over = d.0; own = d.1 }

-- what numbers 20 to 24 leave of a reading that is accepted
pub record ReadingPassed (t20 t21 t22 t23 t24 : Bool) : Type 0 where
  pub meter : t20 ≡ false
  pub free : t21 ≡ false
  pub first : t22 ≡ false
  pub long : t23 ≡ false
  pub small : t24 ≡ false

pub reading_passed : {t20 t21 t22 t23 t24 : Bool} → refuse_reading t20 t21 t22 t23 t24 ≡ 0 → ReadingPassed t20 t21 t22 t23 t24
reading_passed h =
    let a = skip (lit< tt) h in
    let b = skip (lit< tt) a.1 in
    let d = skip (lit< tt) b.1 in
    let e = skip (lit< tt) d.1 in
    record { meter = a.0; free = b.0; first = d.0; long = e.0; small = (skip (lit< tt) e.1).0 }

-- T hours fit a row
pub month_most : (r : Record) (hs : List ℕ) → not_month r hs ≡ false → length hs ≤ 744
month_most r hs f =
    omega (arith, eqb-true (length hs) (open_hours r.date) (not-false _ f), open_high r.date)

-- what the proof of a call's code looks into
unfoldable pub call_definitions : Unit {0}
unfolding refuse own_refusal reading_number report_number refusal accept after_reading after_report is_closing
call_definitions = tt

-- a refusal has a number
pub numbered : (e : Refusal) → refusal_number e ≢ 0
numbered e z = absurd (grind arith)

-- a call is accepted where no number applies, and else refused
pub is_accepted : (s : State) (c : Call) {n : ℕ} → n ≡ refusal s c → n ≡ 0 → accepted s c ≡ true
unfolding accepted
is_accepted s c e z = eq-eqb (refusal s c) 0 (sym e ∙ z)

pub is_refused : (s : State) (c : Call) {n : ℕ} → n ≡ refusal s c → n ≢ 0 → accepted s c ≡ false
unfolding accepted
is_refused s c {n} e z = rw e at (ne_eqb n 0 z)

-- a call that is refused, with a number that is not 0
pub refused : (s : State) (c : Call) {number : ℕ} {a : Answer} → number ≡ refusal s c → number ≢ 0
    → a ≡ record { refusal = number; after = s.point; figures = refused_figures number c } → Does s c a s.store (buffer_of c)
unfolding answer leaves buffer_after
refused s c e n q =
    let f = is_refused s c e n in
    record { answered = q ∙ rw (f, e); left = rw f; buffered = rw f }

-- a call that is accepted, and has no hour buffer
pub done : (s : State) (c : Call) {number : ℕ} {a : Answer} {after : List ℕ}
    → number ≡ refusal s c → number ≡ 0 → figures_of s c ≡ no_figures → hours_out s c ≡ [] → a ≡ without_figures 0 (accept s c).point
    → after ≡ (accept s c).store
    → Does s c a after []
unfolding answer leaves buffer_after
done s c e z f h q l =
    let t = is_accepted s c e z in
    let n : refusal s c ≡ 0 = sym e ∙ z in
    record { answered = q ∙ rw (t, f, n); left = l ∙ rw t; buffered = rw (t, h) }

-- LAW: a call that is no closing has no marks, of which a day could be wrong
no_marks : (number : ℕ) → wrong_day number [] ≡ 0
unfolding wrong_day first_day
no_marks number =
    by_cases (eqb number 42) (λ t. rw t)
    (λ f. rw f (by_cases (eqb number 43) (λ t. rw t) (λ g. rw g (by_cases (eqb number 46) (λ t. rw t) (λ h. rw h)))))

pub no_day : (number : ℕ) (c : Call) → is_closing c ≡ false → refused_figures number c ≡ no_figures
unfolding is_closing refused_figures marks_of
no_day number (read reading) e = rw (no_marks number)
no_day number (report what) e = rw (no_marks number)
no_day number (closing marks buffer) e = absurd (true≢false e)

-- a call that is no closing has no figures, no hours and no buffer
no_buffer : (c : Call) → is_closing c ≡ false → buffer_of c ≡ []
unfolding is_closing buffer_of
no_buffer (read reading) e = refl
no_buffer (report what) e = refl
no_buffer (closing marks buffer) e = absurd (true≢false e)

quiet : (s : State) (c : Call) → is_closing c ≡ false → (figures_of s c ≡ no_figures) × (hours_out s c ≡ []) × (buffer_of c ≡ [])
unfolding figures_of hours_out
quiet s c e = (rw e, rw e, no_buffer c e)

-- it does what it comes to
pub call_does : (s : State) (c : Call) (x : Result (Unit {0}) Refusal) (after : State) → is_closing c ≡ false → Gives s c x after
    → Does s c (without_figures (number_of x) after.point) after.store []
unfolding answer leaves buffer_after
call_does s c (Ok u) after f g =
    let q = quiet s c f in
    done s c g.0 refl q.0 q.1 (rw (← g.1)) (rw (← g.1))
call_does s c (Err e) after f g =
    let said : without_figures (refusal_number e) s.point
    ≡ record { refusal = refusal_number e; after = s.point; figures = refused_figures (refusal_number e) c } =
    rw (no_day (refusal_number e) c f) in
    rw g.1 (rw (quiet s c f).2 at (refused s c g.0 (numbered e) said))

-- what an opening asks for where it is accepted
pub record Allowed (words : ℕ) (o : Opening) : Type 0 where
  pub size : words ≡ 10416
  pub month : is_month o.date ≡ true
  pub billing : is_billing_kind o.asked.billing ≡ true
  pub control : is_control_kind o.asked.control ≡ true
  pub basis : basis_fits o.asked.basis o.asked.power.0 o.currents o.place o.asked.cable ≡ true

-- a basis that 12 to 14 pass
basis_passed : (k p : ℕ) (currents : List ℕ) (place : ℕ) (cable : Cable)
    → not (eqb k 3 || (is_agreed k && agreed_fits p)) ≡ false
    → eqb k 3 && not (cable_fits cable) ≡ false
    → eqb k 2 && not (list_fits currents place) ≡ false
    → basis_fits k p currents place cable ≡ true
unfolding basis_fits
basis_passed k p currents place cable a b d =
    by_cases (eqb k 1)
    (λ t. rw (eqb-true k 1 t) (not-false _ (rw (eqb-true k 1 t) at a)))
    (λ f.
    by_cases (eqb k 2)
    (λ t. rw (eqb-true k 2 t) (rw (not-false (agreed_fits p) (rw (eqb-true k 2 t) at a)) (not-false _ (rw (eqb-true k 2 t) at d))))
    (λ g.
    by_cases (eqb k 3)
    (λ t. rw (eqb-true k 3 t) (not-false _ (rw (eqb-true k 3 t) at b)))
    (λ h. absurd (true≢false (rw (f, g, h) at a)))))

-- what 1 and 10 to 14 leave of an opening
pub record AskedPassed (words : ℕ) (o : Opening) (rest : ℕ) : Type 0 where
  pub size : not (eqb words 10416) ≡ false
  pub month : not (is_month o.date) ≡ false
  pub meters : not (meters_fit o.asked) ≡ false
  pub based : not (eqb o.asked.basis 3 || (is_agreed o.asked.basis && agreed_fits o.asked.power.0)) ≡ false
  pub cabled : eqb o.asked.basis 3 && not (cable_fits o.asked.cable) ≡ false
  pub listed : eqb o.asked.basis 2 && not (list_fits o.currents o.place) ≡ false
  pub own : rest ≡ 0

pub asked_passed : {words : ℕ} (o : Opening) {rest : ℕ} → refuse_asked words o rest ≡ 0 → AskedPassed words o rest
asked_passed o h =
    let a = skip (lit< tt) h in
    let b = skip (lit< tt) a.1 in
    let d = skip (lit< tt) b.1 in
    let e = skip (lit< tt) d.1 in
    let f = skip (lit< tt) e.1 in
    let g = skip (lit< tt) f.1 in
    record { size = a.0; month = b.0; meters = d.0; based = e.0; cabled = f.0; listed = g.0; own = g.1 }

pub asked_allows : {words : ℕ} (o : Opening) {rest : ℕ} → AskedPassed words o rest → Allowed words o
asked_allows o p =
    let kinds = both (is_billing_kind o.asked.billing) (is_control_kind o.asked.control) (not-false _ p.meters) in
    record {
      size = eqb-true _ _ (not-false _ p.size);
      month = not-false _ p.month;
      billing = kinds.0;
      control = kinds.1;
      basis = basis_passed o.asked.basis o.asked.power.0 o.currents o.place o.asked.cable p.based p.cabled p.listed;
    }

pub allowed : {words : ℕ} (o : Opening) → open_refusal words o ≡ 0 → Allowed words o
unfolding open_refusal
allowed o h = asked_allows o (asked_passed o h)

-- an opening that is refused, and one that is accepted
pub not_opened : (o : Opening) (store : List ℕ) {number : ℕ} {a : Answer} → number ≡ open_refusal (length store) o → number ≢ 0
    → a ≡ without_figures number zero_record
    → Opens o store a store
unfolding opens open_leaves open_answer
not_opened o store {number} e n q =
    let f : eqb (open_refusal (length store) o) 0 ≡ false = rw e at (ne_eqb number 0 n) in
    record { answered = q ∙ rw (f, e); left = rw f }

pub now_opened : (o : Opening) (store : List ℕ) {number : ℕ} {a : Answer} {after : List ℕ}
    → number ≡ open_refusal (length store) o → number ≡ 0 → a ≡ without_figures 0 (opened o).point → after ≡ (opened o).store
    → Opens o store a after
unfolding opens open_leaves open_answer
now_opened o store e z q l =
    let n : open_refusal (length store) o ≡ 0 = sym e ∙ z in
    let t : eqb (open_refusal (length store) o) 0 ≡ true = eq-eqb _ 0 n in
    record { answered = q ∙ rw (t, n); left = l ∙ rw t }

-- an opening does what it comes to
pub opening_does : (o : Opening) (before : List ℕ) (x : Result Record Refusal) (after : List ℕ) → GivesPoint o before x after
    → Opens o before (answered x zero_record) after
opening_does o before (Ok r) after g = now_opened o before g.0 refl (rw (← g.1)) (rw (← g.1))
opening_does o before (Err e) after g = rw g.1 (not_opened o before g.0 (numbered e) refl)
