-- The number of a closing, and what it leaves, as the model has them. Assumes nothing.
use Prim.Native.Nat.{ℕ, ◌-◌, ◌/◌, ◌≤◌}
use mathlib.Core.Path.{◌≡◌, refl, ◌∙◌}
use mathlib.Core.Bool.{Bool, true, false, not, cond, ◌&&◌, ◌||◌}
use mathlib.Core.List.{List, [], append-nil}
use native.Mathlib.Omega.{arith}
use lib.Dec.{eqb, lit≤}
use lib.ListN.{length}
use Rattle.numbers.specs.Lists.{padded}
use Rattle.numbers.proofs.Laws.{by_cases}
use Rattle.calendar.specs.declared.Date.{Date}
use Rattle.calendar.specs.Calendar.{is_month, open_hours}
use Rattle.units.specs.declared.Kwh.{Kwh}
use Rattle.marks.specs.Marks.{is_crowded, is_doubled, is_unmatched, crowded, doubled, unmatched, survey_with, survey_of, capacity_sum, capacity_in}
use Rattle.marks.proofs.Laws.{capacity_uncut}
use Rattle.marks.proofs.WhichDay.{day_or_none}
use Rattle.record.specs.declared.Record.{Record}
use Rattle.store.specs.Store.{as_row, with_hours, written_in, store_fits}
use Rattle.store.proofs.Laws.{length_row, length_put, written_in_lem}
use Rattle.rules.specs.declared.Figures.{Figures}
use Rattle.rules.specs.Calls.{closing, is_closing, marks_of}
use Rattle.rules.specs.Grounds.{ground_number}
use Rattle.rules.specs.Rules.{Outcome, days_in, rules, becomes_past, figures}
use Rattle.rules.specs.Right.{Right}
use Rattle.model.specs.Refusals.{refuse, refuse_anyone, own_refusal, wrong_day}
use Rattle.model.specs.Model.{State, state, inputs, point_after, store_after, closed_with, accept, refusal, leaves, figures_of, hours_out}
use Rattle.model.specs.declared.Answer.{Answer}
use Rattle.model.specs.Model.{answer, buffer_after, Does}
use Rattle.model.proofs.Closes.{row_few}
use Rattle.grounds.specs.declared.Found.{Found}
use Rattle.grounds.specs.Found.{OutcomeFound}
use Rattle.model.proofs.Laws.{is_accepted}
use Rattle.first_ground.proofs.Marks.{capacity_row, capacity_within}
use Rattle.closing.specs.Closes.{ClosesWith}

-- 40 to 46, and before them 1 to 3; the words are judged where the store has its length
pub number_is : (r : Record) (store marks buffer : List ℕ)
    → refusal (state r store) (closing marks buffer)
    ≡ refuse_anyone (length store) r
    (refuse (not (eqb (length marks) (open_hours r.date))) 40
    (refuse (survey_of marks).high 41
    (refuse (not (eqb (survey_of marks).crowded_day 0)) 42
    (refuse (not (eqb (survey_of marks).doubled_day 0)) 43
    (refuse (not (eqb (survey_of marks).unmatched_day 0)) 46
    (refuse (not (eqb (length buffer) 744)) 44
    (refuse (not (eqb (length store) 10416 && store_fits store)) 45 0)))))))
unfolding refusal own_refusal survey_of survey_with crowded doubled unmatched refuse
number_is r store marks buffer =
    rw (day_or_none is_crowded marks (length marks / 24), day_or_none is_doubled marks (length marks / 24), day_or_none is_unmatched marks (length marks / 24))
    (by_cases (eqb (length store) 10416) (λ t. rw t) (λ f. rw f))

-- the survey has the day of each number
pub day_of_number : (number : ℕ) (marks : List ℕ)
    → wrong_day number marks
    ≡ cond (eqb number 42) (survey_of marks).crowded_day
    (cond (eqb number 43) (survey_of marks).doubled_day (cond (eqb number 46) (survey_of marks).unmatched_day 0))
unfolding wrong_day survey_of survey_with
day_of_number number marks = refl

-- a row that is already whole
row_again : (hs : List ℕ) → length hs ≤ 744 → as_row (as_row hs) ≡ as_row hs
unfolding padded
row_again hs l =
    let whole : 744 - length (as_row hs) ≡ 0 = omega (arith, length_row hs l) in
    rw whole (append-nil (as_row hs))

-- a store keeps its length
kept_length : (new : Bool) (row : ℕ) (hours store : List ℕ) → length store ≡ 10416 → row ≤ 11 → length hours ≡ 744
    → length (cond new (with_hours row hours store) store) ≡ 10416
kept_length true row hours store words few long =
    length_put row (as_row hours) store words (omega arith) (length_row hours (omega arith))
kept_length false row hours store words few long = words

-- the store that the code leaves
pub store_is : (new : Bool) (m : Date) (hours store : List ℕ) {a b d : List ℕ} → length store ≡ 10416 → is_month m ≡ true → length hours ≡ 744
    → a ≡ cond new (with_hours (m.month - 1) hours store) store → b ≡ written_in 12 [] a → d ≡ written_in 13 [] b
    → d ≡ store_after new hours m store
store_is new m hours store {a} {b} words month long e f g =
    let la : length a ≡ 10416 = rw e (kept_length new (m.month - 1) hours store words (row_few m month) long) in
    let fb = f ∙ written_in_lem 12 [] a (lit≤ tt) (lit≤ tt) la in
    let lb : length b ≡ 10416 = rw fb (length_put 12 (as_row []) a la (lit≤ tt) (length_row [] (lit≤ tt))) in
    g ∙ written_in_lem 13 [] b (lit≤ tt) (lit≤ tt) lb ∙ rw (fb, e)

-- what is left in parts is what the model leaves
pub store_left : (u : Outcome) (s : State) → length u.hours ≤ 744
    → store_after (becomes_past u) (as_row u.hours) s.point.date s.store ≡ (closed_with u s).store
unfolding closed_with
store_left u s l = rw (row_again u.hours l)

-- A CLOSING THAT IS ACCEPTED
-- the figures that the code works out from the buffer
figures_are : (u : Outcome) (marks : List ℕ) (t : ℕ) {f : Found} {hours : List ℕ} {c : Kwh} {d : ℕ} {g : Figures} → Right t u → t ≤ 744
    → OutcomeFound u f hours
    → c.0 ≡ capacity_sum marks hours → d ≡ days_in marks
    → g ≡ record { ground = ground_number f.ground; volume = f.volume; capacity = record { 0 = capacity_in c.0 d }; sum = c; days = d; wrong_day = 0 }
    → g ≡ figures u marks
unfolding figures
figures_are u marks t {hours = hours} {c = c} right few found total days e =
    let long : length u.hours ≤ 744 = omega (arith, right.long) in
    let over : capacity_sum marks hours ≡ capacity_sum marks u.hours = rw found.hours (capacity_row marks u.hours) in
    let same : c.0 ≡ capacity_sum marks u.hours = total ∙ over in
    let small : capacity_sum marks u.hours ≤ 4294967295 = omega (arith, capacity_within marks u.hours long, right.sums, right.most) in
    e ∙ rw (same, days, found.ground, found.volume, capacity_uncut (capacity_sum marks u.hours) (days_in marks) small)

-- figures are the record of their parts
pub figures_whole : (f : Found) (c : Kwh) (d : ℕ) {g : Figures} → g.ground ≡ ground_number f.ground → g.volume ≡ f.volume
    → g.capacity.0 ≡ capacity_in c.0 d → g.sum ≡ c → g.days ≡ d → g.wrong_day ≡ 0
    → g ≡ record { ground = ground_number f.ground; volume = f.volume; capacity = record { 0 = capacity_in c.0 d }; sum = c; days = d; wrong_day = 0 }
figures_whole f c d a b e s t z = rw (← a, ← b, ← e, ← s, ← t, ← z)

-- what it comes to, from its parts
pub closes_with : (s : State) (marks : List ℕ) {t : ℕ} → Right t (rules (inputs s marks)) → t ≤ 744
    → {f : Found} {hours store : List ℕ} {c : Kwh} {d : ℕ} {g : Figures} {new : Bool} {r : Record} → OutcomeFound (rules (inputs s marks)) f hours
    → c.0 ≡ capacity_sum marks hours → d ≡ days_in marks
    → g ≡ record { ground = ground_number f.ground; volume = f.volume; capacity = record { 0 = capacity_in c.0 d }; sum = c; days = d; wrong_day = 0 }
    → new ≡ (eqb (ground_number f.ground) 1 || eqb (ground_number f.ground) 2) → r ≡ point_after new f.volume.0 s.point
    → store ≡ store_after new hours s.point.date s.store
    → ClosesWith s marks (record { refusal = 0; after = r; figures = g }) store hours
unfolding closed_with becomes_past
closes_with s marks right few {new = n} found total days figs past after left =
    let u = rules (inputs s marks) in
    let new : n ≡ becomes_past u = past ∙ rw found.ground in
    record {
      answered = rw (← figures_are u marks _ right few found total days figs, after, new, found.volume);
      left = left ∙ rw (new, found.hours) (store_left u s (omega (arith, right.long)));
      buffered = found.hours;
    }

-- and that is what its contract says
pub settled_does : (s : State) (marks before : List ℕ) {a : Answer} {store buffer : List ℕ} → 0 ≡ refusal s (closing marks before)
    → ClosesWith s marks a store buffer → Does s (closing marks before) a store buffer
unfolding answer leaves buffer_after figures_of hours_out accept is_closing marks_of
settled_does s marks before e k =
    let t = is_accepted s (closing marks before) e refl in
    record { answered = k.answered ∙ rw (t, ← e); left = k.left ∙ rw t; buffered = k.buffered ∙ rw t }
