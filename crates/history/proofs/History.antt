-- DEMAND 3, proved: after every list of calls the record and store are those that the book describes (`keep`); the rest follows. Assumes nothing.
use Prim.Native.Nat.{ℕ, ◌+◌, ◌<◌}
use mathlib.Core.Path.{◌≡◌, refl, sym, ap, subst, ◌∙◌}
use mathlib.Core.Bool.{true, false, cond, ◌&&◌, ◌||◌, false≢true}
use mathlib.Core.List.{List, [], ◌∷◌}
use native.Mathlib.Omega.{arith}
use native.Mathlib.Nat.{zero-add}
use borrow.Author.Tests.{eqb-true, eq-eqb}
use lib.Dec.{eqb}
use lib.ListN.{length}
use Rattle.numbers.specs.Lists.{sum, at, padded}
use Rattle.numbers.proofs.Laws.{by_cases, both}
use Rattle.calendar.specs.Calendar.{open_hours}
use Rattle.store.specs.Store.{row_part}
use Rattle.record.specs.declared.Record.{Record}
use Rattle.store.specs.Store.{as_row}
use Rattle.rules.specs.Calls.{Opening, Call, read, report, closing, is_closing, marks_of}
use Rattle.rules.specs.Rules.{Outcome, becomes_past, figures}
use Rattle.rules.specs.Right.{NearShare, Right}
use Rattle.model.specs.declared.Answer.{Answer}
use Rattle.model.specs.Refusals.{open_refusal}
use Rattle.model.specs.Model.{State, state, row_of, refusal, accepted, leaves, figures_of, hours_out, answer, buffer_after, Does}
use Rattle.model.specs.Opening.{opens, opened, open_leaves, open_answer, Opens}
use Rattle.model.proofs.Laws.{allowed}
use Rattle.model.proofs.GoesOn.{opening_sound, never_refused}
use Rattle.history.specs.Book.{Book, month_of, became_past, volumes, work_out, feed}
use Rattle.history.specs.Claim.{Turn, state_after, Follows, Run, was_accepted, closes, book, handed, all_handed, fills_row, last_buffer}
use Rattle.history.specs.Claim.{without_refused, Each, Untouched, AsBook, GoesOn, Demand3Always}
use Rattle.history.proofs.Rows.{take_row, holds_same, holds_none}
use Rattle.history.proofs.View.{last_in, contents, point_of, look_backs, OfItsMeter, MonthsClosed, Shows}
use Rattle.history.proofs.Inputs.{month_contents}
use Rattle.history.proofs.Steps.{entry_closes}
use Rattle.history.proofs.Closings.{step, inputs_shown, right_shown}

-- THE OPENING
no_contents : (o : Opening) (r : ℕ) → [] ≡ contents o [] r
unfolding contents look_backs
no_contents o r = by_cases (eqb r 12) (λ t. rw t) (λ f. by_cases (eqb r 13) (λ t. rw (f, t)) (λ g. rw (f, g)))

opened_shows : (o : Opening) (store : List ℕ) → opens o store ≡ true → Shows o [] (opened o)
unfolding opens opened point_of look_backs OfItsMeter MonthsClosed
opened_shows o store t =
    record {
      sound = opening_sound o store t;
      point = refl;
      rows = holds_same (no_contents o) holds_none;
      billing = tt;
      control = tt;
      months = (allowed o (eqb-true (open_refusal (length store) o) 0 t)).month;
    }

-- an accepted opening leaves what it leaves in the model
opens_state : (o : Opening) (before after : List ℕ) (a : Answer) → Opens o before a after → a.refusal ≡ 0 → opens o before ≡ true
unfolding opens open_answer
opens_state o before after a does e = eq-eqb (open_refusal (length before) o) 0 (sym (ap (λ (x : Answer). x.refusal) does.answered) ∙ e)

pub run_opened : (o : Opening) (s : State) (ts : List Turn) → Run o s ts → s ≡ opened o
unfolding open_answer open_leaves
run_opened o s ts run =
    let t = opens_state o run.before s.store run.answer run.opens run.accepted in
    let point : s.point ≡ (opened o).point = sym run.point ∙ ap (λ (x : Answer). x.after) run.opens.answered ∙ rw t in
    let store : s.store ≡ (opened o).store = run.opens.left ∙ rw t in
    λ i. state (point i) (store i)

start : (o : Opening) (s : State) (ts : List Turn) → Run o s ts → Shows o [] s
start o s ts run =
    subst (Shows o []) (sym (run_opened o s ts run))
    (opened_shows o run.before (opens_state o run.before s.store run.answer run.opens run.accepted))

-- ONE TURN, by its contract
module _ (s : State) (t : Turn) (ts : List Turn) (does : Does (state_after s ts) t.call t.answer t.store t.buffer) where
  number : t.answer.refusal ≡ refusal (state_after s ts) t.call
  unfolding answer
  number = ap (λ (x : Answer). x.refusal) does.answered

  accepted_is : was_accepted t ≡ accepted (state_after s ts) t.call
  unfolding was_accepted accepted
  accepted_is = ap (λ (n : ℕ). eqb n 0) number

  state_is : state_after s (t ∷ ts) ≡ leaves (state_after s ts) t.call
  unfolding state_after answer
  state_is = λ i. state (does.answered i).after (does.left i)

  state_refused : was_accepted t ≡ false → state_after s (t ∷ ts) ≡ state_after s ts
  unfolding leaves
  state_refused f = state_is ∙ rw (sym accepted_is ∙ f)

  untouched : was_accepted t ≡ false → Untouched s t ts
  unfolding state_after answer buffer_after
  untouched f =
      let n : accepted (state_after s ts) t.call ≡ false = sym accepted_is ∙ f in
      record {
        point = ap (λ (x : State). x.point) (state_refused f);
        store = ap (λ (x : State). x.store) (state_refused f);
        buffer = does.buffered ∙ rw n;
        figures = rw number (ap (λ (x : Answer). x.figures) does.answered ∙ rw n);
      }

-- what an accepted closing answers is what the book works out
record Closed (o : Opening) (es : Book) (c : Call) (a : Answer) (out : List ℕ) : Type 0 where
  answered : a.figures ≡ figures (work_out o es c) (marks_of c)
  buffered : out ≡ as_row (work_out o es c).hours
  right : Right (open_hours (month_of o es)) (work_out o es c)

does_close : (o : Opening) (es : Book) (s : State) (c : Call) (a : Answer) (store buffer : List ℕ) → Shows o es s → Does s c a store buffer
    → accepted s c ≡ true → is_closing c ≡ true → Closed o es c a buffer
unfolding is_closing work_out marks_of answer buffer_after figures_of hours_out
does_close o es s (read x) a store buffer h does t e = absurd (false≢true e)
does_close o es s (report x) a store buffer h does t e = absurd (false≢true e)
does_close o es s (closing marks old) a store buffer h does t e =
    record {
      answered = ap (λ (x : Answer). x.figures) does.answered ∙ rw (t, inputs_shown o es s marks h);
      buffered = does.buffered ∙ rw (t, inputs_shown o es s marks h);
      right = right_shown o es s marks old h t;
    }

-- each turn of a list
each : (s : State) (P : Turn → List Turn → Type 0) → ((t : Turn) (ts : List Turn) → Follows s (t ∷ ts) → P t ts) → (ts : List Turn)
    → Follows s ts → Each P ts
unfolding Follows
each s P h [] f = tt
each s P h (t ∷ ts) f = (h t ts f, each s P h ts f.1)

-- THE LIST WITHOUT ITS REFUSED CALLS
state_kept : (s : State) (ts : List Turn) → Follows s ts → state_after s (without_refused ts) ≡ state_after s ts
unfolding Follows without_refused state_after
state_kept s [] f = refl
state_kept s (t ∷ ts) f =
    by_cases (was_accepted t)
    (λ y. rw y)
    (λ n. rw n (state_kept s ts f.1 ∙ sym (state_refused s t ts f.0 n)))

kept_follows : (s : State) (ts : List Turn) → Follows s ts → Follows s (without_refused ts)
unfolding Follows without_refused
kept_follows s [] f = tt
kept_follows s (t ∷ ts) f =
    by_cases (was_accepted t)
    (λ y. rw y (rw (state_kept s ts f.1) f.0, kept_follows s ts f.1))
    (λ n. rw n (kept_follows s ts f.1))

-- OF A RUN
module _ (o : Opening) (s : State) (begun : Shows o [] s) where
  keep_next : (t : Turn) (ts : List Turn) → Does (state_after s ts) t.call t.answer t.store t.buffer
      → Shows o (book o ts) (state_after s ts) → Shows o (book o (t ∷ ts)) (state_after s (t ∷ ts))
  unfolding book feed leaves
  keep_next t ts does h =
      let e : state_after s (t ∷ ts) ≡ leaves (state_after s ts) t.call = state_is s t ts does in
      subst (Shows o (book o (t ∷ ts))) (sym e)
      (by_cases (was_accepted t)
      (λ y. rw (y, sym (accepted_is s t ts does) ∙ y) (step o (book o ts) (state_after s ts) t.call h (sym (accepted_is s t ts does) ∙ y)))
      (λ n. rw (n, sym (accepted_is s t ts does) ∙ n) h))

  keep : (ts : List Turn) → Follows s ts → Shows o (book o ts) (state_after s ts)
  unfolding Follows book state_after
  keep [] f = begun
  keep (t ∷ ts) f = keep_next t ts f.0 (keep ts f.1)

  goes_on_lem : (t : Turn) (ts : List Turn) → Follows s (t ∷ ts) → GoesOn t.answer.refusal
  unfolding Follows
  goes_on_lem t ts f =
      let e = number s t ts f.0 in
      let n = never_refused (state_after s ts) t.call (keep ts f.1).sound in
      record { long = rw e n.0; sound = rw e n.1; small = rw e n.2 }

  -- an accepted closing
  closed_turn : (t : Turn) (ts : List Turn) → Follows s (t ∷ ts) → closes t ≡ true → Closed o (book o ts) t.call t.answer t.buffer
  unfolding Follows closes
  closed_turn t ts f y =
      let p = both (was_accepted t) (is_closing t.call) y in
      does_close o (book o ts) (state_after s ts) t.call t.answer t.store t.buffer (keep ts f.1) f.0
      (sym (accepted_is s t ts f.0) ∙ p.0) p.1

  handed_same : (t : Turn) (ts : List Turn) → Follows s (t ∷ ts) → closes t ≡ true → handed o t ts ≡ (work_out o (book o ts) t.call).hours
  unfolding handed
  handed_same t ts f y =
      let k = closed_turn t ts f y in
      rw (y, k.buffered) (take_row (work_out o (book o ts) t.call).hours (open_hours (month_of o (book o ts))) k.right.long)

  as_book : (t : Turn) (ts : List Turn) → Follows s (t ∷ ts) → closes t ≡ true → AsBook o t ts
  as_book t ts f y =
      let k = closed_turn t ts f y in
      record { hours = handed_same t ts f y; buffer = k.buffered; figures = k.answered }

  near : (t : Turn) (ts : List Turn) → Follows s (t ∷ ts) → closes t ≡ true → (h : ℕ) → h < open_hours (month_of o (book o ts))
      → NearShare (at (handed o t ts) h) ((work_out o (book o ts) t.call).exact h)
  near t ts f y h l = rw (handed_same t ts f y) ((closed_turn t ts f y).right.near h l)

  -- the total
  total_book_lem : (ts : List Turn) → Follows s ts → (state_after s ts).point.total.0 ≡ volumes (book o ts)
  unfolding point_of
  total_book_lem ts f = ap (λ (r : Record). r.total.0) (keep ts f).point

  -- a call that closes no month hands out nothing
  not_handed : (t : Turn) (ts : List Turn) → closes t ≡ false → handed o t ts ≡ []
  unfolding handed
  not_handed t ts n = rw n

  volumes_next : (t : Turn) (ts : List Turn) → Follows s (t ∷ ts) → volumes (book o (t ∷ ts)) ≡ sum (handed o t ts) + volumes (book o ts)
  unfolding volumes book feed closes
  volumes_next t ts f =
      by_cases (was_accepted t)
      (λ y.
      by_cases (is_closing t.call)
      (λ c.
      let z : closes t ≡ true = rw (y, c) in
      let e : sum (handed o t ts) ≡ (work_out o (book o ts) t.call).volume = rw (handed_same t ts f z) (closed_turn t ts f z).right.sums in
      rw (y, entry_closes t.call (work_out o (book o ts) t.call), c, e))
      (λ n. rw (y, entry_closes t.call (work_out o (book o ts) t.call), n, not_handed t ts (rw (y, n)), zero-add)))
      (λ n. rw (n, not_handed t ts (rw n), zero-add))

  volumes_handed : (ts : List Turn) → Follows s ts → volumes (book o ts) ≡ all_handed o ts
  unfolding all_handed Follows volumes book
  volumes_handed [] f = refl
  volumes_handed (t ∷ ts) f = volumes_next t ts f ∙ ap (λ (n : ℕ). sum (handed o t ts) + n) (volumes_handed ts f.1)

  -- the rows: the hours of the last closing of a calendar month on ground 1 or 2
  last_next : (r : ℕ) (t : Turn) (ts : List Turn) → Follows s (t ∷ ts)
      → as_row (last_in o (book o (t ∷ ts)) r) ≡ cond (fills_row o r t ts) t.buffer (as_row (last_in o (book o ts) r))
  unfolding last_in book feed fills_row closes became_past becomes_past figures
  last_next r t ts f =
      by_cases (was_accepted t)
      (λ y.
      by_cases (is_closing t.call)
      (λ c.
      let k = closed_turn t ts f (rw (y, c)) in
      let u : Outcome = work_out o (book o ts) t.call in
      rw (y, entry_closes t.call u, c, k.answered, k.buffered)
      (by_cases ((eqb u.ground 1 || eqb u.ground 2) && eqb r (row_of (month_of o (book o ts)))) (λ b. rw b) (λ b. rw b)))
      (λ n. rw (y, entry_closes t.call (work_out o (book o ts) t.call), n)))
      (λ n. rw n)

  last_buffer_lem : (r : ℕ) (ts : List Turn) → Follows s ts → as_row (last_in o (book o ts) r) ≡ last_buffer o r ts
  unfolding last_buffer last_in book Follows padded
  last_buffer_lem r [] f = refl
  last_buffer_lem r (t ∷ ts) f = last_next r t ts f ∙ ap (λ (x : List ℕ). cond (fills_row o r t ts) t.buffer x) (last_buffer_lem r ts f.1)

  rows : (ts : List Turn) → Follows s ts → (r : ℕ) → r < 12 → row_part (state_after s ts).store r 744 ≡ last_buffer o r ts
  rows ts f r l = (keep ts f).rows.rows r (omega arith) ∙ ap as_row (month_contents o (book o ts) r l) ∙ last_buffer_lem r ts f

-- DEMAND 3
pub demand3 : Demand3Always
unfolding Follows
demand3 o s ts run =
    let f : Follows s ts = run.follows in
    let begun : Shows o [] s = start o s ts run in
    record {
      as_demand2 = each s _ (λ t before g. number s t before g.0) ts f;
      untouched = each s _ (λ t before g. untouched s t before g.0) ts f;
      same_run =
          record {
            before = run.before;
            answer = run.answer;
            opens = run.opens;
            point = run.point;
            accepted = run.accepted;
            follows =
                kept_follows s ts f;
          };
      same_state = state_kept s ts f;
      by_book = each s _ (as_book o s begun) ts f;
      total_handed = total_book_lem o s begun ts f ∙ volumes_handed o s begun ts f;
      total_book = total_book_lem o s begun ts f;
      rows = rows o s begun ts f;
      near = each s _ (near o s begun) ts f;
      goes_on = each s _ (goes_on_lem o s begun) ts f;
    }
