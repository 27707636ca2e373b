-- Demand 3 (document 01, 'The list and the book of demand 3'): one claim about every list of calls after an accepted opening.
-- Lists have the newest first: t ∷ ts is the turn t after the turns ts.
use Rattle.std.specs.Prelude.{ℕ, ◌+◌, ◌<◌, ◌≡◌, ◌≢◌, Bool, true, false, cond, ◌&&◌, ◌||◌, List, [], ◌∷◌, take, eqb}
use Rattle.numbers.specs.Lists.{sum, at, zeros}
use Rattle.calendar.specs.Calendar.{open_hours}
use Rattle.store.specs.Store.{row_part}
use Rattle.store.specs.Store.{as_row}
use Rattle.rules.specs.Calls.{Opening, Call, is_closing, marks_of, buffer_of}
use Rattle.rules.specs.Rules.{figures}
use Rattle.rules.specs.Right.{NearShare}
use Rattle.model.specs.declared.Answer.{Answer}
use Rattle.model.specs.Model.{State, state, row_of, refusal, refused_figures, Does}
use Rattle.model.specs.Opening.{Opens}
use Rattle.history.specs.Book.{Book, month_of, volumes, work_out, feed}

-- A TURN: a call, and what was there after it: its answer, the store and the hour buffer
pub record Turn : Type 0 where
  pub call : Call
  pub answer : Answer
  pub store : List ℕ
  pub buffer : List ℕ

-- the record and the store after the turns, from those that the opening left
unfoldable pub state_after : State → List Turn → State
state_after s [] = s
state_after s (t ∷ ts) = state t.answer.after t.store

-- each call gets record and store as the last one left them, and does what its contract says
unfoldable pub Follows : State → List Turn → Type 0
Follows s [] = Unit {0}
Follows s (t ∷ ts) = Does (state_after s ts) t.call t.answer t.store t.buffer × Follows s ts

-- A RUN: an accepted opening with the arguments o, which leaves s, and then the turns
pub record Run (o : Opening) (s : State) (ts : List Turn) : Type 0 where
  -- the store that the opening was lent, and its answer
  pub before : List ℕ
  pub answer : Answer
  pub opens : Opens o before answer s.store
  pub point : answer.after ≡ s.point
  pub accepted : answer.refusal ≡ 0
  pub follows : Follows s ts

-- whether a call was accepted, and an accepted closing
unfoldable pub was_accepted : Turn → Bool
was_accepted t = eqb t.answer.refusal 0

unfoldable pub closes : Turn → Bool
closes t = was_accepted t && is_closing t.call

-- THE BOOK, fed the turns' calls and whether they were accepted
unfoldable pub book : Opening → List Turn → Book
book o [] = []
book o (t ∷ ts) = feed o (book o ts) t.call (was_accepted t)

-- handed out are hours 0 to T - 1 of the hour buffer after an accepted closing
unfoldable pub handed : Opening → Turn → List Turn → List ℕ
handed o t ts = cond (closes t) (take (open_hours (month_of o (book o ts))) t.buffer) []

-- the sum of all hours handed out
unfoldable pub all_handed : Opening → List Turn → ℕ
all_handed o [] = 0
all_handed o (t ∷ ts) = sum (handed o t ts) + all_handed o ts

-- an accepted closing of the calendar month r (0 for January), in any year, on ground 1 or 2
unfoldable pub fills_row : Opening → ℕ → Turn → List Turn → Bool
fills_row o r t ts =
    closes t && ((eqb t.answer.figures.ground 1 || eqb t.answer.figures.ground 2) && eqb r (row_of (month_of o (book o ts))))

-- the whole hour buffer after the last of them, all 0 if there was none
unfoldable pub last_buffer : Opening → ℕ → List Turn → List ℕ
last_buffer o r [] = zeros 744
last_buffer o r (t ∷ ts) = cond (fills_row o r t ts) t.buffer (last_buffer o r ts)

-- the list without its refused calls
unfoldable pub without_refused : List Turn → List Turn
without_refused [] = []
without_refused (t ∷ ts) = cond (was_accepted t) (t ∷ without_refused ts) (without_refused ts)

-- P holds of each turn and the turns before it
abbrev pub Each : (Turn → List Turn → Type 0) → List Turn → Type 0
Each P [] = Unit {0}
Each P (t ∷ ts) = P t ts × Each P ts

-- a refused call leaves record, store and hour buffer as they were, with ground and figures 0, but for the day of a closing refused with 42, 43 or 46
pub record Untouched (s : State) (t : Turn) (ts : List Turn) : Type 0 where
  pub point : t.answer.after ≡ (state_after s ts).point
  pub store : t.store ≡ (state_after s ts).store
  pub buffer : t.buffer ≡ buffer_of t.call
  pub figures : t.answer.figures ≡ refused_figures t.answer.refusal t.call

-- an accepted closing gives the book's hours, with 0 from T on, and its ground, month volume, C, d and capacity
pub record AsBook (o : Opening) (t : Turn) (ts : List Turn) : Type 0 where
  pub hours : handed o t ts ≡ (work_out o (book o ts) t.call).hours
  pub buffer : t.buffer ≡ as_row (work_out o (book o ts) t.call).hours
  pub figures : t.answer.figures ≡ figures (work_out o (book o ts) t.call) (marks_of t.call)

-- none of the numbers that no call gives after an accepted opening: 1 the store's length, 2 the record, 45 the store's words
pub record GoesOn (number : ℕ) : Type 0 where
  pub long : number ≢ 1
  pub sound : number ≢ 2
  pub small : number ≢ 45

-- DEMAND 3
pub record Demand3 (o : Opening) (s : State) (ts : List Turn) : Type 0 where
  -- accepted and refused as demand 2 has it
  pub as_demand2 : Each (λ t before. t.answer.refusal ≡ refusal (state_after s before) t.call) ts
  -- refused calls leave no trace: nothing changes at them, and the list without them is a run to the same record and store
  pub untouched : Each (λ t before. was_accepted t ≡ false → Untouched s t before) ts
  pub same_run : Run o s (without_refused ts)
  pub same_state : state_after s (without_refused ts) ≡ state_after s ts
  -- each accepted closing equals the book
  pub by_book : Each (λ t before. closes t ≡ true → AsBook o t before) ts
  -- the total equals all hours handed out and the book's volumes
  pub total_handed : (state_after s ts).point.total.0 ≡ all_handed o ts
  pub total_book : (state_after s ts).point.total.0 ≡ volumes (book o ts)
  -- each calendar month's row holds the hours last handed out on ground 1 or 2
  pub rows : (r : ℕ) → r < 12 → row_part (state_after s ts).store r 744 ≡ last_buffer o r ts
  -- every hour is less than one kWh from its exact share
  pub near : Each
      (λ t before. closes t ≡ true → (h : ℕ) → h < open_hours (month_of o (book o before))
      → NearShare (at (handed o t before) h) ((work_out o (book o before) t.call).exact h)) ts
  -- and the point goes on: no call is refused with 1, 2 or 45
  pub goes_on : Each (λ t before. GoesOn t.answer.refusal) ts

-- of every run
abbrev pub Demand3Always : Type 0
Demand3Always = (o : Opening) (s : State) (ts : List Turn) → Run o s ts → Demand3 o s ts
