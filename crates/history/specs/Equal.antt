-- Runs with equal calls are equal (document 01, 'The list and the book of demand 3'): the opening's arguments and the calls decide every
-- answer, record, store and hour buffer. A closing's call has the hour buffer that it is handed.
use Rattle.std.specs.Prelude.{◌≡◌, List, [], ◌∷◌}
use Rattle.rules.specs.Calls.{Opening, Call}
use Rattle.model.specs.Model.{State}
use Rattle.history.specs.Claim.{Turn, state_after, Run, without_refused}

-- the calls of a list of turns
abbrev pub calls_of : List Turn → List Call
calls_of [] = []
calls_of (t ∷ ts) = t.call ∷ calls_of ts

-- two runs agree. Equal turns have equal calls, equal answers, with the record in them, equal stores and equal hour buffers
pub record RunsAgree (s u : State) (ts us : List Turn) : Type 0 where
  -- the opening leaves both the same record and store
  pub opened : s ≡ u
  -- equal calls make equal turns, and the same record and store after them
  pub by_calls : calls_of ts ≡ calls_of us → (ts ≡ us) × (state_after s ts ≡ state_after u us)
  -- equal accepted calls have equal answers, stores and hour buffers, and leave the same record and store, whatever was refused between them
  pub by_accepted : calls_of (without_refused ts) ≡ calls_of (without_refused us)
      → (without_refused ts ≡ without_refused us) × (state_after s ts ≡ state_after u us)

-- any two runs of the same opening do
abbrev pub EqualRuns : Type 0
EqualRuns = (o : Opening) (s u : State) (ts us : List Turn) → Run o s ts → Run o u us → RunsAgree s u ts us
