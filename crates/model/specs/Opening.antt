-- The opening of a point (document 01, 'What a point keeps' and 'Who causes which number').
use Rattle.std.specs.Prelude.{ℕ, ◌≡◌, Bool, cond, List, length, eqb}
use Rattle.contract.specs.Contract.{kept}
use Rattle.record.specs.Record.{zero_record, fresh_record}
use Rattle.store.specs.Store.{empty_store}
use Rattle.rules.specs.Calls.{Opening}
use Rattle.model.specs.declared.Answer.{Answer}
use Rattle.model.specs.Refusals.{open_refusal}
use Rattle.model.specs.Model.{State, state, without_figures}

unfoldable pub opens : Opening → List ℕ → Bool
opens o store = eqb (open_refusal (length store) o) 0

-- opening clears the store; the point is in service, the named month is open, all else is 0 or missing
unfoldable pub opened : Opening → State
opened o = state (fresh_record (kept o.asked o.currents o.place) o.date) empty_store

-- an opening refused returns a record of zeros, not open, and leaves the store
unfoldable pub open_leaves : Opening → List ℕ → State
open_leaves o store = cond (opens o store) (opened o) (state zero_record store)

unfoldable pub open_answer : Opening → List ℕ → Answer
open_answer o store = without_figures (open_refusal (length store) o) (open_leaves o store).point

-- WHAT A CONTRACT SAYS of the opening o with the store `before`, which answers a and leaves the store `after`
pub record Opens (o : Opening) (before : List ℕ) (a : Answer) (after : List ℕ) : Type 0 where
  pub answered : a ≡ open_answer o before
  pub left : after ≡ (open_leaves o before).store
