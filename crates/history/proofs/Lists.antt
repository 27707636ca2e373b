-- The claim of demand 3 speaks of every list of calls: each is that of a run. Assumes nothing.
use Prim.Native.Nat.{ℕ}
use mathlib.Core.Path.{◌≡◌, refl}
use mathlib.Core.Bool.{true}
use mathlib.Core.List.{List, [], ◌∷◌}
use borrow.Author.Tests.{eqb-true}
use lib.ListN.{length}
use Rattle.calendar.specs.Calendar.{is_month}
use Rattle.power.specs.Power.{agreed_fits, power_on}
use Rattle.rules.specs.Calls.{Opening, Call}
use Rattle.store.specs.Store.{empty_store}
use Rattle.model.specs.Refusals.{refuse, open_refusal}
use Rattle.model.specs.Model.{State, answer, leaves, buffer_after}
use Rattle.model.specs.Opening.{opens, opened, open_leaves, open_answer}
use Rattle.history.specs.Claim.{Turn, state_after, Follows, Run}
use Rattle.history.specs.Equal.{calls_of}
use Rattle.history.proofs.Examples.{o}

-- THE TURNS OF A LIST OF CALLS, each as its contract has it
abbrev turn : State → Call → Turn
turn s c = record { call = c; answer = answer s c; store = (leaves s c).store; buffer = buffer_after s c }

unfoldable turns : State → List Call → List Turn
turns s [] = []
turns s (c ∷ cs) = turn (state_after s (turns s cs)) c ∷ turns s cs

turns_calls : (s : State) (cs : List Call) → calls_of (turns s cs) ≡ cs
unfolding turns
turns_calls s [] = refl
turns_calls s (c ∷ cs) = rw (turns_calls s cs)

turns_follow : (s : State) (cs : List Call) → Follows s (turns s cs)
unfolding turns Follows
turns_follow s [] = tt
turns_follow s (c ∷ cs) = (record { answered = refl; left = refl; buffered = refl }, turns_follow s cs)

-- an accepted opening, and any calls after it
pub record Lists (o : Opening) (cs : List Call) : Type 0 where
  pub turns : List Turn
  pub calls : calls_of turns ≡ cs
  pub run : Run o (opened o) turns

pub every_list : (o : Opening) (store : List ℕ) (cs : List Call) → opens o store ≡ true → Lists o cs
unfolding opens open_answer open_leaves
every_list o store cs t =
    record {
      turns = turns (opened o) cs;
      calls = turns_calls (opened o) cs;
      run =
          record {
            before = store;
            answer = open_answer o store;
            opens = record { answered = refl; left = rw t };
            point = rw t;
            accepted = eqb-true (open_refusal (length store) o) 0 t;
            follows = turns_follow (opened o) cs;
          };
    }

-- and there is such an opening
opens_one : opens o empty_store ≡ true
unfolding opens open_refusal refuse is_month agreed_fits power_on
opens_one = refl

pub any_list : (cs : List Call) → Lists o cs
any_list cs = every_list o empty_store cs opens_one
