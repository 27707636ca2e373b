-- The point that a call leaves, from what its contract says. Assumes nothing.
use mathlib.Core.Path.{◌≡◌, ap}
use mathlib.Core.Bool.{true}
use mathlib.Core.List.{List}
use Prim.Native.Nat.{ℕ}
use Rattle.record.specs.declared.Record.{Record}
use Rattle.rules.specs.Calls.{Call, Opening}
use Rattle.model.specs.declared.Answer.{Answer}
use Rattle.model.specs.Model.{State, state, answer, leaves, Does}
use Rattle.model.specs.Opening.{open_answer, open_leaves, Opens}
use Rattle.line_reader.specs.declared.Line.{Line}
use Rattle.line_reader.specs.Modes.{is_opening}
use Rattle.line_calls.specs.Calls.{opening_by, call_by, Makes}
use Rattle.line_player.specs.Played.{call_leaves}

does_state : {s : State} {c : Call} {a : Answer} {store buffer : List ℕ} → Does s c a store buffer → state a.after store ≡ leaves s c
unfolding answer
does_state d = λ i. record { point = ap (λ (x : Answer). x.after) d.answered i; store = d.left i }

pub makes_state : {line : Line} {list : List ℕ} {r : Record} {store buffer : List ℕ} {a : Answer} {store' buffer' : List ℕ}
    → Makes line list r store buffer a store' buffer' → state a.after store' ≡ leaves (state r store) (call_by line list buffer)
makes_state m = does_state m.done

opens_state : {o : Opening} {before : List ℕ} {a : Answer} {after : List ℕ}
    → Opens o before a after → state a.after after ≡ open_leaves o before
unfolding open_answer
opens_state d = λ i. record { point = ap (λ (x : Answer). x.after) d.answered i; store = d.left i }

pub opening_state : (read : Line) (list : List ℕ) (s : State) {a : Answer} {after : List ℕ}
    → is_opening read.call ≡ true → Opens (opening_by read list) s.store a after → state a.after after ≡ call_leaves read list s
unfolding call_leaves
opening_state read list s e d = rw e (opens_state d)
