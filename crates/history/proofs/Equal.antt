-- RUNS WITH EQUAL CALLS ARE EQUAL, proved: what a turn's contract says depends on its call and on what was there before it. Assumes nothing.
use mathlib.Core.Path.{◌≡◌, refl, sym, ap, ap₂, ◌∙◌}
use mathlib.Core.Bool.{Bool, true, false, false≢true}
use mathlib.Core.List.{List, [], ◌∷◌}
use Rattle.rules.specs.Calls.{Opening, Call}
use Rattle.model.specs.Model.{State, leaves, answer, buffer_after, Does}
use Rattle.history.specs.Claim.{Turn, state_after, Follows, Run}
use Rattle.history.specs.Equal.{calls_of, EqualRuns}
use Rattle.history.proofs.History.{run_opened, demand3}

-- from equal states an equal call has an equal answer, and leaves an equal store and an equal hour buffer
same_turn : (s u : State) (t v : Turn) → s ≡ u → t.call ≡ v.call → Does s t.call t.answer t.store t.buffer
    → Does u v.call v.answer v.store v.buffer → t ≡ v
same_turn s u t v e c does other =
    let answers : t.answer ≡ v.answer = does.answered ∙ ap₂ (λ (x : State) (k : Call). answer x k) e c ∙ sym other.answered in
    let stores : t.store ≡ v.store = does.left ∙ ap₂ (λ (x : State) (k : Call). (leaves x k).store) e c ∙ sym other.left in
    let buffers : t.buffer ≡ v.buffer = does.buffered ∙ ap₂ (λ (x : State) (k : Call). buffer_after x k) e c ∙ sym other.buffered in
    λ i. record { call = c i; answer = answers i; store = stores i; buffer = buffers i }

-- equal lists of calls are both empty, or have equal first calls and equal rests
abbrev is_empty : List Call → Bool
is_empty [] = true
is_empty (c ∷ cs) = false

abbrev first_or : Call → List Call → Call
first_or d [] = d
first_or d (c ∷ cs) = c

abbrev rest : List Call → List Call
rest [] = []
rest (c ∷ cs) = cs

same_turns : (s u : State) (ts us : List Turn) → s ≡ u → Follows s ts → Follows u us → calls_of ts ≡ calls_of us → ts ≡ us
unfolding Follows
same_turns s u [] [] e f g c = refl
same_turns s u [] (v ∷ us) e f g c = absurd (false≢true (sym (ap is_empty c)))
same_turns s u (t ∷ ts) [] e f g c = absurd (false≢true (ap is_empty c))
same_turns s u (t ∷ ts) (v ∷ us) e f g c =
    let before : ts ≡ us = same_turns s u ts us e f.1 g.1 (ap rest c) in
    let states : state_after s ts ≡ state_after u us = ap₂ (λ (x : State) (xs : List Turn). state_after x xs) e before in
    let turn : t ≡ v = same_turn (state_after s ts) (state_after u us) t v states (ap (first_or t.call) c) f.0 g.0 in
    ap₂ (λ (x : Turn) (xs : List Turn). x ∷ xs) turn before

same_opened : (o : Opening) (s u : State) (ts us : List Turn) → Run o s ts → Run o u us → s ≡ u
same_opened o s u ts us run other = run_opened o s ts run ∙ sym (run_opened o u us other)

same_runs : (o : Opening) (s u : State) (ts us : List Turn) → Run o s ts → Run o u us → calls_of ts ≡ calls_of us
    → (ts ≡ us) × (state_after s ts ≡ state_after u us)
same_runs o s u ts us run other c =
    let opened : s ≡ u = same_opened o s u ts us run other in
    let turns : ts ≡ us = same_turns s u ts us opened run.follows other.follows c in
    (turns, ap₂ (λ (x : State) (xs : List Turn). state_after x xs) opened turns)

-- the lists without their refused calls are runs to the same record and store, by demand 3
pub equal_runs : EqualRuns
equal_runs o s u ts us run other =
    let d = demand3 o s ts run in
    let e = demand3 o u us other in
    record {
      opened = same_opened o s u ts us run other;
      by_calls = same_runs o s u ts us run other;
      by_accepted =
          λ c.
          let kept = same_runs o s u _ _ d.same_run e.same_run c in
          (kept.0, sym d.same_state ∙ kept.1 ∙ e.same_state);
    }
