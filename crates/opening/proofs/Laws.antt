-- The contract that an accepted opening keeps. Assumes nothing.
use Prim.Native.Nat.{ℕ}
use mathlib.Core.List.{List}
use mathlib.Core.Bool.{cond}
use mathlib.Core.Logic.{◌≢◌}
use borrow.Author.Tests.{eq-eqb}
use lib.Dec.{eqb}
use Rattle.store.specs.Store.{empty_store}
use lib.ListN.{length}
use mathlib.Core.Path.{◌≡◌, ◌∙◌}
use Rattle.units.specs.declared.Kw.{Kw}
use Rattle.power.specs.Power.{power_in, basis_fits}
use Rattle.contract.specs.Contract.{integral_on_big_load, keeping, kept}
use Rattle.rules.specs.Calls.{Opening}
use Rattle.model.specs.Refusals.{refuse, refuse_asked, asked_power, open_refusal}
use Rattle.record.specs.declared.Record.{Record}
use Rattle.record.specs.Record.{fresh_record, zero_record}
use Rattle.model.specs.declared.Answer.{Answer}
use Rattle.model.specs.Model.{state, without_figures}
use Rattle.model.specs.Opening.{opened, Opens}
use Rattle.model.proofs.Laws.{Allowed, asked_passed, asked_allows, allowed, not_opened}

-- the power that `power_of` answers: P, and 0 where something that is asked for does not fit
abbrev pub Worked : Opening → Kw → Type 0
Worked o p = p.0 ≡ power_in (basis_fits o.asked.basis o.asked.power.0 o.currents o.place o.asked.cable) (asked_power o)

worked_is : {words : ℕ} (o : Opening) (p : Kw) → Allowed words o → Worked o p → p.0 ≡ asked_power o
worked_is o p a e = e ∙ rw a.basis

-- the number of an opening of which 1 and 10 to 14 say nothing
pub number_after : (words : ℕ) (o : Opening) (p : Kw) {n : ℕ} → ((rest : ℕ) → refuse_asked words o rest ≡ rest) → Worked o p
    → refuse (integral_on_big_load o.asked.billing p.0) 15 0 ≡ n
    → open_refusal words o ≡ n
unfolding open_refusal
number_after words o p h e r = h _ ∙ rw (← worked_is o p (asked_allows o (asked_passed o (h 0))) e) r

-- the contract that an accepted one keeps
pub kept_is : (words : ℕ) (o : Opening) (p : Kw) → open_refusal words o ≡ 0 → Worked o p → keeping o.asked p ≡ kept o.asked o.currents o.place
unfolding kept
kept_is words o p h e = λ i. keeping o.asked (record { 0 = worked_is o p (allowed o h) e i })

-- a refused opening, from what its parts answer
pub refused_opening : (o : Opening) (store : List ℕ) {n : ℕ} {r : Record} {a : Answer} → n ≡ open_refusal (length store) o → n ≢ 0
    → r ≡ zero_record → a ≡ without_figures n r → Opens o store a store
refused_opening o store {a = a} e f z d = not_opened o store e f (rw z at d)

-- the point and the store that an accepted one leaves
pub opened_is : (o : Opening) (store : List ℕ) (p : Kw) (after : List ℕ) → open_refusal (length store) o ≡ 0
    → Worked o p → after ≡ cond (eqb (length store) 10416) empty_store store
    → state (fresh_record (keeping o.asked p) o.date) after ≡ opened o
unfolding opened
opened_is o store p after h e l =
    rw (kept_is (length store) o p h e, l, eq-eqb _ 10416 (allowed o h).size)
