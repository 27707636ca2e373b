-- Demand 3, cited: the contracts of an opening and of a closing make a run of one turn. Assumes nothing.
use Prim.Native.Nat.{ℕ}
use mathlib.Core.Path.{◌≡◌, refl, sym, ap, subst, ◌∙◌}
use mathlib.Core.Logic.{◌≢◌}
use mathlib.Core.Bool.{true, false, true≢false}
use mathlib.Core.List.{List, [], ◌∷◌}
use native.Mathlib.Nat.{add-zero}
use borrow.Author.Tests.{eq-eqb, ne_eqb}
use lib.ListN.{length, take}
use Rattle.numbers.specs.Lists.{sum}
use Rattle.calendar.specs.Calendar.{open_hours}
use Rattle.rules.specs.Calls.{Opening, closing, is_closing}
use Rattle.model.specs.declared.Answer.{Answer}
use Rattle.model.specs.Refusals.{open_refusal}
use Rattle.model.specs.Model.{State, state, Does}
use Rattle.model.specs.Opening.{opens, opened, open_leaves, open_answer, Opens}
use Rattle.history.specs.Book.{month_of}
use Rattle.history.specs.Claim.{Turn, state_after, Follows, Run, was_accepted, closes, book, handed, all_handed}
use Rattle.history.proofs.History.{demand3}
use Rattle.first_month.specs.FirstMonth.{FirstMonth}

-- the number of an opening
module _ (o : Opening) (before : List ℕ) (first : Answer) (after : List ℕ) (does : Opens o before first after) where
  number : first.refusal ≡ open_refusal (length before) o
  unfolding open_answer
  number = ap (λ (x : Answer). x.refusal) does.answered

  taken : first.refusal ≡ 0 → opens o before ≡ true
  unfolding opens
  taken e = eq-eqb (open_refusal (length before) o) 0 (sym number ∙ e)

  not_taken : first.refusal ≢ 0 → opens o before ≡ false
  unfolding opens
  not_taken n = ne_eqb (open_refusal (length before) o) 0 (λ e. n (number ∙ e))

  -- what it leaves where it is accepted
  state_opened : first.refusal ≡ 0 → state first.after after ≡ opened o
  unfolding open_answer open_leaves
  state_opened e =
      let point : first.after ≡ (opened o).point = ap (λ (x : Answer). x.after) does.answered ∙ rw (taken e) in
      let store : after ≡ (opened o).store = does.left ∙ rw (taken e) in
      λ i. state (point i) (store i)

-- the total, by demand 3
one_month : (o : Opening) (before after marks buffer : List ℕ) (first a : Answer) (store hours : List ℕ)
    → Opens o before first after → first.refusal ≡ 0 → Does (state first.after after) (closing marks buffer) a store hours
    → a.refusal ≡ 0 → a.after.total.0 ≡ sum (take (open_hours o.date) hours)
unfolding state_after Follows was_accepted closes book handed all_handed month_of is_closing
one_month o before after marks buffer first a store hours opens accepted does e =
    let t : Turn = record { call = closing marks buffer; answer = a; store = store; buffer = hours } in
    let run : Run o (state first.after after) (t ∷ []) =
    record { before = before; answer = first; opens = opens; point = refl; accepted = accepted; follows = (does, tt) } in
    rw (eq-eqb a.refusal 0 e, add-zero) at (demand3 o (state first.after after) (t ∷ []) run).total_handed

pub opened_only : (o : Opening) (before marks buffer : List ℕ) (first : Answer) {after : List ℕ} → Opens o before first after → first.refusal ≢ 0
    → FirstMonth o before marks buffer first after buffer
opened_only o before marks buffer first {after} does n =
    let no = not_taken o before first after does n in
    record {
      refused = λ f. does;
      untouched = λ f. refl;
      closed = λ t. absurd (true≢false (sym t ∙ no));
      total = λ t e. absurd (true≢false (sym t ∙ no));
    }

pub opened_and_closed : (o : Opening) (before after marks buffer : List ℕ) (first : Answer) {a : Answer} {store hours : List ℕ}
    → Opens o before first after → first.refusal ≡ 0 → Does (state first.after after) (closing marks buffer) a store hours
    → FirstMonth o before marks buffer a store hours
opened_and_closed o before after marks buffer first {a} {store} {hours} opening e does =
    let yes = taken o before first after opening e in
    record {
      refused = λ f. absurd (true≢false (sym yes ∙ f));
      untouched = λ f. absurd (true≢false (sym yes ∙ f));
      closed = λ t. subst (λ (s : State). Does s (closing marks buffer) a store hours) (state_opened o before first after opening e) does;
      total = λ t. one_month o before after marks buffer first a store hours opening e does;
    }
