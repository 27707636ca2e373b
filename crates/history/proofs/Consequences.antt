-- WHAT FOLLOWS FROM DEMAND 3 for the newest call of a run and for the one before it. Assumes nothing.
use Prim.Native.Nat.{ℕ, suc, ◌/◌}
use mathlib.Core.Path.{◌≡◌, refl, sym, ap, ◌∙◌}
use mathlib.Core.Logic.{◌≢◌}
use mathlib.Core.Bool.{true, false}
use mathlib.Core.List.{List, ◌∷◌}
use native.Mathlib.Omega.{arith}
use lib.Dec.{eqb}
use lib.ListN.{length}
use Rattle.numbers.specs.Lists.{at}
use Rattle.calendar.specs.Calendar.{open_hours}
use Rattle.marks.specs.Marks.{is_crowded, is_doubled, is_unmatched}
use Rattle.marks.proofs.WhichDay.{FirstDay}
use Rattle.store.specs.Store.{row_part, as_row}
use Rattle.rules.specs.declared.Figures.{Figures}
use Rattle.rules.specs.Calls.{Opening, closing, is_closing, marks_of, buffer_of}
use Rattle.rules.specs.Rules.{figures, no_figures}
use Rattle.rules.specs.Right.{NearShare}
use Rattle.model.specs.Refusals.{wrong_day}
use Rattle.model.specs.Model.{State, refusal, refused_figures}
use Rattle.model.proofs.Laws.{no_day}
use Rattle.model.proofs.WrongDay.{day_42, day_43, day_46, no_day_with}
use Rattle.history.specs.Book.{month_of, volumes, work_out}
use Rattle.history.specs.Claim.{Turn, state_after, Run, was_accepted, closes, book, handed, all_handed, fills_row, last_buffer}
use Rattle.history.proofs.History.{demand3}

-- P holds of the call t and of the call u before it, each with the calls before it
abbrev Two : (Turn → List Turn → Type 0) → Turn → Turn → List Turn → Type 0
Two P t u ts = P t (u ∷ ts) × P u ts

module _ (o : Opening) (s : State) (t u : Turn) (ts : List Turn) (run : Run o s (t ∷ u ∷ ts)) where
  -- NUMBERS are those of demand 2, and none is 1, 2 or 45
  numbers : Two (λ x before. x.answer.refusal ≡ refusal (state_after s before) x.call) t u ts
  numbers = let e = (demand3 o s (t ∷ u ∷ ts) run).as_demand2 in (e.0, e.1.0)

  never_given : Two (λ x before. (x.answer.refusal ≢ 1) × (x.answer.refusal ≢ 2) × (x.answer.refusal ≢ 45)) t u ts
  never_given = let g = (demand3 o s (t ∷ u ∷ ts) run).goes_on in ((g.0.long, g.0.sound, g.0.small), (g.1.0.long, g.1.0.sound, g.1.0.small))

  -- A REFUSED CALL: record, store and hour buffer are those before it, ground and figures 0 but for the day of a closing
  refused : Two
      (λ x before. was_accepted x ≡ false
      → (x.answer.after ≡ (state_after s before).point) × (x.store ≡ (state_after s before).store)
      × (x.buffer ≡ buffer_of x.call) × (x.answer.figures ≡ refused_figures x.answer.refusal x.call)) t u ts
  refused =
      let e = (demand3 o s (t ∷ u ∷ ts) run).untouched in
      (λ f. ((e.0 f).point, (e.0 f).store, (e.0 f).buffer, (e.0 f).figures), λ f. ((e.1.0 f).point, (e.1.0 f).store, (e.1.0 f).buffer, (e.1.0 f).figures))

  -- AN ACCEPTED CLOSING: the book's hours are handed out, the hour buffer has 0 behind them, and the figures are the book's
  closed : Two
      (λ x before. closes x ≡ true
      → (handed o x before ≡ (work_out o (book o before) x.call).hours) × (x.buffer ≡ as_row (work_out o (book o before) x.call).hours)
      × (x.answer.figures ≡ figures (work_out o (book o before) x.call) (marks_of x.call))) t u ts
  closed =
      let e = (demand3 o s (t ∷ u ∷ ts) run).by_book in
      (λ y. ((e.0 y).hours, (e.0 y).buffer, (e.0 y).figures), λ y. ((e.1.0 y).hours, (e.1.0 y).buffer, (e.1.0 y).figures))

  -- of its T = k + 1 hours the first and the last are near their exact shares
  near_at_ends : Two
      (λ x before. closes x ≡ true → (k : ℕ) → open_hours (month_of o (book o before)) ≡ suc k
      → NearShare (at (handed o x before) 0) ((work_out o (book o before) x.call).exact 0)
      × NearShare (at (handed o x before) k) ((work_out o (book o before) x.call).exact k)) t u ts
  near_at_ends =
      let e = (demand3 o s (t ∷ u ∷ ts) run).near in
      (λ y k l. (e.0 y 0 (omega (arith, l)), e.0 y k (omega (arith, l))), λ y k l. (e.1.0 y 0 (omega (arith, l)), e.1.0 y k (omega (arith, l))))

  -- THE TOTAL in the record is the sum of all hours handed out, and of the book's volumes
  total : (t.answer.after.total.0 ≡ all_handed o (t ∷ u ∷ ts)) × (t.answer.after.total.0 ≡ volumes (book o (t ∷ u ∷ ts)))
  unfolding state_after
  total = let d = demand3 o s (t ∷ u ∷ ts) run in (d.total_handed, d.total_book)

  -- DECEMBER'S ROW, the last, holds the whole hour buffer of a closing of December on ground 1, and still does after another call
  december : closes t ≡ true → t.answer.figures.ground ≡ 1 → (month_of o (book o (u ∷ ts))).month ≡ 12 → row_part t.store 11 744 ≡ t.buffer
  unfolding state_after last_buffer fills_row
  december c g m = (demand3 o s (t ∷ u ∷ ts) run).rows 11 (omega arith) ∙ rw (c, g, m)

  december_kept : closes t ≡ false → closes u ≡ true → u.answer.figures.ground ≡ 2 → (month_of o (book o ts)).month ≡ 12
      → row_part t.store 11 744 ≡ u.buffer
  unfolding state_after last_buffer fills_row
  december_kept n c g m = (demand3 o s (t ∷ u ∷ ts) run).rows 11 (omega arith) ∙ rw (n, c, g, m)

-- WHICH DAY'S MARKS ARE WRONG, of the newest call of a run
module _ (o : Opening) (s : State) (t : Turn) (ts : List Turn) (run : Run o s (t ∷ ts)) where
  refused_answer : was_accepted t ≡ false → t.answer.figures ≡ refused_figures t.answer.refusal t.call
  refused_answer f = ((demand3 o s (t ∷ ts) run).untouched.0 f).figures

  -- A REFUSED CALL that is no closing has ground and figures 0, and so has any with a number other than 42, 43 and 46
  other_call : was_accepted t ≡ false → is_closing t.call ≡ false → t.answer.figures ≡ no_figures
  other_call f c = refused_answer f ∙ no_day t.answer.refusal t.call c

  other_number : was_accepted t ≡ false → t.answer.refusal ≢ 42 → t.answer.refusal ≢ 43 → t.answer.refusal ≢ 46 → t.answer.figures ≡ no_figures
  other_number f a b d = refused_answer f ∙ no_day_with t.answer.refusal t.call a b d

  -- A CLOSING REFUSED with 42, 43 or 46 returns the first day of its marks with the fault of that number, counted from 1
  module _ (marks buffer : List ℕ) (shuts : t.call ≡ closing marks buffer) where
    given : refusal (state_after s ts) (closing marks buffer) ≡ t.answer.refusal
    given = sym (rw shuts at (demand3 o s (t ∷ ts) run).as_demand2.0)

    returned : {n : ℕ} → eqb n 0 ≡ false → t.answer.refusal ≡ n → t.answer.figures.wrong_day ≡ wrong_day n marks
    unfolding was_accepted refused_figures marks_of
    returned z e = ap (λ (x : Figures). x.wrong_day) (refused_answer (rw e z)) ∙ rw (e, shuts)

    first_crowded : t.answer.refusal ≡ 42 → FirstDay is_crowded marks (length marks / 24) t.answer.figures.wrong_day
    first_crowded e = rw (returned refl e) (day_42 (state_after s ts) marks buffer (given ∙ e))

    first_doubled : t.answer.refusal ≡ 43 → FirstDay is_doubled marks (length marks / 24) t.answer.figures.wrong_day
    first_doubled e = rw (returned refl e) (day_43 (state_after s ts) marks buffer (given ∙ e)).1

    first_unmatched : t.answer.refusal ≡ 46 → FirstDay is_unmatched marks (length marks / 24) t.answer.figures.wrong_day
    first_unmatched e = rw (returned refl e) (day_46 (state_after s ts) marks buffer (given ∙ e)).2
