-- EVERY LINE ENDS READ OR FAILED: read with no error, failed with one. So the error alone says which. Assumes nothing.
use mathlib.Core.Path.{◌≡◌, refl, sym, ◌∙◌}
use mathlib.Core.Logic.{◌⊎◌, ◌≢◌, inl, inr, ⊎_elim}
use mathlib.Core.Bool.{Bool, true, false, cond, false≢true}
use mathlib.Core.List.{List}
use Prim.Native.Nat.{ℕ, zero, suc, ◌+◌, ◌-◌, ◌≤◌, ◌<◌}
use native.Mathlib.Decide.{dec_lt}
use native.Mathlib.Nat.{add-zero, zero-add}
use native.Mathlib.Omega.{arith}
use lib.ListN.{length}
use Rattle.numbers.proofs.Laws.{by_cases}
use Rattle.line_tokens.specs.declared.Kind.TheVariants.{End}
use Rattle.line_tokens.specs.Tokens.{token_at}
use Rattle.line_tokens.proofs.Ends.{token_on, token_end}
use Rattle.line_reader.specs.declared.errors.Error.{Error}
use Rattle.line_reader.specs.declared.errors.Error.TheVariants as error
use Rattle.line_reader.specs.declared.Mode.{Mode}
use Rattle.line_reader.specs.declared.Mode.TheVariants as mode
use Rattle.line_reader.specs.declared.Line.{Line}
use Rattle.line_reader.specs.Codes.{error_number}
use Rattle.line_reader.specs.Changes.{with_numbers, without_action}
use Rattle.line_reader.specs.Modes.{in_call, in_value, in_dash, in_argument, in_form, in_last, in_list, in_group, in_counted, in_day}
use Rattle.line_reader.specs.Lines.{fresh_line, in_mode, after_token, next_token, is_finished, fault_in, fault_of, fault_number, LineRead, line_read}
use Rattle.line_reader.specs.Lines.{read_token, read_tokens, read_line, Ended}
use Rattle.line_reader.proofs.Finished.{token_done}

-- THE END OF THE LINE FINISHES IT, whatever was expected
record Done (s : Line) : Type 0 where
  is : is_finished s.mode ≡ true

done : {s : Line} → is_finished s.mode ≡ true → Done s
done e = record { is = e }

done_either : (b : Bool) {x y : Line} → Done x → Done y → Done (cond b x y)
done_either true p q = p
done_either false p q = q

end_in_list : (place : ℕ) (s : Line) → Done (in_list End place s)
unfolding in_list is_finished
end_in_list place s = done_either s.numbers.fresh (done refl) (done refl)

end_in_group : (hours place : ℕ) (s : Line) → Done (in_group hours End place s)
unfolding in_group is_finished
end_in_group hours place s = done refl

end_in_counted : (place : ℕ) (s : Line) → Done (in_counted End place s)
unfolding in_counted is_finished
end_in_counted place s = done refl

end_in_day : (place : ℕ) (s : Line) → Done (in_day End place s)
unfolding in_day is_finished
end_in_day place s = done refl

end_in_mode : (hours : ℕ) (m : Mode) (place : ℕ) (s : Line) → Done (in_mode hours m End place s)
unfolding in_mode in_call in_value in_dash in_argument in_form in_last is_finished
end_in_mode hours mode.Call place s = done refl
end_in_mode hours (mode.Value key) place s = done refl
end_in_mode hours mode.Dash place s = done refl
end_in_mode hours mode.Argument place s = done refl
end_in_mode hours mode.Form place s = done refl
end_in_mode hours mode.List place s = end_in_list place s
end_in_mode hours mode.Group place s = end_in_group hours place s
end_in_mode hours mode.Counted place s = end_in_counted place s
end_in_mode hours mode.Day place s = end_in_day place s
end_in_mode hours _ place s = done refl

end_done : (hours place : ℕ) (s : Line) → Done (after_token hours End place s)
unfolding after_token
end_done hours place s = end_in_mode hours s.mode place s

-- TOKEN BY TOKEN: a line of which n tokens are read is finished, or stands at place n or behind it
abbrev Far : ℕ → Line → Type 0
Far n s = Done s ⊎ (n ≤ s.at)

at_end : (hours : ℕ) (line : List ℕ) (s : Line) → (token_at line s.at).kind ≡ End → Done (next_token hours line s)
unfolding next_token
at_end hours line s k = rw k (done (end_done hours (token_at line s.at).from (with_numbers s.mode (without_action s.numbers) s)).is)

next_far : (hours : ℕ) (line : List ℕ) (s : Line) (n : ℕ) → n ≤ s.at → Far (n + 1) (next_token hours line s)
unfolding next_token
next_far hours line s n l =
    ⊎_elim (λ k. inl (at_end hours line s k)) (λ m. inr (omega arith)) (token_on line s.at)

module _ (hours first : ℕ) (line : List ℕ) (r : LineRead) where
  token_far : (n : ℕ) → Far n r.line → Far (n + 1) (read_token hours first line r).line
  unfolding read_token
  token_far n far =
      by_cases (is_finished r.line.mode)
      (λ t. rw (token_done hours first line r t) (inl (done t)))
      (λ g. rw g (⊎_elim (λ d. absurd (false≢true (sym g ∙ d.is))) (next_far hours line r.line n) far))

  -- past the last byte the next token finishes it
  end_far : Far (length line) r.line → Done (read_token hours first line r).line
  unfolding read_token
  end_far far =
      by_cases (is_finished r.line.mode)
      (λ t. rw (token_done hours first line r t) (done t))
      (λ g. rw g (⊎_elim (λ d. absurd (false≢true (sym g ∙ d.is))) (λ l. at_end hours line r.line (token_end line r.line.at l)) far))

tokens_far : (k hours first : ℕ) (line : List ℕ) (r : LineRead) (n : ℕ) → Far n r.line
    → Far (n + k) (read_tokens k hours first line r).line
unfolding read_tokens
tokens_far zero hours first line r n f = rw add-zero f
tokens_far (suc k) hours first line r n f =
    let e : n + suc k ≡ n + 1 + k = omega arith in
    rw e (tokens_far k hours first line (read_token hours first line r) (n + 1) (token_far hours first line r n f))

-- THE LINE IS READ, WITH NO ERROR, OR FAILED, WITH ONE
-- each error has a number, of 1 to 20
pub error_some : (e : Error) → 1 ≤ error_number e
unfolding error_number
error_some error.LongLine = omega arith
error_some _ = omega arith

pub error_last : (e : Error) → error_number e ≤ 20
unfolding error_number
error_last error.LongLine = omega arith
error_last _ = omega arith

error_never_0 : (e : Error) → error_number e ≢ 0
error_never_0 e z = absurd (omega (arith, error_some e, z))

ended : (s : Line) (m : Mode) → s.mode ≡ m → is_finished m ≡ true → Ended s
unfolding is_finished fault_of fault_in fault_number
ended s mode.Read e f = inl (e, rw e)
ended s (mode.Failed fault) e f = inr ((fault, e), rw e (error_never_0 fault.error))
ended s mode.Call e f = absurd (false≢true f)
ended s _ e f = absurd (false≢true f)

pub read_finished : (hours first : ℕ) (line numbers group : List ℕ)
    → is_finished (read_line hours first line numbers group).line.mode ≡ true
unfolding read_line
read_finished hours first line numbers group =
    let start : Far 0 fresh_line = inr (omega arith) in
    let before : LineRead = read_tokens (length line) hours first line (line_read fresh_line numbers group) in
    let far : Far (length line) before.line =
    rw zero-add at (tokens_far (length line) hours first line (line_read fresh_line numbers group) 0 start) in
    (end_far hours first line before far).is

pub ends : (hours first : ℕ) (line numbers group : List ℕ) → Ended (read_line hours first line numbers group).line
ends hours first line numbers group = ended _ _ refl (read_finished hours first line numbers group)

-- so the error alone tells a call from an error
pub read_by_error : (hours first : ℕ) (line numbers group : List ℕ)
    → fault_number (fault_of (read_line hours first line numbers group).line) ≡ 0
    → (read_line hours first line numbers group).line.mode ≡ mode.Read
read_by_error hours first line numbers group e =
    ⊎_elim (λ p. p.0) (λ q. absurd (q.1 e)) (ends hours first line numbers group)

-- SO READING ENDS: while a line is not finished, each token leaves less of it
abbrev pub left_of : List ℕ → Line → ℕ
left_of line s = cond (is_finished s.mode) 0 (1 + (length line - s.at))

next_less : (hours : ℕ) (line : List ℕ) (s : Line) → is_finished s.mode ≡ false → left_of line (next_token hours line s) < left_of line s
unfolding next_token
next_less hours line s g =
    by_cases (is_finished (next_token hours line s).mode)
    (λ t. rw (t, g) (omega arith))
    (λ f.
    let more : (token_at line s.at).kind ≢ End = λ k. false≢true (sym f ∙ (at_end hours line s k).is) in
    let inside : s.at < length line = elim (dec_lt s.at (length line)) [ yes l ↦ l | no n ↦ absurd (more (token_end line s.at (omega arith))) ] in
    rw (f, g) (⊎_elim (λ k. absurd (more k)) (λ m. omega arith) (token_on line s.at)))

module _ (hours first : ℕ) (line : List ℕ) (r : LineRead) (g : is_finished r.line.mode ≡ false) where
  pub token_less : left_of line (read_token hours first line r).line < left_of line r.line
  unfolding read_token
  token_less = rw g (rw g at (next_less hours line r.line g))

  -- and one token fewer is left to read
  pub one_fewer : (numbers group : List ℕ) (n : ℕ) → read_tokens n hours first line r ≡ read_line hours first line numbers group
      → (m : ℕ) × (read_tokens m hours first line (read_token hours first line r) ≡ read_line hours first line numbers group)
  unfolding read_tokens
  one_fewer numbers group zero e = absurd (false≢true (sym g ∙ rw e (read_finished hours first line numbers group)))
  one_fewer numbers group (suc n) e = (n, e)
