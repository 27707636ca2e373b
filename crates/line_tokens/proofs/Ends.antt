-- What a token leaves of a line: it ends it, or the next one starts behind it. Assumes nothing.
use mathlib.Core.Path.{◌≡◌, refl}
use mathlib.Core.Logic.{◌⊎◌, inl, inr}
use mathlib.Core.Bool.{Bool, true, false, cond}
use mathlib.Core.List.{List}
use Prim.Native.Nat.{ℕ, ◌+◌, ◌≤◌, ◌<◌}
use native.Mathlib.Decide.{dec_lt}
use native.Mathlib.Omega.{arith}
use borrow.Author.Tests.{lt-ltb}
use lib.Dec.{eqb, ltb}
use lib.ListN.{length, get_or-eq_default}
use Rattle.std.proofs.lemmas.List.Sums.{prefix_len-drop_yes}
use Rattle.std.proofs.lemmas.List.Folds.{length-prefix_len}
use Rattle.numbers.proofs.Laws.{by_cases}
use Rattle.line_tokens.specs.declared.Class.{Class}
use Rattle.line_tokens.specs.declared.Class.TheVariants.{Blank, Digit, Letter}
use Rattle.line_tokens.specs.declared.Kind.TheVariants.{End}
use Rattle.line_tokens.specs.Tokens.{class_of, is_of, run_from, span_from, byte_at, place_behind, single_kind, number_token, word_token}
use Rattle.line_tokens.specs.Tokens.{token_by, token_from, token_at}

span_from_lem : (class : Class) (line : List ℕ) (from : ℕ) → from ≤ span_from class line from
unfolding span_from
span_from_lem class line from = omega arith

-- from a byte of the class on, the run is not empty
run_some : (class : Class) (line : List ℕ) (from : ℕ) → from < length line
    → is_of class (byte_at line from) ≡ true → 0 < length (run_from class line from)
unfolding byte_at run_from
run_some class line from l e = rw (length-prefix_len, prefix_len-drop_yes (is_of class) line from 35 l e) (omega arith)

behind_on : (b : Bool) (line : List ℕ) (from to : ℕ) → from < to → from < cond b (place_behind line to) to
unfolding place_behind
behind_on true line from to l = by_cases (ltb to (length line)) (λ t. rw t (omega arith)) (λ f. rw f l)
behind_on false line from to l = l

-- from the end of the line on there is only its end
end_from : (line : List ℕ) (from : ℕ) → length line ≤ from → (token_from line from).kind ≡ End
unfolding token_from token_by single_kind byte_at class_of
end_from line from l = rw (get_or-eq_default line 35 {n = from} l)

moves_on : (class : Class) (line : List ℕ) (from : ℕ) → class_of (byte_at line from) ≡ class → from < length line
    → from < (token_by class line from).to
unfolding token_by number_token word_token place_behind is_of
moves_on Digit line from e l =
    let to : ℕ = from + length (run_from Digit line from) in
    behind_on (eqb (byte_at line to) 42) line from to (omega (arith, run_some Digit line from l (rw e)))
moves_on Letter line from e l = omega (arith, run_some Letter line from l (rw e))
moves_on class line from e l = rw (lt-ltb _ _ l) (omega arith)

token_from_lem : (line : List ℕ) (from : ℕ) → from < length line → from < (token_from line from).to
unfolding token_from
token_from_lem line from l = moves_on (class_of (byte_at line from)) line from refl l

-- A TOKEN ENDS THE LINE, OR MOVES ON
pub token_on : (line : List ℕ) (at : ℕ) → ((token_at line at).kind ≡ End) ⊎ (at < (token_at line at).to)
unfolding token_at
token_on line at =
    let from = span_from Blank line at in
    elim (dec_lt from (length line)) [
      | yes l ↦ inr (omega (arith, token_from_lem line from l, span_from_lem Blank line at))
      | no f ↦ inl (end_from line from (omega arith))
    ]

-- and past the last byte it ends it
pub token_end : (line : List ℕ) (at : ℕ) → length line ≤ at → (token_at line at).kind ≡ End
unfolding token_at
token_end line at l = end_from line (span_from Blank line at) (omega (arith, span_from_lem Blank line at))
