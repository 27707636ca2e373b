-- What holds of a line that is read token by token. Assumes nothing.
use mathlib.Core.Path.{◌≡◌, refl}
use mathlib.Core.Bool.{true}
use mathlib.Core.List.{List}
use Prim.Native.Nat.{ℕ, zero, suc, ◌-◌, ◌<◌}
use native.Mathlib.Nat.{not-suc-le-zero}
use native.Mathlib.Omega.{arith}
use Rattle.line_reader.specs.Lines.{is_finished, LineRead, read_token, read_tokens}

-- a line that is finished stays
pub token_done : (hours first : ℕ) (line : List ℕ) (r : LineRead)
    → is_finished r.line.mode ≡ true → read_token hours first line r ≡ r
unfolding read_token
token_done hours first line r e = rw e

pub tokens_done : (n hours first : ℕ) (line : List ℕ) (r : LineRead)
    → is_finished r.line.mode ≡ true → read_tokens n hours first line r ≡ r
unfolding read_tokens
tokens_done zero hours first line r e = refl
tokens_done (suc n) hours first line r e = rw (token_done hours first line r e) (tokens_done n hours first line r e)

-- so many tokens more, and one, leave a finished line as it is
pub finished : (n hours first : ℕ) (line : List ℕ) (r : LineRead)
    → is_finished r.line.mode ≡ true → read_token hours first line (read_tokens n hours first line r) ≡ r
finished n hours first line r e = rw (tokens_done n hours first line r e) (token_done hours first line r e)

-- one token read is one fewer to read
pub tokens_on : (n hours first : ℕ) (line : List ℕ) (r : LineRead) → 0 < n
    → read_tokens (n - 1) hours first line (read_token hours first line r) ≡ read_tokens n hours first line r
unfolding read_tokens
tokens_on zero hours first line r l = absurd (not-suc-le-zero l)
tokens_on (suc n) hours first line r l = let e : suc n - 1 ≡ n = omega arith in rw e

-- the token that is read first may be read last
pub tokens_last : (n hours first : ℕ) (line : List ℕ) (r : LineRead)
    → read_tokens n hours first line (read_token hours first line r) ≡ read_token hours first line (read_tokens n hours first line r)
unfolding read_tokens
tokens_last zero hours first line r = refl
tokens_last (suc n) hours first line r = tokens_last n hours first line (read_token hours first line r)
