-- THE READING OF A LINE (docs/HISTORY-FILE.md): its call with the arguments and the list, or its error, from its bytes.
use Rattle.std.specs.Prelude.{ℕ, zero, suc, ◌≡◌, ◌⊎◌, ◌≢◌, Bool, true, false, cond, List, length, replicate, Option, Some, None}
use Rattle.line_tokens.specs.declared.Kind.{Kind}
use Rattle.line_tokens.specs.declared.Kind.TheVariants as kind
use Rattle.line_tokens.specs.declared.Token.{Token}
use Rattle.line_tokens.specs.Tokens.{token_at}
use Rattle.line_reader.specs.declared.errors.Error.TheVariants as error
use Rattle.line_reader.specs.declared.errors.Fault.{Fault}
use Rattle.line_reader.specs.declared.Mode.{Mode}
use Rattle.line_reader.specs.declared.Mode.TheVariants as mode
use Rattle.line_reader.specs.declared.Depth.TheVariants.{Outside}
use Rattle.line_reader.specs.declared.Line.{Line}
use Rattle.line_reader.specs.Codes.{error_number}
use Rattle.line_reader.specs.Changes.{with_error, with_numbers, moved_to, without_action}
use Rattle.line_reader.specs.Modes.{in_call, in_value, in_dash, in_argument, in_form, in_list, in_group, in_counted, in_day, in_last}
use Rattle.line_reader.specs.Buffers.{written_numbers, written_group}

-- a line of which nothing is read
abbrev pub fresh_line : Line
fresh_line =
    record {
      mode = mode.Call;
      at = 0;
      call = None;
      values = replicate 15 None;
      numbers = record { limit = 4294967295; count = 0; inner = 0; times = 0; repeat = 0; depth = Outside; fresh = true; action = None };
    }

-- what a token does, by what is expected
unfoldable pub in_mode : ℕ → Mode → Kind → ℕ → Line → Line
in_mode hours mode.Call t place s = in_call t place s
in_mode hours (mode.Value key) t place s = in_value key t place s
in_mode hours mode.Dash t place s = in_dash t place s
in_mode hours mode.Argument t place s = in_argument t place s
in_mode hours mode.Form t place s = in_form t place s
in_mode hours mode.List t place s = in_list t place s
in_mode hours mode.Group t place s = in_group hours t place s
in_mode hours mode.Counted t place s = in_counted t place s
in_mode hours mode.Day t place s = in_day t place s
in_mode hours _ t place s = in_last t place s

-- a foreign byte and a number of too many digits go before all else
unfoldable pub after_token : ℕ → Kind → ℕ → Line → Line
after_token hours kind.Foreign place s = with_error error.Foreign place s
after_token hours kind.Long place s = with_error error.Large place s
after_token hours t place s = in_mode hours s.mode t place s

-- the next token of the line
unfoldable pub next_token : ℕ → List ℕ → Line → Line
next_token hours line s =
    let t : Token = token_at line s.at in
    moved_to t.to (after_token hours t.kind t.from (with_numbers s.mode (without_action s.numbers) s))

-- a line is finished where it is read or failed
unfoldable pub is_finished : Mode → Bool
is_finished mode.Read = true
is_finished (mode.Failed fault) = true
is_finished _ = false

-- the error of a line that failed
unfoldable pub fault_in : Mode → Option Fault
fault_in (mode.Failed fault) = Some fault
fault_in _ = None

-- a line as far as it is read, the numbers of its list, and those between parentheses
pub record LineRead : Type 0 where
  pub line : Line
  pub numbers : List ℕ
  pub group : List ℕ

abbrev pub line_read : Line → List ℕ → List ℕ → LineRead
line_read s numbers group = record { line = s; numbers = numbers; group = group }

-- one token more; a line that is finished stays. T of the open month, and the day of the week of its first day
unfoldable pub read_token : ℕ → ℕ → List ℕ → LineRead → LineRead
read_token hours first line r =
    let s : Line = next_token hours line r.line in
    cond (is_finished r.line.mode) r
    (line_read s (written_numbers first r.line.numbers s.numbers r.numbers r.group) (written_group r.line.numbers s.numbers r.group))

unfoldable pub read_tokens : ℕ → ℕ → ℕ → List ℕ → LineRead → LineRead
read_tokens zero hours first line r = r
read_tokens (suc n) hours first line r = read_tokens n hours first line (read_token hours first line r)

-- A LINE READ, with the numbers written over those in the buffers: it has at most a token for each byte, and the end
unfoldable pub read_line : ℕ → ℕ → List ℕ → List ℕ → List ℕ → LineRead
read_line hours first line numbers group =
    read_token hours first line (read_tokens (length line) hours first line (line_read fresh_line numbers group))

-- the error that a line ended with, and its place
unfoldable pub fault_of : Line → Option Fault
fault_of s = fault_in s.mode

-- the number of an error, and 0 where there is none
unfoldable pub fault_number : Option Fault → ℕ
fault_number (Some fault) = error_number fault.error
fault_number None = 0

-- a line that is read has no error, and one that failed has one
abbrev pub Ended : Line → Type 0
Ended s =
    ((s.mode ≡ mode.Read) × (fault_number (fault_of s) ≡ 0))
    ⊎ (((fault : Fault) × (s.mode ≡ mode.Failed fault)) × (fault_number (fault_of s) ≢ 0))
