-- A line with one thing changed.
use Rattle.std.specs.Prelude.{ℕ, Some, None, set}
use Rattle.line_reader.specs.declared.calls.Call.{Call}
use Rattle.line_reader.specs.declared.errors.Error.{Error}
use Rattle.line_reader.specs.declared.names.Argument.{Argument}
use Rattle.line_reader.specs.declared.Mode.{Mode}
use Rattle.line_reader.specs.declared.Mode.TheVariants.{Failed}
use Rattle.line_reader.specs.declared.Numbers.{Numbers}
use Rattle.line_reader.specs.declared.Line.{Line}
use Rattle.line_reader.specs.Codes.{index_of}

abbrev pub with_mode : Mode → Line → Line
with_mode m s = record s { mode = m }

-- an error at a place
abbrev pub with_error : Error → ℕ → Line → Line
with_error e place s = record s { mode = Failed (record { error = e; place = place }) }

abbrev pub with_call : Call → Line → Line
with_call call s = record s { call = Some call }

-- the value of an argument is known
abbrev pub with_value : Argument → ℕ → Line → Line
with_value key v s = record s { values = set s.values (index_of key) (Some v) }

abbrev pub with_numbers : Mode → Numbers → Line → Line
with_numbers m n s = record s { mode = m; numbers = n }

abbrev pub moved_to : ℕ → Line → Line
moved_to at s = record s { at = at }

-- the list with no action
abbrev pub without_action : Numbers → Numbers
without_action n = record n { action = None }

abbrev pub with_limit : ℕ → Numbers → Numbers
with_limit limit n = record n { limit = limit }

abbrev pub with_times : ℕ → Numbers → Numbers
with_times times n = record n { times = times }
