-- The numbers of calls and errors, which the answers for programs have, and the places of arguments (docs/HISTORY-FILE.md).
use Rattle.std.specs.Prelude.{ℕ, ◌≡◌, ◌≢◌, Result, MatchResult}
use Rattle.line_reader.specs.declared.calls.Call.{Call}
use Rattle.line_reader.specs.declared.calls.Call.TheVariants as call
use Rattle.line_reader.specs.declared.errors.Error.{Error}
use Rattle.line_reader.specs.declared.errors.Error.TheVariants as error
use Rattle.line_reader.specs.declared.errors.UnknownError.{UnknownError}
use Rattle.line_reader.specs.declared.names.Argument.{Argument}
use Rattle.line_reader.specs.declared.names.Argument.TheVariants as key

-- the calls by number
unfoldable pub call_number : Call → ℕ
call_number call.Open = 1
call_number call.BillingHours = 2
call_number call.BillingVolume = 3
call_number call.ControlHours = 4
call_number call.ControlVolume = 5
call_number call.Neighbour = 6
call_number call.Failure = 7
call_number call.Admission = 8
call_number call.Denial = 9
call_number call.Permission = 10
call_number call.Close = 11

-- the errors, by the number of their sentence
unfoldable pub error_number : Error → ℕ
error_number error.LongLine = 1
error_number error.Foreign = 2
error_number error.Call = 3
error_number error.Number = 4
error_number error.Dash = 5
error_number error.Argument = 6
error_number error.Twice = 7
error_number error.Meter = 8
error_number error.Basis = 9
error_number error.Form = 10
error_number error.Source = 11
error_number error.Reason = 12
error_number error.Large = 13
error_number error.Part = 14
error_number error.Day = 15
error_number error.Item = 16
error_number error.DayLength = 17
error_number error.ListLength = 18
error_number error.Counted = 19
error_number error.Last = 20

-- the result is the error that has this number, or the number itself, which no error has
abbrev pub Decodes : ℕ → Result Error UnknownError → Type 0
Decodes number r =
    MatchResult r (λ e. error_number e ≡ number) (λ u. (u.0 ≡ number) × ((e : Error) → error_number e ≢ number))

-- the arguments of calls, by their places among the values
unfoldable pub index_of : Argument → ℕ
index_of key.Year = 0
index_of key.Month = 1
index_of key.Billing = 2
index_of key.Control = 3
index_of key.Basis = 4
index_of key.Power = 5
index_of key.Place = 6
index_of key.Amperes = 7
index_of key.Volts = 8
index_of key.Cosine = 9
index_of key.Phases = 10
index_of key.Currents = 11
index_of key.Source = 12
index_of key.Reason = 13
index_of key.Volume = 14
