-- What the words of a history file stand for (docs/HISTORY-FILE.md, 'Calls').
use Rattle.std.specs.Prelude.{ℕ, Option, Some, None}
use Rattle.line_tokens.specs.declared.words.Word.{Word}
use Rattle.line_tokens.specs.declared.words.Word.TheVariants as word
use Rattle.line_reader.specs.declared.calls.Call.{Call}
use Rattle.line_reader.specs.declared.calls.Call.TheVariants as call
use Rattle.line_reader.specs.declared.errors.Error.{Error}
use Rattle.line_reader.specs.declared.errors.Error.TheVariants as error
use Rattle.line_reader.specs.declared.names.Argument.{Argument}
use Rattle.line_reader.specs.declared.names.Argument.TheVariants as key

-- the call that a word starts; the call of a meter's hours stands for both of its readings
unfoldable pub call_of : Word → Option Call
call_of word.Open = Some call.Open
call_of word.Billing = Some call.BillingHours
call_of word.Control = Some call.ControlHours
call_of word.Neighbour = Some call.Neighbour
call_of word.Failure = Some call.Failure
call_of word.Admission = Some call.Admission
call_of word.Denial = Some call.Denial
call_of word.Permission = Some call.Permission
call_of word.Close = Some call.Close
call_of _ = None

-- the argument that a word of an opening names
unfoldable pub key_of : Word → Option Argument
key_of word.Billing = Some key.Billing
key_of word.Control = Some key.Control
key_of word.Basis = Some key.Basis
key_of word.Power = Some key.Power
key_of word.Place = Some key.Place
key_of word.Amperes = Some key.Amperes
key_of word.Volts = Some key.Volts
key_of word.Cosine = Some key.Cosine
key_of word.Phases = Some key.Phases
key_of word.Currents = Some key.Currents
key_of _ = None

-- the number that a word stands for as a meter
unfoldable pub meter_word : Word → Option ℕ
meter_word word.None = Some 0
meter_word word.Interval = Some 1
meter_word word.Integral = Some 2
meter_word _ = None

-- as a basis
unfoldable pub basis_word : Word → Option ℕ
basis_word word.Agreed = Some 1
basis_word word.Shared = Some 2
basis_word word.Cable = Some 3
basis_word _ = None

-- as a source
unfoldable pub source_word : Word → Option ℕ
source_word word.Billing = Some 1
source_word word.Control = Some 2
source_word _ = None

-- and as a reason
unfoldable pub reason_word : Word → Option ℕ
reason_word word.Fault = Some 1
reason_word word.Loss = Some 2
reason_word word.Verification = Some 3
reason_word word.Removal = Some 4
reason_word _ = None

-- the number that a word stands for as the value of an argument
unfoldable pub word_value : Argument → Word → Option ℕ
word_value key.Billing w = meter_word w
word_value key.Control w = meter_word w
word_value key.Basis w = basis_word w
word_value key.Source w = source_word w
word_value key.Reason w = reason_word w
word_value _ w = None

-- the error of an argument whose value is missing
unfoldable pub expected_for : Argument → Error
expected_for key.Billing = error.Meter
expected_for key.Control = error.Meter
expected_for key.Basis = error.Basis
expected_for key.Source = error.Source
expected_for key.Reason = error.Reason
expected_for _ = error.Number

-- the largest number that an argument takes
unfoldable pub largest_for : Argument → ℕ
largest_for key.Volume = 999999999999999999
largest_for _ = 4294967295
