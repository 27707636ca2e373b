-- What a token does, by what is expected: its kind, and its place (docs/HISTORY-FILE.md).
use Rattle.std.specs.Prelude.{ℕ, ◌+◌, ◌*◌, ◌%◌, min, Bool, true, false, cond, eqb, ltb, get_or, Option, Some, None, is_some, option_and_then}
use Rattle.line_tokens.specs.declared.words.Word.{Word}
use Rattle.line_tokens.specs.declared.words.Word.TheVariants as word
use Rattle.line_tokens.specs.declared.Kind.{Kind}
use Rattle.line_tokens.specs.declared.Kind.TheVariants as kind
use Rattle.line_reader.specs.declared.calls.Call.{Call}
use Rattle.line_reader.specs.declared.calls.Call.TheVariants as call
use Rattle.line_reader.specs.declared.errors.Error.TheVariants as error
use Rattle.line_reader.specs.declared.names.Argument.{Argument}
use Rattle.line_reader.specs.declared.names.Argument.TheVariants as key
use Rattle.line_reader.specs.declared.Mode.{Mode}
use Rattle.line_reader.specs.declared.Mode.TheVariants as mode
use Rattle.line_reader.specs.declared.Depth.{Depth}
use Rattle.line_reader.specs.declared.Depth.TheVariants.{Outside, Repetition, FirstDay, SecondDay}
use Rattle.line_reader.specs.declared.Action.{Action}
use Rattle.line_reader.specs.declared.Action.TheVariants.{Number, InGroup, Group, Week}
use Rattle.line_reader.specs.declared.Numbers.{Numbers}
use Rattle.line_reader.specs.declared.Line.{Line}
use Rattle.line_reader.specs.Codes.{index_of}
use Rattle.line_reader.specs.Changes.{with_mode, with_error, with_call, with_value, with_numbers, with_limit, with_times}
use Rattle.line_reader.specs.Names.{call_of, key_of, word_value, expected_for, largest_for}

-- THE CALL
-- behind the call's word: the year of an opening, the source of a neighbour reading, the reason of a failure; hours or volume; nothing;
-- the marks
unfoldable pub behind_call : Call → Mode
behind_call call.Close = mode.List
behind_call call.BillingHours = mode.Form
behind_call call.ControlHours = mode.Form
behind_call call.Admission = mode.Last
behind_call call.Denial = mode.Last
behind_call call.Permission = mode.Last
behind_call call.Neighbour = mode.Value key.Source
behind_call call.Failure = mode.Value key.Reason
behind_call _ = mode.Value key.Year

-- marks are of at most 255
unfoldable pub limit_for : Call → ℕ
limit_for call.Close = 255
limit_for _ = 4294967295

unfoldable pub begun : Call → Line → Line
begun call s = with_numbers (behind_call call) (with_limit (limit_for call) s.numbers) (with_call call s)

-- a word that starts a call, or none
unfoldable pub called : Option Call → ℕ → Line → Line
called (Some call) place s = begun call s
called None place s = with_error error.Call place s

unfoldable pub in_call : Kind → ℕ → Line → Line
in_call kind.End place s = with_mode mode.Read s
in_call (kind.Word (Some w)) place s = called (call_of w) place s
in_call _ place s = with_error error.Call place s

-- ARGUMENTS
-- behind a value: the - of a year, the volume of a neighbour reading, the next argument of an opening, or nothing
unfoldable pub behind_value : Argument → Mode
behind_value key.Year = mode.Dash
behind_value key.Source = mode.Value key.Volume
behind_value key.Currents = mode.Last
behind_value key.Reason = mode.Last
behind_value key.Volume = mode.Last
behind_value _ = mode.Argument

unfoldable pub value_taken : Argument → ℕ → Line → Line
value_taken key v s = with_mode (behind_value key) (with_value key v s)

-- a word that is a value of the argument, or none
unfoldable pub value_given : Argument → Option ℕ → ℕ → Line → Line
value_given key (Some v) place s = value_taken key v s
value_given key None place s = with_error (expected_for key) place s

unfoldable pub in_value : Argument → Kind → ℕ → Line → Line
in_value key (kind.Number v) place s = cond (ltb (largest_for key) v) (with_error error.Large place s) (value_taken key v s)
in_value key (kind.Word (Some w)) place s = value_given key (word_value key w) place s
in_value key _ place s = with_error (expected_for key) place s

unfoldable pub in_dash : Kind → ℕ → Line → Line
in_dash kind.Dash place s = with_mode (mode.Value key.Month) s
in_dash _ place s = with_error error.Dash place s

unfoldable pub value_in : Argument → Line → Option ℕ
value_in key s = get_or s.values (index_of key) None

-- the value of the argument with a number, its place among the values; a number that no argument has has none
unfoldable pub value_by : ℕ → Line → Option ℕ
value_by key s = cond (ltb key 15) (get_or s.values key None) None

-- behind `currents` a list, behind any other argument its value
unfoldable pub asked_for : Argument → Line → Line
asked_for key.Currents s = with_mode mode.List (with_value key.Currents 0 s)
asked_for key s = with_mode (mode.Value key) s

-- each argument at most once
unfoldable pub named_as : Option Argument → ℕ → Line → Line
named_as None place s = with_error error.Argument place s
named_as (Some key) place s = cond (is_some (value_in key s)) (with_error error.Twice place s) (asked_for key s)

unfoldable pub in_argument : Kind → ℕ → Line → Line
in_argument kind.End place s = with_mode mode.Read s
in_argument (kind.Word w) place s = named_as (option_and_then key_of w) place s
in_argument _ place s = with_error error.Argument place s

-- the call of a meter's volume, from that of its hours
unfoldable pub volume_call : Option Call → Call
volume_call (Some call.BillingHours) = call.BillingVolume
volume_call _ = call.ControlVolume

unfoldable pub in_form : Kind → ℕ → Line → Line
in_form (kind.Word (Some word.Hours)) place s = with_mode mode.List s
in_form (kind.Word (Some word.Volume)) place s = with_mode (mode.Value key.Volume) (with_call (volume_call s.call) s)
in_form _ place s = with_error error.Form place s

unfoldable pub in_last : Kind → ℕ → Line → Line
in_last kind.End place s = with_mode mode.Read s
in_last _ place s = with_error error.Last place s

-- LISTS
-- whether parentheses are open
unfoldable pub is_inside : Depth → Bool
is_inside Outside = false
is_inside _ = true

unfoldable pub added_to : Numbers → ℕ → ℕ → Numbers
added_to n times v =
    let value : ℕ = v % 4294967296 in
    cond (is_inside n.depth)
    (record n { inner = min (n.inner + times) 4096; fresh = false; action = Some (InGroup value) })
    (record n { count = min (n.count + times) 4096; fresh = false; action = Some (Number value) })

-- behind a number another part, or between parentheses another item
unfoldable pub behind_item : Depth → Mode
behind_item Outside = mode.List
behind_item _ = mode.Group

-- a number, so many times: not above the limit, and not too many
unfoldable pub adding : ℕ → ℕ → ℕ → Line → Line
adding times v place s =
    let n : Numbers = s.numbers in
    cond (ltb n.limit v) (with_error error.Large place s)
    (cond (ltb 4096 (n.count + n.inner + times)) (with_error error.ListLength place s)
    (with_numbers (behind_item n.depth) (added_to n times v) s))

unfoldable pub counting : ℕ → ℕ → Line → Line
counting v place s =
    cond (ltb 4096 v) (with_error error.ListLength place s) (with_numbers mode.Counted (with_times (min v 4096) s.numbers) s)

unfoldable pub is_opening : Option Call → Bool
is_opening (Some call.Open) = true
is_opening _ = false

-- `week`, or `none` as the first part
unfoldable pub list_word : Option Word → ℕ → Line → Line
list_word (Some word.Week) place s = with_mode mode.Day s
list_word (Some word.None) place s = cond s.numbers.fresh (with_mode mode.Last s) (with_error error.Part place s)
list_word _ place s = with_error error.Part place s

-- a word: in an opening the next argument, but not as the first part
unfoldable pub word_in : Option Word → ℕ → Line → Line
word_in w place s =
    cond (is_opening s.call)
    (cond s.numbers.fresh (with_error error.Part place s) (named_as (option_and_then key_of w) place s))
    (list_word w place s)

unfoldable pub in_list : Kind → ℕ → Line → Line
in_list (kind.Number v) place s = adding 1 v place s
in_list (kind.Count v) place s = counting v place s
in_list (kind.Word w) place s = word_in w place s
in_list kind.End place s = cond s.numbers.fresh (with_error error.Part place s) (with_mode mode.Read s)
in_list _ place s = with_error error.Part place s

unfoldable pub closed_numbers : Numbers → ℕ → Action → Numbers
closed_numbers n count action =
    record n { count = min count 4096; inner = 0; depth = Outside; fresh = false; action = Some action }

-- the list behind closed parentheses has so many numbers
unfoldable pub repeated : ℕ → Action → ℕ → Line → Line
repeated total action place s =
    cond (ltb 4096 total) (with_error error.ListLength place s) (with_numbers mode.List (closed_numbers s.numbers total action) s)

-- the parentheses close. A day has 24 numbers, both of a week 48; a week stands for T hours, a repetition for its numbers so many times
unfoldable pub closed_at : Depth → ℕ → ℕ → Line → Line
closed_at FirstDay hours place s = cond (eqb s.numbers.inner 24) (with_mode mode.Day s) (with_error error.DayLength place s)
closed_at SecondDay hours place s =
    cond (eqb s.numbers.inner 48) (repeated (s.numbers.count + hours) Week place s) (with_error error.DayLength place s)
closed_at _ hours place s = repeated (s.numbers.count + s.numbers.repeat * s.numbers.inner) Group place s

unfoldable pub group_closed : ℕ → ℕ → Line → Line
group_closed hours place s = closed_at s.numbers.depth hours place s

unfoldable pub in_group : ℕ → Kind → ℕ → Line → Line
in_group hours (kind.Number v) place s = adding 1 v place s
in_group hours (kind.Count v) place s = counting v place s
in_group hours kind.Right place s = cond s.numbers.fresh (with_error error.Item place s) (group_closed hours place s)
in_group hours _ place s = with_error error.Item place s

unfoldable pub opened_numbers : Numbers → Depth → Numbers
opened_numbers n depth = record n { repeat = n.times; depth = depth; fresh = true }

-- behind a count a number, or outside parentheses a (
unfoldable pub in_counted : Kind → ℕ → Line → Line
in_counted (kind.Number v) place s = adding s.numbers.times v place s
in_counted kind.Left place s =
    cond (is_inside s.numbers.depth) (with_error error.Counted place s) (with_numbers mode.Group (opened_numbers s.numbers Repetition) s)
in_counted _ place s = with_error error.Counted place s

-- the ( of the first day of a week, or of the second
unfoldable pub next_day : Depth → Depth
next_day FirstDay = SecondDay
next_day _ = FirstDay

unfoldable pub in_day : Kind → ℕ → Line → Line
in_day kind.Left place s = with_numbers mode.Group (opened_numbers s.numbers (next_day s.numbers.depth)) s
in_day _ place s = with_error error.Day place s
