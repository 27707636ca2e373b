-- Whole lines of a history file as they are read (docs/HISTORY-FILE.md), by computation. Places count from 0: a column less 1. Assumes nothing.
use Prim.Native.Nat.{ℕ}
use Prim.Native.String.{String}
use mathlib.Core.Path.{◌≡◌, refl}
use mathlib.Core.List.{List, [], ◌∷◌, ◌++◌, map}
use native.Mathlib.Omega.{arith}
use lib.ListN.{take, set, replicate}
use Rattle.std.specs.Prelude.{Option, Some, None, Ok, Err}
use Rattle.numbers.specs.Lists.{zeros}
use Rattle.line_tokens.specs.Words.{bytes, text_of, word_of}
use Rattle.line_tokens.specs.Tokens.{class_of, is_of, run_from, span_from, byte_at, place_behind, value_of, single_kind, number_token, word_token}
use Rattle.line_tokens.specs.Tokens.{token_by, token_from, token_at}
use Rattle.line_reader.specs.declared.calls.Call.{Call}
use Rattle.line_reader.specs.declared.calls.Call.TheVariants as call
use Rattle.line_reader.specs.declared.errors.Error.{Error}
use Rattle.line_reader.specs.declared.errors.Error.TheVariants as err
use Rattle.line_reader.specs.declared.names.Argument.{Argument}
use Rattle.line_reader.specs.declared.names.Argument.TheVariants as key
use Rattle.line_reader.specs.declared.Mode.{Mode}
use Rattle.line_reader.specs.declared.Mode.TheVariants as mode
use Rattle.line_reader.specs.Codes.{call_number, error_number, Decodes, index_of}
use Rattle.line_reader.specs.Names.{call_of, key_of, meter_word, basis_word, source_word, reason_word, word_value, expected_for, largest_for}
use Rattle.line_reader.specs.Modes.{behind_call, limit_for, begun, called, in_call, behind_value, value_taken, value_given, in_value, in_dash, value_in}
use Rattle.line_reader.specs.Modes.{asked_for, named_as, in_argument, volume_call, in_form, in_last, is_inside, added_to, behind_item, adding, counting}
use Rattle.line_reader.specs.Modes.{is_opening, list_word, word_in, in_list, closed_numbers, repeated, closed_at, group_closed, in_group}
use Rattle.line_reader.specs.Modes.{opened_numbers, in_counted, next_day, in_day, value_by}
use Rattle.line_reader.specs.Buffers.{part, place_for, listed, written_numbers, grouped, written_group}
use Rattle.line_reader.specs.Lines.{in_mode, after_token, next_token, is_finished, fault_in, fault_of, fault_number, LineRead, read_token, read_tokens}
use Rattle.line_reader.specs.Lines.{read_line}
use Rattle.line_reader.proofs.Ends.{error_some, error_last}

unfoldable line_definitions : Unit {0}
unfolding read_line read_tokens read_token next_token after_token in_mode is_finished fault_of fault_in
    in_call called begun behind_call limit_for in_value value_given value_taken behind_value in_dash value_in named_as asked_for in_argument
    volume_call in_form in_last is_inside added_to behind_item adding counting is_opening list_word word_in in_list closed_numbers repeated
    closed_at group_closed in_group opened_numbers in_counted next_day in_day
    part place_for listed written_numbers grouped written_group
    call_of key_of meter_word basis_word source_word reason_word word_value expected_for largest_for index_of
    token_at token_from token_by single_kind number_token word_token value_of word_of text_of place_behind byte_at span_from run_from is_of class_of
line_definitions = tt

-- what a line was read as: how it ended, its call, its arguments and its list
record ReadAs : Type 0 where
  mode : Mode
  call : Option Call
  values : List (Option ℕ)
  list : List ℕ

-- a line in a month of so many hours, with its first day
abbrev read_in : ℕ → ℕ → List ℕ → LineRead
read_in hours first line = read_line hours first line (zeros 60) (zeros 60)

abbrev read_as : String → ReadAs
read_as text =
    let r : LineRead = read_in 0 0 (bytes text) in
    record { mode = r.line.mode; call = r.line.call; values = r.line.values; list = take r.line.numbers.count r.numbers }

-- no argument given
abbrev bare : List (Option ℕ)
bare = replicate 15 None

abbrev as_none : ReadAs
as_none = record { mode = mode.Read; call = None; values = bare; list = [] }

abbrev as_call : Call → List (Option ℕ) → List ℕ → ReadAs
as_call c values list = record { mode = mode.Read; call = Some c; values = values; list = list }

-- the first arguments, and none of the others
abbrev firsts : List (Option ℕ) → List (Option ℕ)
firsts values = take 15 (values ++ bare)

-- one, and two
abbrev one : Argument → ℕ → List (Option ℕ)
one k v = set bare (index_of k) (Some v)

abbrev two : Argument → ℕ → Argument → ℕ → List (Option ℕ)
two k v k' v' = set (one k v) (index_of k') (Some v')

-- the calls and the errors by their numbers, which the answers for programs have (docs/HISTORY-FILE.md)
abbrev calls : List Call
calls =
    call.Open ∷ call.BillingHours ∷ call.BillingVolume ∷ call.ControlHours ∷ call.ControlVolume ∷ call.Neighbour ∷ call.Failure ∷ call.Admission
    ∷ call.Denial ∷ call.Permission ∷ call.Close ∷ []

abbrev errors : List Error
errors =
    err.LongLine ∷ err.Foreign ∷ err.Call ∷ err.Number ∷ err.Dash ∷ err.Argument ∷ err.Twice ∷ err.Meter ∷ err.Basis ∷ err.Form ∷ err.Source
    ∷ err.Reason ∷ err.Large ∷ err.Part ∷ err.Day ∷ err.Item ∷ err.DayLength ∷ err.ListLength ∷ err.Counted ∷ err.Last ∷ []

numbered :
    (map call_number calls ≡ 1 ∷ 2 ∷ 3 ∷ 4 ∷ 5 ∷ 6 ∷ 7 ∷ 8 ∷ 9 ∷ 10 ∷ 11 ∷ [])
    × (map error_number errors ≡ 1 ∷ 2 ∷ 3 ∷ 4 ∷ 5 ∷ 6 ∷ 7 ∷ 8 ∷ 9 ∷ 10 ∷ 11 ∷ 12 ∷ 13 ∷ 14 ∷ 15 ∷ 16 ∷ 17 ∷ 18 ∷ 19 ∷ 20 ∷ [])
    × (fault_number None ≡ 0)
unfolding call_number error_number fault_number
numbered = (refl, refl, refl)

-- a number decodes to the error that has it, and those on either side are no error's
decoded :
    Decodes 1 (Ok err.LongLine)
    × Decodes 20 (Ok err.Last)
    × Decodes 0 (Err (record { 0 = 0 }))
    × Decodes 21 (Err (record { 0 = 21 }))
unfolding error_number
decoded = (refl, refl, (refl, λ e n. omega (arith, n, error_some e)), (refl, λ e n. omega (arith, n, error_last e)))

-- and an error's number is not unknown
not_unknown : Decodes 20 (Err (record { 0 = 20 })) → ⊥
unfolding error_number
not_unknown d = d.1 err.Last refl

-- a blank line and comments are no call
no_calls :
    (read_as "" ≡ as_none)
    × (read_as "   " ≡ as_none)
    × (read_as "# close 1" ≡ as_none)
    × (read_as "  #" ≡ as_none)
unfolding line_definitions
no_calls = (refl, refl, refl, refl)

-- a month alone; arguments in any order, with words and numbers; a list that another argument ends
openings :
    (read_as "open 2023-02" ≡ as_call call.Open (two key.Year 2023 key.Month 2) [])
    × (read_as "open 2023 - 2" ≡ as_call call.Open (two key.Year 2023 key.Month 2) [])
    × (read_as "open 0-13" ≡ as_call call.Open (two key.Year 0 key.Month 13) [])
    × (read_as "open 2023-01 billing interval control integral basis agreed power 100"
    ≡ as_call call.Open (firsts (Some 2023 ∷ Some 1 ∷ Some 1 ∷ Some 2 ∷ Some 1 ∷ Some 100 ∷ [])) [])
    × (read_as "OPEN 2023-2 phases 3 cosine 950 volts 400 amperes 63 place 1 currents 10 2*20 basis shared control none billing 7"
    ≡ as_call call.Open
    (firsts (Some 2023 ∷ Some 2 ∷ Some 7 ∷ Some 0 ∷ Some 2 ∷ None ∷ Some 1 ∷ Some 63 ∷ Some 400 ∷ Some 950 ∷ Some 3 ∷ Some 0 ∷ []))
    (10 ∷ 20 ∷ 20 ∷ []))
    × (read_as "open2023-2basis cable power4294967295currents 2*(1 2)"
    ≡ as_call call.Open (set (firsts (Some 2023 ∷ Some 2 ∷ None ∷ None ∷ Some 3 ∷ Some 4294967295 ∷ [])) (index_of key.Currents) (Some 0)) (1 ∷ 2 ∷ 1 ∷ 2 ∷ []))
    × (read_as "open 2023-2 billing none control 0 basis 0" ≡ as_call call.Open (firsts (Some 2023 ∷ Some 2 ∷ Some 0 ∷ Some 0 ∷ Some 0 ∷ [])) [])
unfolding line_definitions
openings = (refl, refl, refl, refl, refl, refl, refl)

-- a value by the number of its argument: the first, one that is not given, the last, and none behind it
values_by :
    (value_by 0 (read_in 0 0 (bytes "open 2023-02")).line ≡ Some 2023)
    × (value_by 1 (read_in 0 0 (bytes "open 2023-02")).line ≡ Some 2)
    × (value_by 14 (read_in 0 0 (bytes "open 2023-02")).line ≡ None)
    × (value_by 14 (read_in 0 0 (bytes "control volume 0")).line ≡ Some 0)
    × (value_by 15 (read_in 0 0 (bytes "control volume 0")).line ≡ None)
unfolding line_definitions value_by
values_by = (refl, refl, refl, refl, refl)

-- the hours and the volume of each meter
readings :
    (read_as "billing hours 5 7" ≡ as_call call.BillingHours bare (5 ∷ 7 ∷ []))
    × (read_as "Billing HOURS 4294967295" ≡ as_call call.BillingHours bare (4294967295 ∷ []))
    × (read_as "billing hours none" ≡ as_call call.BillingHours bare [])
    × (read_as "billing volume 21000" ≡ as_call call.BillingVolume (one key.Volume 21000) [])
    × (read_as "billing volume 999999999999999999" ≡ as_call call.BillingVolume (one key.Volume 999999999999999999) [])
    × (read_as "control hours 1 # a comment" ≡ as_call call.ControlHours bare (1 ∷ []))
    × (read_as "control volume 0" ≡ as_call call.ControlVolume (one key.Volume 0) [])
unfolding line_definitions
readings = (refl, refl, refl, refl, refl, refl, refl)

-- events, with each word for a source and a reason
events :
    (read_as "neighbour billing 5" ≡ as_call call.Neighbour (two key.Source 1 key.Volume 5) [])
    × (read_as "neighbour control 999999999999999999" ≡ as_call call.Neighbour (two key.Source 2 key.Volume 999999999999999999) [])
    × (read_as "neighbour 7 5" ≡ as_call call.Neighbour (two key.Source 7 key.Volume 5) [])
    × (read_as "failure fault" ≡ as_call call.Failure (one key.Reason 1) [])
    × (read_as "failure loss" ≡ as_call call.Failure (one key.Reason 2) [])
    × (read_as "failure verification" ≡ as_call call.Failure (one key.Reason 3) [])
    × (read_as "failure removal" ≡ as_call call.Failure (one key.Reason 4) [])
    × (read_as "failure 9" ≡ as_call call.Failure (one key.Reason 9) [])
    × (read_as "admission" ≡ as_call call.Admission bare [])
    × (read_as " Denial " ≡ as_call call.Denial bare [])
    × (read_as "permission#" ≡ as_call call.Permission bare [])
unfolding line_definitions
events = (refl, refl, refl, refl, refl, refl, refl, refl, refl, refl, refl)

-- numbers, repetitions of a number and of several, a count of 0
lists :
    (read_as "close 0 1 2 3 255" ≡ as_call call.Close bare (0 ∷ 1 ∷ 2 ∷ 3 ∷ 255 ∷ []))
    × (read_as "close none" ≡ as_call call.Close bare [])
    × (read_as "close 3*7 1" ≡ as_call call.Close bare (7 ∷ 7 ∷ 7 ∷ 1 ∷ []))
    × (read_as "close 2*(1 2*3) 5" ≡ as_call call.Close bare (1 ∷ 3 ∷ 3 ∷ 1 ∷ 3 ∷ 3 ∷ 5 ∷ []))
    × (read_as "close2*(1)3" ≡ as_call call.Close bare (1 ∷ 1 ∷ 3 ∷ []))
    × (read_as "close 1 0*9 0*(8) 2" ≡ as_call call.Close bare (1 ∷ 2 ∷ []))
    × (read_as "close 3*(1 2) 2*(4)" ≡ as_call call.Close bare (1 ∷ 2 ∷ 1 ∷ 2 ∷ 1 ∷ 2 ∷ 4 ∷ 4 ∷ []))
    × (read_as "close week (24*1) (24*2) 5" ≡ as_call call.Close bare (5 ∷ []))
    × ((read_line 0 0 (bytes "close 1 2*(5)") (9 ∷ 9 ∷ 9 ∷ 9 ∷ []) (9 ∷ 9 ∷ [])).numbers ≡ 1 ∷ 5 ∷ 5 ∷ 9 ∷ [])
    × ((read_in 0 0 (bytes "close 4096*1")).line.numbers.count ≡ 4096)
    × ((read_in 0 0 (bytes "close 4095*1 1 0*1")).line.numbers.count ≡ 4096)
    × ((read_in 0 0 (bytes "close 2*(2048*1)")).line.numbers.count ≡ 4096)
    × ((read_in 96 0 (bytes "close 4000*1 week (24*1) (24*1)")).line.numbers.count ≡ 4096)
unfolding line_definitions
lists = (refl, refl, refl, refl, refl, refl, refl, refl, refl, refl, refl, refl, refl)

-- the marks of two days, where the first is a Friday, a Saturday or a Sunday
abbrev days : ℕ → List ℕ → List ℕ
days first line = let r : LineRead = read_in 48 first line in take r.line.numbers.count r.numbers

abbrev whole_day : ℕ → List ℕ
whole_day v = replicate 24 v

-- Monday to Friday have the first day of a week, Saturday and Sunday the second
weeks :
    (days 0 (bytes "close week (24*1) (24*2)") ≡ whole_day 1 ++ whole_day 1)
    × (days 3 (bytes "close week (24*1) (24*2)") ≡ whole_day 1 ++ whole_day 1)
    × (days 4 (bytes "close week (24*1) (24*2)") ≡ whole_day 1 ++ whole_day 2)
    × (days 5 (bytes "close week (24*1) (24*2)") ≡ whole_day 2 ++ whole_day 2)
    × (days 6 (bytes "close week (24*1) (24*2)") ≡ whole_day 2 ++ whole_day 1)
    × (days 4 (bytes "close 9 week (8*0 3 11*1 4*0) (23*0 2)")
    ≡ 9 ∷ (replicate 8 0 ++ (3 ∷ (replicate 11 1 ++ (replicate 4 0 ++ (replicate 23 0 ++ (2 ∷ [])))))))
unfolding line_definitions
weeks = (refl, refl, refl, refl, refl, refl)

-- the error of a line, and its place
abbrev fault : List ℕ → Mode
fault line = (read_in 0 0 line).line.mode

abbrev failed : Error → ℕ → Mode
failed e place = mode.Failed (record { error = e; place = place })

-- a call was expected, at the first token of a line
errors_call :
    (fault (bytes "5") ≡ failed err.Call 0)
    × (fault (bytes "  opens 2023-1") ≡ failed err.Call 2)
    × (fault (bytes "hours 5") ≡ failed err.Call 0)
    × (fault (bytes "(close 1)") ≡ failed err.Call 0)
    × (fault (bytes "verifications") ≡ failed err.Call 0)
    × (fault (bytes "week") ≡ failed err.Call 0)
    × (fault (bytes "-") ≡ failed err.Call 0)
unfolding line_definitions
errors_call = (refl, refl, refl, refl, refl, refl, refl)

-- a number was expected, for a year, a month, a volume and the arguments that are numbers
errors_number :
    (fault (bytes "open x") ≡ failed err.Number 5)
    × (fault (bytes "open") ≡ failed err.Number 4)
    × (fault (bytes "open 2023*-1") ≡ failed err.Number 5)
    × (fault (bytes "open 2023-") ≡ failed err.Number 10)
    × (fault (bytes "open 2023-x") ≡ failed err.Number 10)
    × (fault (bytes "billing volume none") ≡ failed err.Number 15)
    × (fault (bytes "control volume") ≡ failed err.Number 14)
    × (fault (bytes "neighbour billing") ≡ failed err.Number 17)
    × (fault (bytes "neighbour 1 billing") ≡ failed err.Number 12)
    × (fault (bytes "open 2023-1 power none") ≡ failed err.Number 18)
    × (fault (bytes "open 2023-1 place") ≡ failed err.Number 17)
    × (fault (bytes "open 2023-1 amperes (") ≡ failed err.Number 20)
    × (fault (bytes "open 2023-1 volts -") ≡ failed err.Number 18)
    × (fault (bytes "open 2023-1 cosine 5*") ≡ failed err.Number 19)
    × (fault (bytes "open 2023-1 phases   # 3") ≡ failed err.Number 21)
unfolding line_definitions
errors_number = (refl, refl, refl, refl, refl, refl, refl, refl, refl, refl, refl, refl, refl, refl, refl)

-- a - was expected, behind a year
errors_dash :
    (fault (bytes "open 2023 02") ≡ failed err.Dash 10)
    × (fault (bytes "open 2023") ≡ failed err.Dash 9)
    × (fault (bytes "open 2023/02") ≡ failed err.Dash 9)
unfolding line_definitions
errors_dash = (refl, refl, refl)

-- an argument was expected, in an opening
errors_argument :
    (fault (bytes "open 2023-1 5") ≡ failed err.Argument 12)
    × (fault (bytes "open 2023-1-1") ≡ failed err.Argument 11)
    × (fault (bytes "open 2023-1 kw 5") ≡ failed err.Argument 12)
    × (fault (bytes "open 2023-1 power 5 hours") ≡ failed err.Argument 20)
    × (fault (bytes "open 2023-1 billing none none") ≡ failed err.Argument 25)
    × (fault (bytes "open 2023-1 currents 5 none") ≡ failed err.Argument 23)
    × (fault (bytes "open 2023-1 currents 5 week (24*1) (24*1)") ≡ failed err.Argument 23)
unfolding line_definitions
errors_argument = (refl, refl, refl, refl, refl, refl, refl)

-- the argument was given already, at the argument's word
errors_again :
    (fault (bytes "open 2023-1 power 5 power 5") ≡ failed err.Twice 20)
    × (fault (bytes "open 2023-1 billing none control none billing none") ≡ failed err.Twice 38)
    × (fault (bytes "open 2023-1 currents 5 currents 6") ≡ failed err.Twice 23)
    × (fault (bytes "open 2023-1 place 0 place") ≡ failed err.Twice 20)
unfolding line_definitions
errors_again = (refl, refl, refl, refl)

-- a meter was expected
errors_meter :
    (fault (bytes "open 2023-1 billing agreed") ≡ failed err.Meter 20)
    × (fault (bytes "open 2023-1 control") ≡ failed err.Meter 19)
    × (fault (bytes "open 2023-1 control 5*") ≡ failed err.Meter 20)
unfolding line_definitions
errors_meter = (refl, refl, refl)

-- a basis was expected
errors_basis :
    (fault (bytes "open 2023-1 basis none") ≡ failed err.Basis 18)
    × (fault (bytes "open 2023-1 basis") ≡ failed err.Basis 17)
unfolding line_definitions
errors_basis = (refl, refl)

-- hours or volume was expected, behind billing or control
errors_form :
    (fault (bytes "billing 5") ≡ failed err.Form 8)
    × (fault (bytes "control") ≡ failed err.Form 7)
    × (fault (bytes "control week") ≡ failed err.Form 8)
    × (fault (bytes "billing volumes 5") ≡ failed err.Form 8)
unfolding line_definitions
errors_form = (refl, refl, refl, refl)

-- a source was expected
errors_source :
    (fault (bytes "neighbour none 5") ≡ failed err.Source 10)
    × (fault (bytes "neighbour") ≡ failed err.Source 9)
    × (fault (bytes "neighbour fault 5") ≡ failed err.Source 10)
unfolding line_definitions
errors_source = (refl, refl, refl)

-- a reason was expected
errors_reason :
    (fault (bytes "failure billing") ≡ failed err.Reason 8)
    × (fault (bytes "failure") ≡ failed err.Reason 7)
    × (fault (bytes "failure (") ≡ failed err.Reason 8)
unfolding line_definitions
errors_reason = (refl, refl, refl)

-- a number above its limit or of more than 18 digits, before all other errors of the token
errors_large :
    (fault (bytes "open 4294967296-1") ≡ failed err.Large 5)
    × (fault (bytes "open 2023-4294967296") ≡ failed err.Large 10)
    × (fault (bytes "open 2023-1 place 4294967296") ≡ failed err.Large 18)
    × (fault (bytes "open 2023-1 currents 4294967296") ≡ failed err.Large 21)
    × (fault (bytes "billing hours 4294967296") ≡ failed err.Large 14)
    × (fault (bytes "failure 4294967296") ≡ failed err.Large 8)
    × (fault (bytes "neighbour 4294967296 5") ≡ failed err.Large 10)
    × (fault (bytes "close 256") ≡ failed err.Large 6)
    × (fault (bytes "close 2*(256)") ≡ failed err.Large 9)
    × (fault (bytes "close 5*256") ≡ failed err.Large 8)
    × (fault (bytes "billing volume 1000000000000000000") ≡ failed err.Large 15)
    × (fault (bytes "1000000000000000000") ≡ failed err.Large 0)
    × (fault (bytes "admission 0000000000000000001") ≡ failed err.Large 10)
    × (fault (bytes "close 0000000000000000001*1") ≡ failed err.Large 6)
    × (fault (bytes "close 4096*0 256") ≡ failed err.Large 13)
unfolding line_definitions
errors_large = (refl, refl, refl, refl, refl, refl, refl, refl, refl, refl, refl, refl, refl, refl, refl)

-- a part of the list was expected, in a list
errors_part :
    (fault (bytes "close") ≡ failed err.Part 5)
    × (fault (bytes "close hours") ≡ failed err.Part 6)
    × (fault (bytes "close 1 none") ≡ failed err.Part 8)
    × (fault (bytes "close 1 (") ≡ failed err.Part 8)
    × (fault (bytes "close )") ≡ failed err.Part 6)
    × (fault (bytes "close 1-2") ≡ failed err.Part 7)
    × (fault (bytes "billing hours # 5") ≡ failed err.Part 14)
    × (fault (bytes "billing hours volume") ≡ failed err.Part 14)
    × (fault (bytes "open 2023-1 currents") ≡ failed err.Part 20)
    × (fault (bytes "open 2023-1 currents basis 2") ≡ failed err.Part 21)
    × (fault (bytes "open 2023-1 currents 5 )") ≡ failed err.Part 23)
    × (fault (bytes "close 2*(1))") ≡ failed err.Part 11)
unfolding line_definitions
errors_part = (refl, refl, refl, refl, refl, refl, refl, refl, refl, refl, refl, refl)

-- ( was expected, behind week and behind its first )
errors_opening :
    (fault (bytes "close week 1") ≡ failed err.Day 11)
    × (fault (bytes "close week") ≡ failed err.Day 10)
    × (fault (bytes "close 1 week )") ≡ failed err.Day 13)
    × (fault (bytes "close week (24*1) 5") ≡ failed err.Day 18)
    × (fault (bytes "close week (24*1)") ≡ failed err.Day 17)
unfolding line_definitions
errors_opening = (refl, refl, refl, refl, refl)

-- a number, a count or ) was expected, between parentheses
errors_item :
    (fault (bytes "close 2*(") ≡ failed err.Item 9)
    × (fault (bytes "close 2*()") ≡ failed err.Item 9)
    × (fault (bytes "close 2*(1 x)") ≡ failed err.Item 11)
    × (fault (bytes "close 2*(1 (") ≡ failed err.Item 11)
    × (fault (bytes "close 2*(1-") ≡ failed err.Item 10)
    × (fault (bytes "close 2*(1 2") ≡ failed err.Item 12)
    × (fault (bytes "close week ()") ≡ failed err.Item 12)
    × (fault (bytes "close week (24*1) ()") ≡ failed err.Item 19)
    × (fault (bytes "close week (12*1 week") ≡ failed err.Item 17)
unfolding line_definitions
errors_item = (refl, refl, refl, refl, refl, refl, refl, refl, refl)

-- a day has 24 numbers, at the ) of a day
errors_day :
    (fault (bytes "close week (23*1)") ≡ failed err.DayLength 16)
    × (fault (bytes "close week (25*1)") ≡ failed err.DayLength 16)
    × (fault (bytes "close week (24*1) (23*1)") ≡ failed err.DayLength 23)
    × (fault (bytes "close week (24*1) (24*1 0)") ≡ failed err.DayLength 25)
    × (fault (bytes "close week (0*1)") ≡ failed err.DayLength 15)
unfolding line_definitions
errors_day = (refl, refl, refl, refl, refl)

-- a list has at most 4,096 numbers, at the number that is one too many, at a count above 4,096, or at the ) that makes too many
errors_many :
    (fault (bytes "close 4097*1") ≡ failed err.ListLength 6)
    × (fault (bytes "close 4096*1 1") ≡ failed err.ListLength 13)
    × (fault (bytes "close 4095*1 2*1") ≡ failed err.ListLength 15)
    × (fault (bytes "close 2*(2049*1)") ≡ failed err.ListLength 15)
    × (fault (bytes "close 1 2*(2048*1)") ≡ failed err.ListLength 17)
    × (fault (bytes "close 1 week (4096*1") ≡ failed err.ListLength 19)
    × (fault (bytes "close 4090*1 week (6*1 1") ≡ failed err.ListLength 23)
    × (fault (bytes "close 2*(4097*1)") ≡ failed err.ListLength 9)
unfolding line_definitions
errors_many = (refl, refl, refl, refl, refl, refl, refl, refl)

-- a number was expected, or (, behind a count
errors_counted :
    (fault (bytes "close 5*") ≡ failed err.Counted 8)
    × (fault (bytes "close 5* x") ≡ failed err.Counted 9)
    × (fault (bytes "close 5*6*7") ≡ failed err.Counted 8)
    × (fault (bytes "close 5*)") ≡ failed err.Counted 8)
    × (fault (bytes "close 5* week") ≡ failed err.Counted 9)
    × (fault (bytes "close 2*(3*(") ≡ failed err.Counted 11)
    × (fault (bytes "close 2*(3*)") ≡ failed err.Counted 11)
    × (fault (bytes "billing hours 5* *") ≡ failed err.Counted 17)
unfolding line_definitions
errors_counted = (refl, refl, refl, refl, refl, refl, refl, refl)

-- the end was expected, behind a call that is complete
errors_last :
    (fault (bytes "admission 5") ≡ failed err.Last 10)
    × (fault (bytes "denial denial") ≡ failed err.Last 7)
    × (fault (bytes "permission -") ≡ failed err.Last 11)
    × (fault (bytes "failure fault fault") ≡ failed err.Last 14)
    × (fault (bytes "billing volume 5 6") ≡ failed err.Last 17)
    × (fault (bytes "neighbour 1 5 6") ≡ failed err.Last 14)
    × (fault (bytes "close none 5") ≡ failed err.Last 11)
    × (fault (bytes "billing hours none none") ≡ failed err.Last 19)
unfolding line_definitions
errors_last = (refl, refl, refl, refl, refl, refl, refl, refl)

-- a byte that is no text, before all other errors of the token; in a comment it is none
errors_foreign :
    (fault (127 ∷ []) ≡ failed err.Foreign 0)
    × (fault (bytes "admission " ++ (200 ∷ [])) ≡ failed err.Foreign 10)
    × (fault (bytes "close 2*(" ++ (0 ∷ [])) ≡ failed err.Foreign 9)
    × (fault (bytes "close 5*" ++ (10 ∷ [])) ≡ failed err.Foreign 8)
    × (fault (bytes "close week" ++ (195 ∷ 164 ∷ [])) ≡ failed err.Foreign 10)
    × (fault (bytes "open x" ++ (200 ∷ [])) ≡ failed err.Number 5)
    × (fault (bytes "admission # " ++ (200 ∷ [])) ≡ mode.Read)
unfolding line_definitions
errors_foreign = (refl, refl, refl, refl, refl, refl, refl)

-- a week that makes too many numbers fails at its last )
errors_week : (read_in 97 0 (bytes "close 4000*1 week (24*1) (24*1)")).line.mode ≡ failed err.ListLength 30
unfolding line_definitions
errors_week = refl
