-- THE CALL THAT A LINE MAKES: document 01's calls with the arguments that a line of a history file gives.
use Rattle.std.specs.Prelude.{ℕ, ◌%◌, min, ◌≡◌, false, cond, List, [], length, Option, Some, unwrap_or}
use Rattle.numbers.specs.Lists.{tab, at, Filled}
use Rattle.calendar.specs.declared.Date.{Date}
use Rattle.power.specs.declared.Cable.{Cable}
use Rattle.contract.specs.declared.Contract.{Contract}
use Rattle.record.specs.declared.Record.{Record}
use Rattle.rules.specs.Calls.{Opening, billing_hours, control_hours, billing_volume, control_volume, neighbour}
use Rattle.rules.specs.Calls.{failure, admission, denial, permission, Call, read, report, closing, is_closing}
use Rattle.model.specs.declared.Answer.{Answer}
use Rattle.model.specs.Model.{state, Does}
use Rattle.line_reader.specs.declared.Line.{Line}
use Rattle.line_reader.specs.declared.calls.Call.{Call as Named}
use Rattle.line_reader.specs.declared.calls.Call.TheVariants as call
use Rattle.line_reader.specs.declared.names.Argument.{Argument}
use Rattle.line_reader.specs.declared.names.Argument.TheVariants as key
use Rattle.line_reader.specs.Modes.{value_in}

-- the value of an argument, 0 where it is not given; a line keeps all but volumes to 32 bits
unfoldable pub argument_of : Argument → Line → ℕ
argument_of key line = unwrap_or (value_in key line) 0

unfoldable pub field_of : Argument → Line → ℕ
field_of key line = argument_of key line % 4294967296

-- AN OPENING
unfoldable pub cable_by : Line → Cable
cable_by line =
    record { amperes = field_of key.Amperes line; volts = field_of key.Volts line; cosine = field_of key.Cosine line; phases = field_of key.Phases line }

unfoldable pub asked_by : Line → Contract
asked_by line =
    record {
      billing = field_of key.Billing line;
      control = field_of key.Control line;
      basis = field_of key.Basis line;
      power = record { 0 = field_of key.Power line };
      cable = cable_by line;
    }

unfoldable pub date_by : Line → Date
date_by line = record { year = field_of key.Year line; month = field_of key.Month line }

unfoldable pub opening_by : Line → List ℕ → Opening
opening_by line list = record { asked = asked_by line; date = date_by line; currents = list; place = argument_of key.Place line }

-- the marks of a closing: a byte for each number of the list, as many as there is room for, which is 4,096
abbrev pub mark_at : List ℕ → ℕ → ℕ
mark_at list k = at list k % 256

unfoldable pub marks_in : ℕ → List ℕ → List ℕ
marks_in room list = tab (min (length list) room) (mark_at list)

unfoldable pub marks_from : List ℕ → List ℕ
marks_from list = marks_in 4096 list

pub record Copied (list before after : List ℕ) (n : ℕ) : Type 0 where
  pub size : n ≡ min (length list) (length before)
  pub filled : Filled (mark_at list) before after n

-- ANY OTHER CALL; what is none of the others is a closing
unfoldable pub call_as : Option Named → Line → List ℕ → List ℕ → Call
call_as (Some call.BillingHours) line list buffer = read (billing_hours list)
call_as (Some call.BillingVolume) line list buffer = read (billing_volume (argument_of key.Volume line))
call_as (Some call.ControlHours) line list buffer = read (control_hours list)
call_as (Some call.ControlVolume) line list buffer = read (control_volume (argument_of key.Volume line))
call_as (Some call.Neighbour) line list buffer = read (neighbour (field_of key.Source line) (argument_of key.Volume line))
call_as (Some call.Failure) line list buffer = report (failure (field_of key.Reason line))
call_as (Some call.Admission) line list buffer = report admission
call_as (Some call.Denial) line list buffer = report denial
call_as (Some call.Permission) line list buffer = report permission
call_as _ line list buffer = closing (marks_from list) buffer

unfoldable pub call_by : Line → List ℕ → List ℕ → Call
call_by line list buffer = call_as line.call line list buffer

-- WHAT A LINE DOES to a point: that call, and no call but a closing touches the hour buffer
pub record Makes (line : Line) (list : List ℕ) (r : Record) (store buffer : List ℕ) (a : Answer) (store' buffer' : List ℕ) : Type 0 where
  pub done : Does (state r store) (call_by line list buffer) a store' (cond (is_closing (call_by line list buffer)) buffer' [])
  pub kept : is_closing (call_by line list buffer) ≡ false → buffer' ≡ buffer
