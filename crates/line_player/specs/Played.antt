-- WHAT A LINE OF A HISTORY FILE DOES TO A POINT: the model's calls, at the arguments that the line gives.
use Rattle.std.specs.Prelude.{ℕ, min, cond, List, length, take, is_some, is_none}
use Rattle.numbers.specs.Lists.{zeros}
use Rattle.calendar.specs.Calendar.{open_hours}
use Rattle.model.specs.Model.{State, leaves}
use Rattle.model.specs.Opening.{open_leaves}
use Rattle.line_reader.specs.declared.Line.{Line}
use Rattle.line_reader.specs.Modes.{is_opening}
use Rattle.line_reader.specs.Lines.{fault_of, LineRead, read_line}
use Rattle.line_calls.specs.Calls.{opening_by, call_by}
use Rattle.line_calls.specs.Week.{first_weekday}

-- a call that is no opening, with an hour buffer of 744 words
unfoldable pub other_call_leaves : Line → List ℕ → State → State
other_call_leaves read list s = leaves s (call_by read list (zeros 744))

-- the call of a line, with its list
unfoldable pub call_leaves : Line → List ℕ → State → State
call_leaves read list s = cond (is_opening read.call) (open_leaves (opening_by read list) s.store) (other_call_leaves read list s)

-- a line with an error, and one that is no call, leave the point as it was
unfoldable pub read_leaves : Line → List ℕ → State → State
read_leaves read numbers s =
    cond (is_some (fault_of read)) s
    (cond (is_none read.call) s (call_leaves read (take (min read.numbers.count (length numbers)) numbers) s))

-- A LINE, read in the month that is open
unfoldable pub line_leaves : List ℕ → State → State
line_leaves line s =
    let r : LineRead = read_line (open_hours s.point.date) (first_weekday s.point.date) line (zeros 4096) (zeros 4096) in
    read_leaves r.line r.numbers s
