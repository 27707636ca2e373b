-- The book of demand 3 on values: what each look back finds, and what it passes over. By computation; assumes nothing.
use Prim.Native.Nat.{ℕ, zero, suc}
use mathlib.Core.Path.{◌≡◌, refl}
use mathlib.Core.Bool.{true, false}
use mathlib.Core.List.{List, [], ◌∷◌}
use lib.ListN.{replicate}
use Rattle.numbers.specs.Lists.{sum, zeros}
use Rattle.calendar.specs.Calendar.{leap_year, is_month, month_days, month_hours, open_hours, month_number, next_month}
use Rattle.numbers.specs.Rounding.{half_up}
use Rattle.sharing.specs.Shares.{portion, taken, spread, shares_over, stretched}
use Rattle.power.specs.Power.{shared_power, power_on}
use Rattle.contract.specs.Contract.{no_cable, kept, power_of}
use Rattle.rules.specs.Calls.{Opening, MeterReading, billing_hours, control_hours, billing_volume, control_volume, neighbour}
use Rattle.rules.specs.Calls.{Report, failure, admission, denial, permission, Call, read, report, closing}
use Rattle.rules.specs.Rules.{missing, hourly, whole, counted_of, neighbour_of, as_read, by_weights, by_peaks}
use Rattle.rules.specs.Rules.{evenly, by_contract, on_past, on_control, on_billing, rules, becomes_past}
use Rattle.history.specs.Book.{Entry, Book, billing, control, neighbouring, failed, admitted, denied, permitted, closed, of_kind, source_or_reason}
use Rattle.history.specs.Book.{measured_by, reading_of, is_from, as_stated, empty_on}
use Rattle.history.specs.Book.{is_faulty, month_of, denials_of, discards, billing_of, this_months, source_of, fault_since, is_repeat, became_past}
use Rattle.history.specs.Book.{run_of, hours_at, latest_hours, or_else_past, past_of, volumes, inputs_of, nothing, work_out, feed}
use Rattle.history.proofs.View.{look_backs}
use Rattle.std.specs.Prelude.{None, Some}

unfoldable pub book_definitions : Unit {0}
unfolding look_backs fault_since hours_at latest_hours or_else_past past_of inputs_of feed counted_of neighbour_of becomes_past month_number next_month
book_definitions = tt

-- 1 kW agreed, an integral billing meter and no control meter, from January 2023
abbrev pub o : Opening
o =
    record {
      asked = record { billing = 2; control = 0; basis = 1; power = record { 0 = 1 }; cable = no_cable };
      date = record { year = 2023; month = 1 };
      currents = [];
      place = 0;
    }

-- entries: a reading, a report, and a month closed on ground g with the hours hs
abbrev pub called : MeterReading → Entry
called x = record { call = read x; out = nothing }

abbrev pub reported : Report → Entry
reported x = record { call = report x; out = nothing }

abbrev shut : ℕ → List ℕ → Entry
shut g hs = record { call = closing [] []; out = record { ground = g; hours = hs; exact = λ h. record { top = 0; bottom = 1 }; volume = sum hs } }

-- an entry that no book has: a report with hours and a volume on ground 1
abbrev beside : ℕ → Entry
beside x = record { call = report denial; out = (shut 1 (x ∷ [])).out }

-- n more months estimated on ground 8
abbrev estimated : ℕ → Book → Book
estimated zero es = es
estimated (suc n) es = shut 8 (3 ∷ []) ∷ estimated n es

-- KINDS: a billing reading of either form is one, and no control reading is
kinds :
    (of_kind billing (called (billing_hours [])) ≡ true) × (of_kind billing (called (billing_volume 0)) ≡ true)
    × (of_kind billing (called (control_volume 0)) ≡ false)
    × (of_kind control (called (control_hours [])) ≡ true) × (of_kind control (called (neighbour 2 0)) ≡ false)
    × (of_kind neighbouring (called (neighbour 2 0)) ≡ true)
    × (of_kind failed (reported (failure 1)) ≡ true) × (of_kind failed (reported denial) ≡ false) × (of_kind admitted (reported admission) ≡ true)
    × (of_kind permitted (reported permission) ≡ true) × (of_kind denied (reported permission) ≡ false)
    × (of_kind closed (shut 8 []) ≡ true) × (of_kind closed (reported denial) ≡ false)
unfolding book_definitions
kinds = (refl, refl, refl, refl, refl, refl, refl, refl, refl, refl, refl, refl, refl)

-- each kind is told from all others
kinds_apart :
    (of_kind billing (called (control_hours [])) ≡ false) × (of_kind billing (called (neighbour 1 0)) ≡ false)
    × (of_kind billing (reported denial) ≡ false) × (of_kind billing (shut 1 []) ≡ false)
    × (of_kind control (called (control_volume 0)) ≡ true) × (of_kind control (called (billing_hours [])) ≡ false)
    × (of_kind control (called (billing_volume 0)) ≡ false) × (of_kind control (reported denial) ≡ false) × (of_kind control (shut 1 []) ≡ false)
    × (of_kind neighbouring (called (billing_volume 0)) ≡ false) × (of_kind neighbouring (called (control_volume 0)) ≡ false)
    × (of_kind neighbouring (shut 1 []) ≡ false)
    × (of_kind failed (reported admission) ≡ false) × (of_kind failed (called (neighbour 1 0)) ≡ false) × (of_kind failed (shut 1 []) ≡ false)
    × (of_kind admitted (reported permission) ≡ false) × (of_kind admitted (reported (failure 1)) ≡ false)
    × (of_kind admitted (called (billing_volume 0)) ≡ false)
    × (of_kind denied (reported denial) ≡ true) × (of_kind denied (reported (failure 2)) ≡ false) × (of_kind denied (shut 1 []) ≡ false)
    × (of_kind permitted (reported admission) ≡ false) × (of_kind permitted (reported denial) ≡ false) × (of_kind permitted (shut 1 []) ≡ false)
    × (of_kind closed (called (billing_hours [])) ≡ false)
unfolding book_definitions
kinds_apart =
    (refl, refl, refl, refl, refl, refl, refl, refl, refl, refl, refl, refl, refl, refl, refl, refl, refl, refl, refl, refl, refl, refl, refl, refl, refl)

-- a neighbour's source and a failure's reason, and 0 for any other call
sources :
    (source_or_reason (read (neighbour 2 7)) ≡ 2) × (source_or_reason (report (failure 4)) ≡ 4) × (source_or_reason (report denial) ≡ 0)
    × (source_or_reason (read (billing_volume 7)) ≡ 0) × (source_or_reason (closing (1 ∷ []) (2 ∷ [])) ≡ 0)
unfolding book_definitions
sources = (refl, refl, refl, refl, refl)

-- hours of an interval meter, the volume of an integral or neighbour one, and nothing that a report or a closing says
said_by :
    (measured_by (billing_hours (4 ∷ [])) ≡ hourly (4 ∷ [])) × (measured_by (control_hours (5 ∷ [])) ≡ hourly (5 ∷ []))
    × (measured_by (billing_volume 6) ≡ whole 6) × (measured_by (control_volume 7) ≡ whole 7) × (measured_by (neighbour 2 8) ≡ whole 8)
    × (reading_of (read (control_volume 7)) ≡ whole 7) × (reading_of (report (failure 1)) ≡ missing)
    × (reading_of (closing (1 ∷ []) (2 ∷ [])) ≡ missing)
    × (as_stated missing ≡ None) × (as_stated (hourly (4 ∷ [])) ≡ None) × (as_stated (whole 0) ≡ Some 0) × (as_stated (whole 8) ≡ Some 8)
unfolding book_definitions
said_by = (refl, refl, refl, refl, refl, refl, refl, refl, refl, refl, refl, refl)

-- a neighbour reading of one source is not of the other; reasons 1 and 2 are faults, and a neighbour's source is none
arguments :
    (is_from 1 (called (neighbour 1 7)) ≡ true) × (is_from 2 (called (neighbour 1 7)) ≡ false) × (is_from 1 (reported (failure 1)) ≡ false)
    × (is_faulty (reported (failure 1)) ≡ true) × (is_faulty (reported (failure 2)) ≡ true) × (is_faulty (reported (failure 3)) ≡ false)
    × (is_faulty (reported (failure 4)) ≡ false) × (is_faulty (called (neighbour 1 7)) ≡ false)
    × (is_faulty (reported (failure 0)) ≡ false)
    × (is_from 1 (called (neighbour 2 7)) ≡ false) × (is_from 2 (called (neighbour 2 7)) ≡ true) × (is_from 0 (reported denial) ≡ false)
unfolding book_definitions
arguments = (refl, refl, refl, refl, refl, refl, refl, refl, refl, refl, refl, refl)

-- MONTHS: the opening's, plus one for each closing and for nothing else, the calendar's end or not
months :
    (month_of o [] ≡ record { year = 2023; month = 1 })
    × (month_of o (reported denial ∷ reported (failure 1) ∷ []) ≡ record { year = 2023; month = 1 })
    × (month_of o (reported denial ∷ shut 1 [] ∷ reported (failure 1) ∷ shut 8 [] ∷ []) ≡ record { year = 2023; month = 3 })
    × (month_of o (estimated 11 []) ≡ record { year = 2023; month = 12 }) × (month_of o (estimated 12 []) ≡ record { year = 2024; month = 1 })
    × (month_of (record o { date = record { year = 2999; month = 12 } }) (estimated 1 []) ≡ record { year = 3000; month = 1 })
    × (month_of (record o { date = record { year = 3000; month = 1 } }) (estimated 1 []) ≡ record { year = 3000; month = 2 })
unfolding book_definitions
months = (refl, refl, refl, refl, refl, refl, refl)

-- DENIALS: since the last permission, over months; an admission ends none
denials :
    (denials_of [] ≡ 0) × (denials_of (reported denial ∷ []) ≡ 1)
    × (denials_of (reported denial ∷ shut 8 [] ∷ reported admission ∷ reported denial ∷ []) ≡ 2)
    × (denials_of (reported permission ∷ reported denial ∷ reported denial ∷ []) ≡ 0)
    × (denials_of (reported denial ∷ reported permission ∷ reported denial ∷ []) ≡ 1)
unfolding book_definitions
denials = (refl, refl, refl, refl, refl)

-- THE BILLING READING: this month's last
readings :
    (billing_of [] ≡ missing) × (billing_of (called (billing_volume 5) ∷ []) ≡ whole 5)
    × (billing_of (called (billing_hours (4 ∷ [])) ∷ []) ≡ hourly (4 ∷ []))
    × (billing_of (shut 2 [] ∷ called (billing_volume 5) ∷ []) ≡ missing)
    × (billing_of (called (control_volume 6) ∷ called (neighbour 1 7) ∷ []) ≡ missing)
    × (billing_of (called (billing_volume 9) ∷ reported admission ∷ reported (failure 3) ∷ called (billing_volume 5) ∷ []) ≡ whole 9)
unfolding book_definitions
readings = (refl, refl, refl, refl, refl, refl)

-- a later failure of any reason discards it, an admission, a permission and the first denial do not
discarded :
    (billing_of (reported (failure 1) ∷ called (billing_volume 5) ∷ []) ≡ missing)
    × (billing_of (reported admission ∷ reported (failure 4) ∷ called (billing_volume 5) ∷ []) ≡ missing)
    × (billing_of (reported denial ∷ called (billing_volume 5) ∷ []) ≡ whole 5)
    × (billing_of (reported permission ∷ called (billing_volume 5) ∷ reported denial ∷ []) ≡ whole 5)
unfolding book_definitions
discarded = (refl, refl, refl, refl)

-- the second denial discards it, wherever the first stands and whatever follows; after a permission it is the first again
second_denial :
    (discards (reported denial) [] ≡ false) × (discards (reported denial) (reported denial ∷ []) ≡ true)
    × (discards (reported permission) (reported denial ∷ []) ≡ false)
    × (discards (reported denial) (reported denial ∷ reported denial ∷ []) ≡ false)
    × (discards (reported (failure 4)) [] ≡ true) × (discards (reported admission) [] ≡ false)
    × (billing_of (reported denial ∷ called (billing_volume 5) ∷ reported denial ∷ []) ≡ missing)
    × (billing_of (reported denial ∷ called (billing_volume 5) ∷ shut 8 [] ∷ reported denial ∷ []) ≡ missing)
    × (billing_of (reported permission ∷ reported denial ∷ reported denial ∷ called (billing_volume 5) ∷ []) ≡ missing)
    × (billing_of (reported denial ∷ reported permission ∷ reported denial ∷ called (billing_volume 5) ∷ []) ≡ whole 5)
unfolding book_definitions
second_denial = (refl, refl, refl, refl, refl, refl, refl, refl, refl, refl)

-- CONTROL AND NEIGHBOUR READINGS: this month's, which nothing discards
others :
    (this_months (of_kind control) (reported (failure 1) ∷ reported denial ∷ reported denial ∷ called (control_volume 6) ∷ []) ≡ whole 6)
    × (this_months (of_kind control) (called (control_hours (2 ∷ [])) ∷ []) ≡ hourly (2 ∷ []))
    × (this_months (of_kind control) (called (billing_volume 5) ∷ []) ≡ missing)
    × (this_months (of_kind control) (shut 4 [] ∷ called (control_volume 6) ∷ []) ≡ missing)
    × (source_of 1 (reported (failure 1) ∷ called (neighbour 1 7) ∷ []) ≡ Some 7) × (source_of 2 (called (neighbour 1 7) ∷ []) ≡ None)
    × (source_of 1 (shut 8 [] ∷ called (neighbour 1 7) ∷ []) ≡ None)
    × (this_months (of_kind control) [] ≡ missing)
    × (this_months (of_kind control) (reported denial ∷ called (control_volume 6) ∷ shut 4 [] ∷ called (control_volume 9) ∷ []) ≡ whole 6)
    × (source_of 2 (called (neighbour 1 7) ∷ called (neighbour 2 8) ∷ shut 8 [] ∷ called (neighbour 2 9) ∷ []) ≡ Some 8)
unfolding book_definitions
others = (refl, refl, refl, refl, refl, refl, refl, refl, refl, refl)

-- N is the first neighbour reading if given, whichever came first, else the second, else 0
neighbours :
    ((inputs_of o (called (neighbour 2 8) ∷ called (neighbour 1 7) ∷ []) []).neighbour ≡ 7)
    × ((inputs_of o (called (neighbour 1 7) ∷ called (neighbour 2 8) ∷ []) []).neighbour ≡ 7)
    × ((inputs_of o (called (neighbour 1 0) ∷ called (neighbour 2 8) ∷ []) []).neighbour ≡ 0)
    × ((inputs_of o (called (neighbour 2 8) ∷ []) []).neighbour ≡ 8)
    × ((inputs_of o (shut 8 [] ∷ called (neighbour 2 8) ∷ []) []).neighbour ≡ 0)
unfolding book_definitions
neighbours = (refl, refl, refl, refl, refl)

-- REPEATS: at 12 months and in the same month, not at 13; of reasons 1 and 2 only, both of them
repeats :
    (is_repeat o (reported (failure 1)) (estimated 12 (reported (failure 2) ∷ [])) ≡ true)
    × (is_repeat o (reported (failure 1)) (estimated 13 (reported (failure 2) ∷ [])) ≡ false)
    × (is_repeat o (reported (failure 2)) (reported admission ∷ reported (failure 1) ∷ []) ≡ true) × (is_repeat o (reported (failure 1)) [] ≡ false)
    × (is_repeat o (reported (failure 3)) (reported (failure 1) ∷ []) ≡ false)
    × (is_repeat o (reported (failure 1)) (reported (failure 4) ∷ []) ≡ false)
unfolding book_definitions
repeats = (refl, refl, refl, refl, refl, refl)

-- from the fault's own month, January 2023 with the number 24277, to 12 months after it, whatever the book's month is
since :
    (fault_since o 24289 (reported (failure 1) ∷ []) ≡ true) × (fault_since o 24290 (reported (failure 1) ∷ []) ≡ false)
    × (fault_since o 24277 (reported (failure 1) ∷ []) ≡ true) × (fault_since o 24277 [] ≡ false)
    × (fault_since o 24289 (estimated 2 (reported (failure 2) ∷ [])) ≡ true) × (fault_since o 24290 (estimated 2 (reported (failure 2) ∷ [])) ≡ false)
    × (fault_since o 24278 (reported (failure 3) ∷ called (neighbour 1 7) ∷ shut 8 [] ∷ []) ≡ false)
unfolding book_definitions
since = (refl, refl, refl, refl, refl, refl, refl)

-- any earlier fault serves: one behind failures that are none, one that was a repeat, and one that was not
any_fault :
    (is_repeat o (reported (failure 1)) (reported admission ∷ reported (failure 3) ∷ estimated 6 (reported (failure 2) ∷ [])) ≡ true)
    × (is_repeat o (reported (failure 1)) (estimated 10 (reported (failure 1) ∷ estimated 10 (reported (failure 1) ∷ []))) ≡ true)
    × (is_repeat o (reported (failure 1)) (estimated 10 (reported (failure 1) ∷ estimated 20 (reported (failure 1) ∷ []))) ≡ true)
    × (is_repeat o (reported (failure 1)) (estimated 20 (reported (failure 1) ∷ estimated 20 (reported (failure 1) ∷ []))) ≡ false)
unfolding book_definitions
any_fault = (refl, refl, refl, refl)

-- THE RUN: 0 after grounds 1 and 2 and after a repeat, one more after every other closing, and as it was after any other call
metered :
    (became_past (shut 1 []) ≡ true) × (became_past (shut 2 []) ≡ true) × (became_past (shut 3 []) ≡ false) × (became_past (shut 9 []) ≡ false)
    × (became_past (called (billing_volume 5)) ≡ false) × (became_past (shut 0 []) ≡ false) × (became_past (beside 5) ≡ false)
unfolding book_definitions
metered = (refl, refl, refl, refl, refl, refl, refl)

runs :
    (run_of o [] ≡ 0) × (run_of o (estimated 5 []) ≡ 5) × (run_of o (shut 1 [] ∷ estimated 5 []) ≡ 0)
    × (run_of o (estimated 2 (shut 2 [] ∷ estimated 5 [])) ≡ 2) × (run_of o (shut 3 [] ∷ estimated 5 []) ≡ 6)
    × (run_of o (reported permission ∷ reported denial ∷ estimated 5 []) ≡ 5)
    × (run_of o (reported admission ∷ reported (failure 3) ∷ estimated 5 []) ≡ 5)
    × (run_of o (reported (failure 1) ∷ estimated 5 []) ≡ 5) × (run_of o (reported (failure 1) ∷ estimated 5 (reported (failure 2) ∷ [])) ≡ 0)
    × (run_of o (estimated 1 (reported (failure 1) ∷ estimated 12 (reported (failure 2) ∷ []))) ≡ 1)
    × (run_of o (reported (failure 1) ∷ estimated 13 (reported (failure 2) ∷ [])) ≡ 13)
    × (run_of o (beside 7 ∷ estimated 5 []) ≡ 5)
unfolding book_definitions
runs = (refl, refl, refl, refl, refl, refl, refl, refl, refl, refl, refl, refl)

-- R is 3 with denials 2 and a shorter run, and the run plus 1 else
counts :
    ((inputs_of o (reported denial ∷ reported denial ∷ []) []).counted ≡ 3) × ((inputs_of o (reported denial ∷ []) []).counted ≡ 1)
    × ((inputs_of o (estimated 5 (reported denial ∷ reported denial ∷ [])) []).counted ≡ 6)
unfolding book_definitions
counts = (refl, refl, refl)

-- THE PAST: the same month last year goes before the latest, and an estimated month is neither
pasts :
    (past_of o [] ≡ None) × (past_of o (estimated 12 []) ≡ None)
    × (past_of o (estimated 3 (shut 1 (5 ∷ []) ∷ [])) ≡ Some (5 ∷ []))
    × (past_of o (shut 2 (6 ∷ []) ∷ estimated 10 (shut 1 (5 ∷ []) ∷ [])) ≡ Some (5 ∷ []))
    × (past_of o (shut 2 (6 ∷ []) ∷ estimated 9 (shut 1 (5 ∷ []) ∷ [])) ≡ Some (6 ∷ []))
    × (past_of o (shut 2 (6 ∷ []) ∷ estimated 11 (shut 1 (5 ∷ []) ∷ [])) ≡ Some (6 ∷ []))
    × (past_of o (estimated 11 (shut 1 (5 ∷ []) ∷ estimated 11 (shut 2 (6 ∷ []) ∷ []))) ≡ Some (5 ∷ []))
    × (past_of o (estimated 23 (shut 1 (5 ∷ []) ∷ [])) ≡ Some (5 ∷ []))
unfolding book_definitions
pasts = (refl, refl, refl, refl, refl, refl, refl, refl)

same_month :
    (hours_at o 24277 (estimated 3 (shut 1 (5 ∷ []) ∷ [])) ≡ Some (5 ∷ []))
    × (hours_at o 24278 (estimated 3 (shut 1 (5 ∷ []) ∷ [])) ≡ None)
    × (latest_hours (estimated 3 (shut 2 (6 ∷ []) ∷ shut 1 (5 ∷ []) ∷ [])) ≡ Some (6 ∷ [])) × (latest_hours (estimated 3 []) ≡ None)
    × (latest_hours [] ≡ None) × (latest_hours (beside 7 ∷ shut 3 (6 ∷ []) ∷ shut 1 (5 ∷ []) ∷ []) ≡ Some (5 ∷ []))
unfolding book_definitions
same_month = (refl, refl, refl, refl, refl, refl)

-- each month has its own hours, and the months before and after have none
own_hours :
    (hours_at o 24276 (shut 2 (6 ∷ []) ∷ shut 1 (5 ∷ []) ∷ []) ≡ None)
    × (hours_at o 24277 (shut 2 (6 ∷ []) ∷ shut 1 (5 ∷ []) ∷ []) ≡ Some (5 ∷ []))
    × (hours_at o 24278 (shut 2 (6 ∷ []) ∷ shut 1 (5 ∷ []) ∷ []) ≡ Some (6 ∷ []))
    × (hours_at o 24279 (shut 2 (6 ∷ []) ∷ shut 1 (5 ∷ []) ∷ []) ≡ None)
    × (hours_at o 24277 (beside 7 ∷ []) ≡ None) × (hours_at o 24277 (shut 3 (5 ∷ []) ∷ []) ≡ None) × (hours_at o 24277 [] ≡ None)
unfolding book_definitions
own_hours = (refl, refl, refl, refl, refl, refl, refl)

-- the first past goes before the second, even where it has no hours
first_past :
    (or_else_past (Some (5 ∷ [])) (Some (6 ∷ [])) ≡ Some (5 ∷ [])) × (or_else_past (Some []) (Some (6 ∷ [])) ≡ Some [])
    × (or_else_past None (Some (6 ∷ [])) ≡ Some (6 ∷ []))
    × (or_else_past (Some (5 ∷ [])) None ≡ Some (5 ∷ [])) × (or_else_past None None ≡ None)
unfolding book_definitions
first_past = (refl, refl, refl, refl, refl)

-- THE VOLUMES of all closings, and of nothing else; a month's volume, and not the sum of its hours
totals :
    (volumes [] ≡ 0) × (volumes (reported denial ∷ shut 1 (5 ∷ 6 ∷ []) ∷ called (billing_volume 9) ∷ shut 8 (2 ∷ []) ∷ []) ≡ 13)
    × (volumes (beside 7 ∷ shut 8 (2 ∷ []) ∷ []) ≡ 2)
    × (volumes (record { call = closing [] []; out = record nothing { volume = 4 } } ∷ []) ≡ 4)
unfolding book_definitions
totals = (refl, refl, refl, refl)

-- WHAT COUNTS AT A CLOSING, each in its place: a book with a run of 3, 1 denial, readings of each meter and a past; and an empty one
abbrev busy : Book
busy =
    called (control_volume 6) ∷ called (neighbour 2 8) ∷ called (neighbour 1 7) ∷ called (billing_volume 5) ∷ reported denial
    ∷ estimated 3 (shut 1 (9 ∷ []) ∷ [])

all_inputs :
    (inputs_of o busy (1 ∷ 2 ∷ [])
    ≡ record { contract = o.asked; marks = 1 ∷ 2 ∷ []; counted = 4; billing = whole 5; control = whole 6; neighbour = 7; past = Some (9 ∷ []) })
    × (inputs_of o [] (3 ∷ [])
    ≡ record { contract = o.asked; marks = 3 ∷ []; counted = 1; billing = missing; control = missing; neighbour = 0; past = None })
unfolding book_definitions kept power_on
all_inputs = (refl, refl)

-- THE BOOK, FED: a refused call adds nothing, and a call that closes no month works nothing out
fed : (feed o (reported denial ∷ []) (report denial) false ≡ reported denial ∷ []) × (feed o [] (report denial) true ≡ reported denial ∷ [])
    × (feed o [] (read (billing_volume 5)) true ≡ called (billing_volume 5) ∷ [])
    × (feed o (reported (failure 1) ∷ []) (report denial) true ≡ reported denial ∷ reported (failure 1) ∷ [])
unfolding book_definitions
fed = (refl, refl, refl, refl)

-- ground 0 with no hours and no volume, where nothing is worked out
nothing_out :
    (nothing.ground ≡ 0) × (nothing.hours ≡ []) × (nothing.volume ≡ 0) × (nothing.exact ≡ (λ h. record { top = 0; bottom = 1 }))
    × ((empty_on 4).ground ≡ 4) × ((empty_on 4).hours ≡ []) × ((empty_on 4).volume ≡ 0)
    × (work_out o [] (report denial) ≡ nothing) × (work_out o [] (read (billing_volume 5)) ≡ nothing)
unfolding book_definitions
nothing_out = (refl, refl, refl, refl, refl, refl, refl, refl, refl)

-- what unfolds to work a closing out
unfoldable pub closing_definitions : Unit {0}
unfolding book_definitions rules on_billing on_control on_past by_contract evenly by_peaks by_weights as_read stretched shared_power shares_over
    spread taken portion half_up
    kept power_on power_of open_hours month_hours month_days leap_year is_month
closing_definitions = tt

abbrev close_month : ℕ → Call
close_month t = closing (zeros t) (zeros 744)

-- WITH THESE the rules give the ground and the volume: a billing reading less N; the past, while R is at most 2; then P × T
grounds :
    ((work_out o (called (neighbour 1 2) ∷ called (billing_volume 7) ∷ []) (close_month 744)).ground ≡ 2)
    × ((work_out o (called (neighbour 1 2) ∷ called (billing_volume 7) ∷ []) (close_month 744)).volume ≡ 5)
    × ((work_out o (shut 1 (replicate 744 2) ∷ []) (close_month 672)).ground ≡ 7)
    × ((work_out o (shut 1 (replicate 744 2) ∷ []) (close_month 672)).volume ≡ 1344)
    × ((work_out o (reported (failure 3) ∷ called (billing_volume 7) ∷ shut 1 (replicate 744 2) ∷ []) (close_month 672)).ground ≡ 7)
    × ((work_out o (reported denial ∷ reported denial ∷ shut 1 (replicate 744 2) ∷ []) (close_month 672)).ground ≡ 8)
    × ((work_out o (estimated 2 (shut 1 (replicate 744 2) ∷ [])) (close_month 720)).ground ≡ 8)
    × ((work_out o (estimated 2 (shut 1 (replicate 744 2) ∷ [])) (close_month 720)).volume ≡ 720)
unfolding closing_definitions
grounds = (refl, refl, refl, refl, refl, refl, refl, refl)

-- a closing is worked out from the book that it is fed to: an hour of 2 kWh from the past, and 1 kWh without it
from_its_book :
    (volumes (feed o (shut 1 (2 ∷ []) ∷ []) (closing (0 ∷ []) []) true) ≡ 4)
    × (volumes (feed o (shut 8 (2 ∷ []) ∷ []) (closing (0 ∷ []) []) true) ≡ 3)
    × (volumes (feed o (shut 1 (2 ∷ []) ∷ []) (closing (0 ∷ []) []) false) ≡ 2)
unfolding closing_definitions
from_its_book = (refl, refl, refl)

-- the contract is the opening's, with P on its basis: of 10 kW by 1, 2, 5 place 0 has 1, place 1 has 3 and place 2 has 6
abbrev at_place : ℕ → Opening
at_place k =
    record {
      asked = record { billing = 1; control = 2; basis = 2; power = record { 0 = 10 }; cable = no_cable };
      date = o.date;
      currents = 1 ∷ 2 ∷ 5 ∷ [];
      place = k;
    }

shared :
    ((inputs_of (at_place 0) [] []).contract.power.0 ≡ 1) × ((inputs_of (at_place 1) [] []).contract.power.0 ≡ 3)
    × ((inputs_of (at_place 2) [] []).contract ≡ record { billing = 1; control = 2; basis = 2; power = record { 0 = 6 }; cable = no_cable })
unfolding closing_definitions
shared = (refl, refl, refl)

-- m) 1 kW, no reading, January to March 2023: 2,160; a closing that is refused between them adds nothing
abbrev january : Book
january = feed o [] (close_month 744) true

abbrev february : Book
february = feed o (feed o january (close_month 744) false) (close_month 672) true

abbrev march : Book
march = feed o february (close_month 744) true

example_m : (volumes january ≡ 744) × (volumes february ≡ 1416) × (volumes march ≡ 2160)
unfolding closing_definitions
example_m = (refl, refl, refl)
