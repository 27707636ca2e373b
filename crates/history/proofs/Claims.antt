-- What the claim of demand 3 reads off a list of turns, on values: what each definition counts and what it passes over, and what its records
-- say of a turn. By computation; assumes nothing.
use Prim.Native.Nat.{ℕ, zero, suc, ◌+◌}
use mathlib.Core.Path.{◌≡◌, refl}
use mathlib.Core.Logic.{◌≢◌}
use mathlib.Core.Bool.{true, false}
use mathlib.Core.List.{List, [], ◌∷◌, ◌++◌}
use native.Mathlib.Omega.{arith}
use lib.ListN.{replicate}
use Rattle.numbers.specs.Lists.{zeros, padded}
use Rattle.calendar.specs.Calendar.{leap_year, is_month, month_days, month_hours, open_hours}
use Rattle.power.specs.Power.{power_on}
use Rattle.marks.specs.Marks.{first_day, peak_count, working_days, capacity_sum, capacity_of}
use Rattle.contract.specs.Contract.{kept}
use Rattle.record.specs.declared.Record.{Record}
use Rattle.record.specs.Record.{kwh, zero_record, fresh_record}
use Rattle.rules.specs.Calls.{Opening, billing_volume, admission, denial, Call, read, report, closing, is_closing, marks_of, buffer_of}
use Rattle.rules.specs.Rules.{figures, no_figures}
use Rattle.model.specs.Refusals.{wrong_day}
use Rattle.model.specs.Model.{State, state, accept, after_report, refusal, accepted, leaves, figures_of, hours_out, refused_figures, answer, buffer_after}
use Rattle.model.specs.Opening.{opens, opened, open_leaves, open_answer}
use Rattle.model.proofs.Examples.{refusal_definitions}
use Rattle.history.specs.Book.{month_of}
use Rattle.history.specs.Claim.{Turn, state_after, was_accepted, closes, book, handed, all_handed, fills_row, last_buffer, without_refused}
use Rattle.history.specs.Claim.{Follows, Run, Untouched, AsBook, GoesOn}
use Rattle.history.proofs.Examples.{o, called, reported, book_definitions, closing_definitions}

-- A TURN: a call, its number, its ground, and the hour buffer after it. The record after it has the total 100 + ground, and the store has the
-- ground in its only word
abbrev totalled : ℕ → Record
totalled v = record zero_record { total = kwh v }

abbrev said : Call → ℕ → ℕ → List ℕ → Turn
said c number g hs =
    record {
      call = c;
      answer =
          record {
            refusal = number;
            after = totalled (100 + g);
            figures = record
                { ground = g; volume = record { 0 = 0 }; capacity = record { 0 = 0 }; sum = record { 0 = 0 }; days = 0; wrong_day = 0 };
          };
      store = g ∷ [];
      buffer = hs;
    }

-- a closing accepted on a ground, with 744 hours of x in the hour buffer, and one refused
abbrev shut : ℕ → ℕ → Turn
shut g x = said (closing [] []) 0 g (replicate 744 x)

abbrev refused : ℕ → Turn
refused x = said (closing [] []) 40 0 (replicate 744 x)

-- a reading and a report, accepted and refused
abbrev given : ℕ → Turn
given v = said (read (billing_volume v)) 0 0 []

abbrev not_taken : ℕ → Turn
not_taken v = said (read (billing_volume v)) 22 0 []

abbrev denies : Turn
denies = said (report denial) 0 0 []

abbrev not_denied : Turn
not_denied = said (report denial) 33 0 []

-- turns that no run has: a refused closing with a ground, and an accepted report with a ground and with hours
abbrev refused_on : ℕ → Turn
refused_on g = said (closing [] []) 40 g (replicate 744 1)

abbrev denies_on : ℕ → Turn
denies_on g = said (report denial) 0 g (replicate 744 1)

abbrev again : ℕ → Turn → List Turn → List Turn
again zero t ts = ts
again (suc n) t ts = t ∷ again n t ts

unfoldable turn_definitions : Unit {0}
unfolding book_definitions state_after was_accepted closes book handed all_handed fills_row last_buffer without_refused open_hours month_hours
    month_days leap_year is_month
turn_definitions = tt

-- accepted is number 0 and no other, whatever the ground; only an accepted closing closes
accepts :
    (was_accepted denies ≡ true)
    × (was_accepted (shut 9 1) ≡ true)
    × (was_accepted (given 5) ≡ true)
    × (was_accepted not_denied ≡ false)
    × (was_accepted (said (report denial) 1 0 []) ≡ false)
    × (was_accepted (refused 1) ≡ false)
    × (closes (shut 8 1) ≡ true)
    × (closes (shut 1 1) ≡ true)
    × (closes (refused 1) ≡ false)
    × (closes denies ≡ false)
    × (closes not_denied ≡ false)
    × (closes (given 5) ≡ false)
unfolding turn_definitions
accepts = (refl, refl, refl, refl, refl, refl, refl, refl, refl, refl, refl, refl)

-- the record and store of the newest turn, accepted or refused, or else the opening's
leavings : (s : State)
    → (state_after s [] ≡ s) × (state_after s (shut 8 1 ∷ shut 7 2 ∷ []) ≡ state (totalled 108) (8 ∷ []))
    × (state_after s (refused 1 ∷ shut 7 2 ∷ []) ≡ state (totalled 100) (0 ∷ []))
unfolding turn_definitions
leavings s = (refl, refl, refl)

-- the book has the accepted calls, the newest first, and no refused one; each accepted closing ends a month
enters :
    (book o [] ≡ [])
    × (book o (denies ∷ given 5 ∷ []) ≡ reported denial ∷ called (billing_volume 5) ∷ [])
    × (book o (not_denied ∷ denies ∷ not_taken 6 ∷ given 5 ∷ not_taken 4 ∷ []) ≡ reported denial ∷ called (billing_volume 5) ∷ [])
    × (month_of o (book o (shut 8 1 ∷ [])) ≡ record { year = 2023; month = 2 })
    × (month_of o (book o (refused 1 ∷ denies ∷ shut 8 1 ∷ refused 1 ∷ [])) ≡ record { year = 2023; month = 2 })
unfolding turn_definitions
enters = (refl, refl, refl, refl, refl)

-- January 3000, which no run closes
abbrev at_end : Opening
at_end = record o { date = record { year = 3000; month = 1 } }

-- the buffer's first T hours are handed out, T of the month that the closing ends: 744 in January, that of 3000 included, and 672 in February
hands :
    (handed o (shut 8 1) [] ≡ replicate 744 1)
    × (handed o (said (closing [] []) 0 8 (replicate 672 1 ++ replicate 72 9)) (shut 8 3 ∷ []) ≡ replicate 672 1)
    × (handed o (shut 8 1) (refused 1 ∷ []) ≡ replicate 744 1)
    × (handed o (shut 8 1) (again 12 (shut 8 3) []) ≡ replicate 744 1)
    × (handed at_end (shut 8 1) [] ≡ replicate 744 1)
unfolding turn_definitions
hands = (refl, refl, refl, refl, refl)

-- a refused closing and another call hand out nothing
hands_nothing : (handed o (refused 1) [] ≡ []) × (handed o (refused_on 8) [] ≡ []) × (handed o (denies_on 0) [] ≡ [])
unfolding turn_definitions
hands_nothing = (refl, refl, refl)

-- the sum of all of them: 744 in January, 1,344 in February, and what was refused between them left out
hands_all :
    (all_handed o [] ≡ 0) × (all_handed o (shut 8 1 ∷ []) ≡ 744)
    × (all_handed o (denies_on 8 ∷ shut 8 2 ∷ refused 9 ∷ given 5 ∷ shut 8 1 ∷ refused 9 ∷ []) ≡ 2088)
unfolding turn_definitions
hands_all = (refl, refl, refl)

-- an accepted closing on ground 1 or 2 fills a row, and no other
measured :
    (fills_row o 0 (shut 1 5) [] ≡ true)
    × (fills_row o 0 (shut 2 5) [] ≡ true)
    × (fills_row o 0 (shut 3 5) [] ≡ false)
    × (fills_row o 0 (shut 0 5) [] ≡ false)
    × (fills_row o 0 (shut 9 5) [] ≡ false)
    × (fills_row o 0 (refused_on 1) [] ≡ false)
    × (fills_row o 0 (refused_on 2) [] ≡ false)
    × (fills_row o 0 (denies_on 1) [] ≡ false)
    × (fills_row o 0 (denies_on 2) [] ≡ false)
unfolding turn_definitions
measured = (refl, refl, refl, refl, refl, refl, refl, refl, refl)

-- the row is that of the month that the closing ends, not the one before or after, and the same in another year
of_its_month :
    (fills_row o 1 (shut 1 5) [] ≡ false)
    × (fills_row o 11 (shut 1 5) [] ≡ false)
    × (fills_row o 1 (shut 2 5) (shut 8 1 ∷ []) ≡ true)
    × (fills_row o 0 (shut 2 5) (shut 8 1 ∷ []) ≡ false)
    × (fills_row o 2 (shut 2 5) (shut 8 1 ∷ []) ≡ false)
    × (fills_row o 0 (shut 1 5) (refused_on 1 ∷ denies_on 1 ∷ []) ≡ true)
    × (fills_row o 11 (shut 1 5) (again 11 (shut 8 1) []) ≡ true)
    × (fills_row o 0 (shut 1 5) (again 12 (shut 8 1) []) ≡ true)
    × (fills_row o 1 (shut 1 5) (again 12 (shut 8 1) []) ≡ false)
    × (fills_row o 1 (shut 2 5) (again 25 (shut 8 1) []) ≡ true)
unfolding turn_definitions
of_its_month = (refl, refl, refl, refl, refl, refl, refl, refl, refl, refl)

-- the newest of them counts, in any year; closings of other months, on other grounds and refused ones are passed over; all 0 where there was none
lasts :
    (last_buffer o 0 [] ≡ zeros 744) × (last_buffer o 0 (shut 1 5 ∷ []) ≡ replicate 744 5) × (last_buffer o 1 (shut 1 5 ∷ []) ≡ zeros 744)
    × (last_buffer o 1 (shut 2 6 ∷ shut 1 5 ∷ []) ≡ replicate 744 6)
    × (last_buffer o 0 (shut 2 6 ∷ shut 1 5 ∷ []) ≡ replicate 744 5)
    × (last_buffer o 2 (shut 8 7 ∷ shut 2 6 ∷ shut 1 5 ∷ []) ≡ zeros 744)
    × (last_buffer o 0 (refused 9 ∷ shut 8 1 ∷ denies_on 1 ∷ shut 1 5 ∷ refused_on 1 ∷ []) ≡ replicate 744 5)
    × (last_buffer o 0 (shut 2 6 ∷ again 11 (shut 8 1) (shut 1 5 ∷ [])) ≡ replicate 744 6)
    × (last_buffer o 0 (again 12 (shut 8 1) (shut 1 5 ∷ [])) ≡ replicate 744 5)
unfolding turn_definitions
lasts = (refl, refl, refl, refl, refl, refl, refl, refl, refl)

-- the list without its refused calls has all others, in their order
keeps :
    (without_refused [] ≡ []) × (without_refused (refused 1 ∷ not_denied ∷ []) ≡ [])
    × (without_refused (refused 1 ∷ shut 8 1 ∷ not_denied ∷ denies ∷ given 5 ∷ not_taken 6 ∷ []) ≡ shut 8 1 ∷ denies ∷ given 5 ∷ [])
unfolding turn_definitions
keeps = (refl, refl, refl)

-- A REFUSED CALL that leaves all as it was, after a closing that left the ground 8 in the store
abbrev left_by : Call → ℕ → ℕ → List ℕ → Turn
left_by c number day hs =
    record (said c number 8 hs) { answer = record (said c number 8 hs).answer { figures = record no_figures { wrong_day = day } } }

-- two days, of which the second has two capacity hours and both have peaks
abbrev twice : List ℕ
twice = 3 ∷ (zeros 23 ++ (2 ∷ (zeros 22 ++ (3 ∷ []))))

leaves_all : (s : State)
    → Untouched s (left_by (closing (2 ∷ []) (7 ∷ 6 ∷ [])) 40 0 (7 ∷ 6 ∷ [])) (shut 8 1 ∷ shut 7 2 ∷ [])
    × Untouched s (left_by (closing twice (7 ∷ 6 ∷ [])) 43 2 (7 ∷ 6 ∷ [])) (shut 8 1 ∷ [])
    × Untouched s (left_by (report denial) 33 0 []) (shut 8 1 ∷ [])
unfolding turn_definitions buffer_of marks_of refused_figures wrong_day first_day
leaves_all s = (
  record { point = refl; store = refl; buffer = refl; figures = refl },
  record { point = refl; store = refl; buffer = refl; figures = refl },
  record { point = refl; store = refl; buffer = refl; figures = refl },
)

-- AN ACCEPTED CLOSING of February after January, 1 kW on ground 8: 672 hours of 1 kWh with 0 behind them; hour 0 is a capacity hour, so that C,
-- d and capacity are 1. What the hour buffer holds at first is not its marks
abbrev february : Turn
february =
    record {
      call = closing (2 ∷ zeros 671) (1 ∷ zeros 743);
      answer =
          record {
            refusal = 0;
            after = totalled 108;
            figures = record
                { ground = 8; volume = record { 0 = 672 }; capacity = record { 0 = 1 }; sum = record { 0 = 1 }; days = 1; wrong_day = 0 };
          };
      store = 8 ∷ [];
      buffer = replicate 672 1 ++ zeros 72;
    }

as_worked_out : AsBook o february (shut 8 1 ∷ [])
unfolding turn_definitions closing_definitions figures marks_of capacity_sum capacity_of working_days peak_count padded
as_worked_out = record { hours = refl; buffer = refl; figures = refl }

-- THE POINT GOES ON at the numbers 0, 3, 44 and 46
goes : GoesOn 0 × GoesOn 3 × GoesOn 44 × GoesOn 46
goes = (
  record { long = λ e. omega (arith, e); sound = λ e. omega (arith, e); small = λ e. omega (arith, e) },
  record { long = λ e. omega (arith, e); sound = λ e. omega (arith, e); small = λ e. omega (arith, e) },
  record { long = λ e. omega (arith, e); sound = λ e. omega (arith, e); small = λ e. omega (arith, e) },
  record { long = λ e. omega (arith, e); sound = λ e. omega (arith, e); small = λ e. omega (arith, e) },
)

-- and not at 1, 2 and 45
goes_on_without : (n : ℕ) → GoesOn n → (n ≢ 1) × (n ≢ 2) × (n ≢ 45)
goes_on_without n g = (g.long, g.sound, g.small)

-- A RUN: an opening that clears a store of sevens, a denial, and an admission that is refused with 32, since the point is in service
abbrev denied_once : Record
denied_once =
    record (fresh_record o.asked o.date) { service = record { run = 0; serving = 1; denials = 1; fault = 0 } }

abbrev without_hours : Call → ℕ → Turn
without_hours c number =
    record {
      call = c;
      answer = record { refusal = number; after = denied_once; figures = no_figures };
      store = zeros 10416;
      buffer = [];
    }

a_run : Run o (state (fresh_record o.asked o.date) (zeros 10416)) (without_hours (report admission) 32 ∷ without_hours (report denial) 0 ∷ [])
unfolding turn_definitions refusal_definitions kept power_on opens opened open_leaves open_answer Follows answer leaves refusal accepted
    accept after_report buffer_after figures_of hours_out refused_figures wrong_day is_closing marks_of buffer_of
a_run =
    record {
      before = replicate 10416 7;
      answer = record { refusal = 0; after = fresh_record o.asked o.date; figures = no_figures };
      opens = record { answered = refl; left = refl };
      point = refl;
      accepted = refl;
      follows =
          (record { answered = refl; left = refl; buffered = refl }, (record { answered = refl; left = refl; buffered = refl }, tt));
    }
