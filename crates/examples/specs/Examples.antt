-- The common table of examples (document 01, 'Examples to be shown in a common table'), in its order.
use Rattle.std.specs.Prelude.{ℕ, ◌≡◌, true, false, Some, List, [], ◌∷◌, ◌++◌, length}
use Rattle.numbers.specs.Lists.{at, zeros}
use Rattle.calendar.specs.declared.Date.{Date}
use Rattle.calendar.specs.Calendar.{month_days, open_hours, month_number}
use Rattle.sharing.specs.Shares.{shares, stretched}
use Rattle.power.specs.declared.Cable.{Cable}
use Rattle.power.specs.Power.{formula, shared_power}
use Rattle.marks.specs.Marks.{capacity_of}
use Rattle.marks.specs.Peak.{peak_rule}
use Rattle.record.specs.declared.Service.{Service}
use Rattle.rules.specs.Calls.{Opening, Call, closing}
use Rattle.rules.specs.Rules.{missing, whole, Inputs, ground_six, rules}
use Rattle.model.specs.Model.{State, after_failure, leaves}
use Rattle.model.specs.Opening.{opened}

abbrev pub february : ℕ → Date
february y = record { year = y; month = 2 }

-- I amperes, U volts, c, phases
abbrev pub cable : ℕ → ℕ → ℕ → ℕ → Cable
cable i u c f = record { amperes = i; volts = u; cosine = c; phases = f }

-- six hours, peaks at 1 and 3
abbrev pub six : List ℕ
six = 0 ∷ 1 ∷ 0 ∷ 3 ∷ 0 ∷ 2 ∷ []

abbrev pub month : ℕ → ℕ → Date
month y m = record { year = y; month = m }

-- a day with peaks at hours 8 and 9, of which hour 8 is the capacity hour: n 2, d 1
abbrev pub working_day : List ℕ
working_day = zeros 8 ++ (3 ∷ 1 ∷ zeros 14)

-- that day in the third missed month, with P 3 and a control reading of 12, so that A is 6, and with a past of 1 kWh in the capacity hour
-- and w in the other peak hour: C' is 12 × 1 / (1 + w)
abbrev pub by_past : ℕ → Inputs
by_past w =
    record {
      contract = record { billing = 2; control = 2; basis = 1; power = record { 0 = 3 }; cable = cable 0 0 0 0 };
      marks = working_day;
      counted = 3;
      billing = missing;
      control = whole 12;
      neighbour = 0;
      past = Some (zeros 8 ++ (1 ∷ w ∷ zeros 14));
    }

-- five missed months in a row, and a fault in a month before
abbrev pub faulted : Date → Service
faulted d = record { run = 5; serving = 1; denials = 0; fault = month_number d }

-- a point with 1 kW, opened in January 2023
abbrev pub one_kilowatt : Opening
one_kilowatt =
    record {
      asked = record { billing = 1; control = 0; basis = 1; power = record { 0 = 1 }; cable = cable 0 0 0 0 };
      date = month 2023 1;
      currents = [];
      place = 0;
    }

-- the closing of a month of t hours, none of them marked
abbrev pub plainly : ℕ → Call
plainly t = closing (zeros t) (zeros 744)

-- the record and store that three closings leave in the model, each accepted or refused as it may be
unfoldable pub after_march : State
after_march = leaves (leaves (leaves (opened one_kilowatt) (plainly 744)) (plainly 672)) (plainly 744)

pub record Examples : Type 0 where
  -- a) February: 2023 28 days, 2024 29, 2100 28, 2400 29
  pub a : (month_days (february 2023) ≡ 28) × (month_days (february 2024) ≡ 29) × (month_days (february 2100) ≡ 28)
      × (month_days (february 2400) ≡ 29)
  -- b) 10 by 1, 1, 1: 3, 4, 3 (E2)
  pub b : shares 10 (1 ∷ 1 ∷ 1 ∷ []) ≡ 3 ∷ 4 ∷ 3 ∷ []
  -- c) 5 by 0, 0: 3, 2 (E2)
  pub c : shares 5 (0 ∷ 0 ∷ []) ≡ 3 ∷ 2 ∷ []
  -- d) 7 by 3, 0, 1: 5, 0, 2
  pub d : shares 7 (3 ∷ 0 ∷ 1 ∷ []) ≡ 5 ∷ 0 ∷ 2 ∷ []
  -- e) 100 A, 230 V, c 0, 720 h: 29,808 with three phases, 9,936 with one
  pub e : (formula (cable 100 230 0 3) 720 ≡ 29808) × (formula (cable 100 230 0 1) 720 ≡ 9936)
  -- f) 1 A, 25 V, c 125, one phase, 720 h: 2
  pub f : formula (cable 1 25 125 1) 720 ≡ 2
  -- g) 10 kW by 1, 1, 1: place 2 has 3, and place 1 has 4 (E2)
  pub g : (shared_power 10 (1 ∷ 1 ∷ 1 ∷ []) 2 ≡ 3) × (shared_power 10 (1 ∷ 1 ∷ 1 ∷ []) 1 ≡ 4)
  -- h) six hours, peaks at 1 and 3, P 3: V 10 gives 1, 3, 1, 3, 1, 1; V 5 gives 0, 3, 0, 2, 0, 0 (E2)
  pub h : (peak_rule 10 3 six ≡ 1 ∷ 3 ∷ 1 ∷ 3 ∷ 1 ∷ 1 ∷ []) × (peak_rule 5 3 six ≡ 0 ∷ 3 ∷ 0 ∷ 2 ∷ 0 ∷ 0 ∷ [])
  -- i) the same, P 0, V 4: 1, 0, 1, 0, 1, 1
  pub i : peak_rule 4 0 six ≡ 1 ∷ 0 ∷ 1 ∷ 0 ∷ 1 ∷ 1 ∷ []
  -- j) C 7, d 2: 4
  pub j : capacity_of 7 2 ≡ 4
  -- k) A 6, n 2, d 1: C' 3 keeps the peak rule, C' 4 doesn't; so of the test of ground 6, and of the ground of a day with these
  pub k : (ground_six 6 1 2 3 ≡ false) × (ground_six 6 1 2 4 ≡ true) × ((rules (by_past 3)).ground ≡ 5) × ((rules (by_past 2)).ground ≡ 6)
  -- l) faults in January 2023 and January 2024 repeat; with February 2024 they don't
  pub l :
      ((after_failure (faulted (month 2023 1)) (month 2024 1) 1).run ≡ 0)
      × ((after_failure (faulted (month 2023 1)) (month 2024 2) 1).run ≡ 5)
  -- m) 1 kW, no reading, January to March 2023: 2,160
  pub m : after_march.point.total.0 ≡ 2160
  -- n) hour 672 of February 2024 from February 2023: its hour 504
  pub n : (past : List ℕ) → length past ≡ open_hours (february 2023) → at (stretched past (open_hours (february 2024))) 672 ≡ at past 504
