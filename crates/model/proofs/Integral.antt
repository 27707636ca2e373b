-- Integral billing meters at an opening (document 02, E3). Of the openings of which 1 and 10 to 14 say nothing, one with an integral billing meter is
-- accepted just where P, the point's own, is below 670 kW; the others are. No other call asks for the power. Assumes nothing.
use Prim.Native.Nat.{ℕ, ◌≤◌, ◌<◌}
use mathlib.Core.Path.{◌≡◌, refl, ◌∙◌}
use mathlib.Core.Bool.{Bool, true, false}
use mathlib.Core.List.{List}
use mathlib.Core.Logic.{◌≢◌}
use borrow.Author.Tests.{eqb-true, le-leb, lt-leb, leb-false}
use lib.Dec.{eqb, lit<}
use lib.ListN.{length}
use Rattle.numbers.proofs.Laws.{by_cases}
use Rattle.power.specs.Power.{power_on}
use Rattle.contract.specs.declared.Contract.{Contract}
use Rattle.contract.specs.Contract.{kept, power_of}
use Rattle.record.specs.declared.Record.{Record}
use Rattle.record.specs.Record.{with_contract}
use Rattle.rules.specs.Calls.{Opening, billing_hours, control_hours, billing_volume, control_volume, neighbour}
use Rattle.rules.specs.Calls.{failure, admission, denial, permission, Call, read, report, closing}
use Rattle.model.specs.Refusals.{refuse, refuse_asked, asked_power, open_refusal, reading_number, report_number, own_refusal}
use Rattle.model.specs.Opening.{opens, opened}
use Rattle.model.specs.Sound.{Sound}
use Rattle.model.proofs.Laws.{skip, asked_passed, asked_allows}
use Rattle.model.proofs.GoesOn.{asked_sound}

-- P of the record that an opening leaves is the P that number 15 asks for
pub power_opened : (o : Opening) → power_of (opened o).point.contract ≡ asked_power o
unfolding opened kept power_of power_on
power_opened o = by_cases (eqb o.asked.basis 3) (λ t. rw (eqb-true o.asked.basis 3 t) refl) (λ f. rw f refl)

-- a test that does not apply, and one that does or is followed by one that does
passing : {test : Bool} (number : ℕ) {rest : ℕ} → test ≡ false → refuse test number rest ≡ rest
unfolding refuse
passing number e = rw e

applying : (test : Bool) (number : ℕ) {a b : ℕ} → (b ≢ 0 → a ≡ b) → refuse test number b ≢ 0 → refuse test number a ≡ refuse test number b
unfolding refuse
applying true number h n = refl
applying false number h n = h n

-- where 1 and 10 to 14 say nothing, what comes behind them has its say
asked_rest : (words : ℕ) (o : Opening) → refuse_asked words o 0 ≡ 0 → (rest : ℕ) → refuse_asked words o rest ≡ rest
asked_rest words o h rest =
    let p = asked_passed o h in
    passing 1 p.size ∙ passing 10 p.month ∙ passing 11 p.meters ∙ passing 12 p.based ∙ passing 13 p.cabled ∙ passing 14 p.listed

-- LAW: 1 and 10 to 14 come before 15
pub asked_first : (words : ℕ) (o : Opening) → refuse_asked words o 0 ≢ 0 → open_refusal words o ≡ refuse_asked words o 0
unfolding open_refusal
asked_first words o =
    applying _ 1 (applying _ 10 (applying _ 11 (applying _ 12 (applying _ 13 (applying _ 14 (λ n. absurd (n refl)))))))

-- where these say nothing: LAW: an interval billing meter is accepted with any P
pub interval_accepted : (words : ℕ) (o : Opening) → refuse_asked words o 0 ≡ 0 → o.asked.billing ≡ 1 → open_refusal words o ≡ 0
unfolding open_refusal
interval_accepted words o h m = asked_rest words o h _ ∙ rw m (passing 15 refl)

-- LAW: an integral one is accepted where P is below 670 kW
pub integral_accepted : (words : ℕ) (o : Opening) → refuse_asked words o 0 ≡ 0 → o.asked.billing ≡ 2 → power_of (opened o).point.contract < 670
    → open_refusal words o ≡ 0
unfolding open_refusal
integral_accepted words o h m l = asked_rest words o h _ ∙ passing 15 (rw m (lt-leb 670 (asked_power o) (rw (power_opened o) at l)))

-- LAW: and refused with 15 where it is 670 kW or more
pub integral_refused : (words : ℕ) (o : Opening) → refuse_asked words o 0 ≡ 0 → o.asked.billing ≡ 2 → 670 ≤ power_of (opened o).point.contract
    → open_refusal words o ≡ 15
unfolding open_refusal refuse
integral_refused words o h m l = asked_rest words o h _ ∙ rw (m, le-leb 670 (asked_power o) (rw (power_opened o) at l))

-- LAW: so an accepted opening has an integral billing meter only where P is below 670 kW
pub integral_below : (o : Opening) (store : List ℕ) → opens o store ≡ true → o.asked.billing ≡ 2 → power_of (opened o).point.contract < 670
unfolding opens open_refusal
integral_below o store h m =
    let z = (asked_passed o (eqb-true (open_refusal (length store) o) 0 h)).own in
    rw (power_opened o) (leb-false 670 (asked_power o) (rw m at (skip (lit< tt) z).0))

-- LAW: a point that an opening left of which 15 was not asked goes on: its record and store are sound as any other's
pub earlier_sound : (words : ℕ) (o : Opening) → refuse_asked words o 0 ≡ 0 → Sound (opened o)
earlier_sound words o h = asked_sound words o (asked_allows o (asked_passed o h))

-- LAW: and the numbers that a call has of its own are the same whatever the basis, the power and the cable are
pub power_unasked : (r : Record) (c : Contract) (store : List ℕ) (call : Call) → c.billing ≡ r.contract.billing → c.control ≡ r.contract.control
    → own_refusal (with_contract r c) store call ≡ own_refusal r store call
unfolding own_refusal reading_number report_number
power_unasked r c store (read (billing_hours hours)) b k = rw b
power_unasked r c store (read (control_hours hours)) b k = rw k
power_unasked r c store (read (billing_volume v)) b k = rw b
power_unasked r c store (read (control_volume v)) b k = rw k
power_unasked r c store (read (neighbour source v)) b k = refl
power_unasked r c store (report (failure reason)) b k = refl
power_unasked r c store (report admission) b k = refl
power_unasked r c store (report denial) b k = refl
power_unasked r c store (report permission) b k = refl
power_unasked r c store (closing marks buffer) b k = refl
