-- The past month of a record, which is one of the twelve. Assumes nothing.
use Prim.Native.Nat.{◌-◌, ◌≤◌, ◌<◌}
use mathlib.Core.Path.{◌≡◌, refl}
use mathlib.Core.Logic.{◌≢◌}
use mathlib.Core.Bool.{true}
use native.Mathlib.Omega.{arith}
use borrow.Author.Tests.{eq-eqb, ne_eqb, eqb-true, eqb-false, leb-true, le-leb}
use lib.Dec.{leb, ltb, eqb}
use Rattle.std.specs.Prelude.{Some}
use Rattle.std.proofs.lemmas.Option.{none-some}
use Rattle.numbers.specs.Lists.{at}
use Rattle.numbers.proofs.Laws.{by_cases, both}
use Rattle.calendar.specs.declared.Date.{Date}
use Rattle.calendar.specs.Calendar.{is_month_number, is_open_number, month_number, date_of, month_in}
use Rattle.calendar.proofs.Laws.{OpenLimits, open_limits}
use Rattle.record.specs.declared.Record.{Record}
use Rattle.validity.specs.Valid.{valid}
use Rattle.validity.proofs.Laws.{valid_parts, past_parts}
use Rattle.model.specs.Model.{last_year, past_month}

-- the open month's limits
pub month_limits : (r : Record) → valid r ≡ true → OpenLimits r.date
month_limits r v = open_limits r.date (valid_parts r v).month

pub year_some : (r : Record) → valid r ≡ true → 1 ≤ r.date.year
unfolding month_number
year_some r v = omega (arith, month_limits r v)

pub month_some : (r : Record) → valid r ≡ true → 1 ≤ r.date.month
month_some r v = omega (arith, month_limits r v)

pub row_some : (r : Record) → valid r ≡ true → r.date.month - 1 < 12
row_some r v = omega (arith, month_limits r v)

-- where there is a latest past month, its number is that of a month
pub latest_some : (r : Record) → valid r ≡ true → r.past.latest ≢ 0 → is_open_number r.past.latest ≡ true
latest_some r v n =
    let l = r.past.latest in
    let p = (past_parts r.past r.date (valid_parts r v).past).latest in
    let q = both (is_month_number l) (ltb l (month_number r.date)) (rw (ne_eqb l 0 n) at p) in
    let m = both (leb 24169 l) (leb l 36000) q.0 in
    rw (m.0, le-leb l 36001 (omega (arith, leb-true l 36000 m.1)))

-- the same month last year
pub same_month : (r : Record) → at r.past.years (r.date.month - 1) ≡ r.date.year - 1 → Some (last_year r.date) ≡ past_month r
unfolding past_month
same_month r e = rw (eq-eqb _ _ e) refl

-- the latest past month, or none: there is no month of the number 0
pub latest_month : (r : Record) → valid r ≡ true → at r.past.years (r.date.month - 1) ≢ r.date.year - 1 → month_in r.past.latest ≡ past_month r
unfolding past_month month_in
latest_month r v n =
    rw (ne_eqb (at r.past.years (r.date.month - 1)) (r.date.year - 1) n)
    (by_cases (eqb r.past.latest 0) (λ t. rw (eqb-true r.past.latest 0 t) refl) (λ f. rw (f, latest_some r v (eqb-false _ _ f)) refl))

-- its month is one of the twelve
pub past_limits : (r : Record) {d : Date} → valid r ≡ true → past_month r ≡ Some d → (1 ≤ d.month) × (d.month ≤ 12)
unfolding past_month date_of
past_limits r {d} v e =
    by_cases (eqb (at r.past.years (r.date.month - 1)) (r.date.year - 1))
    (λ t.
    let same : last_year r.date ≡ d = let q : Some (last_year r.date) ≡ Some d = rw t at e in cc in
    let h = month_limits r v in
    rw (← same) (omega arith, omega arith))
    (λ f.
    by_cases (eqb r.past.latest 0) (λ t. absurd (none-some _ (rw (f, t) at e)))
    (λ n.
    let latest : date_of r.past.latest ≡ d = let q : Some (date_of r.past.latest) ≡ Some d = rw (f, n) at e in cc in
    rw (← latest) (omega arith, omega arith)))
