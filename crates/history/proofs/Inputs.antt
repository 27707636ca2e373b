-- What counts at a closing is the same from the record and store as from the book that describes them. Assumes nothing.
use Prim.Native.Nat.{ℕ, ◌+◌, ◌-◌, ◌*◌, ◌≤◌, ◌<◌}
use mathlib.Core.Path.{◌≡◌, refl, sym, ap, ◌∙◌}
use mathlib.Core.Bool.{true, cond}
use mathlib.Core.List.{List, [], ◌∷◌}
use native.Mathlib.Omega.{arith}
use borrow.Author.Tests.{eqb-true, eqb-false, eq-eqb, ne_eqb}
use lib.Dec.{eqb, lit≤}
use lib.ListN.{length, take, drop}
use lib.Seq.{take-take}
use Rattle.numbers.specs.Lists.{at}
use Rattle.numbers.proofs.Laws.{by_cases, both, at_tab}
use Rattle.calendar.specs.declared.Date.{Date}
use Rattle.calendar.specs.Calendar.{open_hours, month_number, date_of}
use Rattle.calendar.proofs.Laws.{open_high, number_next, date_number, same_date, OpenLimits, open_limits}
use Rattle.store.specs.Store.{row_part}
use Rattle.contract.specs.Contract.{kept}
use Rattle.store.specs.Store.{as_row}
use Rattle.rules.specs.Calls.{Opening}
use Rattle.rules.specs.Rules.{Measured, missing, hourly, whole, Stated, PastHours, becomes_past}
use Rattle.model.specs.Model.{State, measured_in, stated_in, row_of, row_hours, last_year, past_month, past_in, inputs}
use Rattle.history.specs.Book.{Entry, Book, control, closed, of_kind, month_of, billing_of, this_months, source_of, became_past, hours_at}
use Rattle.history.specs.Book.{latest_hours, or_else_past, past_of, inputs_of}
use Rattle.history.proofs.Rows.{take_row, row_hours_lem}
use Rattle.history.proofs.View.{given_by, stated_by, hours_read, latest_of, year_in, last_in, contents, point_of, seen, OfItsMeter, Entered}
use Rattle.history.proofs.View.{MonthsClosed, Shows}
use Rattle.history.proofs.Months.{month_open, grows}
use Rattle.std.specs.Prelude.{None, Some}

-- THIS MONTH'S READINGS
reading_same : (kind t : ℕ) (m : Measured) → OfItsMeter kind t m → (hs : List ℕ) → (length (hours_read m) ≡ t → hs ≡ hours_read m)
    → measured_in kind (given_by m) hs ≡ m
unfolding measured_in given_by hours_read OfItsMeter
reading_same kind t missing f hs e = refl
reading_same kind t (hourly xs) f hs e = rw (eq-eqb kind 1 f.0, e f.1)
reading_same kind t (whole v) f hs e = rw f

stated_same : (q : Stated) → stated_in (stated_by q) ≡ q
unfolding stated_in stated_by
stated_same None = refl
stated_same (Some v) = refl

-- THE PAST
-- a closing on ground 1 or 2 opens the next month
metered_closed : (e : Entry) → became_past e ≡ true → of_kind closed e ≡ true
unfolding became_past
metered_closed e m = (both (of_kind closed e) (becomes_past e.out) m).0

after_metered : (o : Opening) (e : Entry) (es : Book) → Entered o e es → became_past e ≡ true
    → month_number (month_of o (e ∷ es)) ≡ month_number (month_of o es) + 1
unfolding month_of
after_metered o e es f m =
    let t = metered_closed e m in
    rw t (number_next (month_of o es) (f.month t))

-- no month from the one that is open on was closed
not_yet_closed : (o : Opening) (n : ℕ) (es : Book) → MonthsClosed o es → month_number (month_of o es) ≤ n → hours_at o n es ≡ None
unfolding hours_at MonthsClosed
not_yet_closed o n [] f l = refl
not_yet_closed o n (e ∷ es) f l =
    let g = grows o e es f.0 in
    by_cases (became_past e)
    (λ m.
    let s = after_metered o e es f.0 m in
    rw (m, ne_eqb (month_number (month_of o es)) n (omega arith)) (not_yet_closed o n es f.1 (omega arith)))
    (λ m. rw m (not_yet_closed o n es f.1 (omega arith)))

-- the number of a month by its row
number_of : (d : Date) → 1 ≤ d.month → month_number d ≡ d.year * 12 + row_of d + 1
unfolding month_number
number_of d l = omega arith

pub record DateFits (d : Date) : Type 0 where
  pub first : 1 ≤ d.month
  pub last : d.month ≤ 12
  pub year : 0 < d.year

-- the row of a month, if it holds the year of the date d, is the book's of that date; it is asked for at most 12 months later
year_same : (o : Opening) (es : Book) → MonthsClosed o es → (d : Date) → DateFits d → month_number (month_of o es) ≤ month_number d + 12
    → (q : PastHours)
    → cond (eqb (year_in o es (row_of d)) d.year) (Some (take (open_hours d) (as_row (last_in o es (row_of d))))) q
    ≡ or_else_past (hours_at o (month_number d) es) q
unfolding MonthsClosed year_in last_in hours_at or_else_past
year_same o [] f d h l q = rw (ne_eqb 0 d.year (omega (arith, h.year)))
year_same o (e ∷ es) f d h l q =
    let g = grows o e es f.0 in
    by_cases (became_past e)
    (λ m.
    let s = after_metered o e es f.0 m in
    let d₀ : Date = month_of o es in
    let k : OpenLimits d₀ = open_limits d₀ (month_open o es f.1) in
    let nd = number_of d h.first in
    let n₀ = number_of d₀ k.first in
    by_cases (eqb (row_of d) (row_of d₀))
    (λ t.
    let st : row_of d ≡ row_of d₀ = eqb-true (row_of d) (row_of d₀) t in
    by_cases (eqb d₀.year d.year)
    (λ z.
    let yz : d₀.year ≡ d.year = eqb-true d₀.year d.year z in
    let nz : month_number d₀ ≡ month_number d = omega arith in
    let dz : d₀ ≡ d = same_date d₀ d k.first k.last h.first h.last nz in
    rw (m, t, z, eq-eqb (month_number d₀) (month_number d) nz, take_row e.out.hours (open_hours d) (f.0.long m ∙ ap open_hours dz)))
    (λ z.
    let other = eqb-false d₀.year d.year z in
    rw (m, t, z, ne_eqb (month_number d₀) (month_number d) (omega arith), not_yet_closed o (month_number d) es f.1 (omega arith))))
    (λ z.
    let other = eqb-false (row_of d) (row_of d₀) z in
    rw (m, z, ne_eqb (month_number d₀) (month_number d) (omega (arith, h.last, k.last))) (year_same o es f.1 d h (omega arith) q)))
    (λ m. rw m (year_same o es f.1 d h (omega arith) q))

latest_same : (o : Opening) (es : Book) → MonthsClosed o es
    → cond (eqb (latest_of o es) 0) None
    (Some (take (open_hours (date_of (latest_of o es))) (as_row (last_in o es (row_of (date_of (latest_of o es))))))) ≡ latest_hours es
unfolding MonthsClosed latest_of last_in latest_hours
latest_same o [] f = refl
latest_same o (e ∷ es) f =
    by_cases (became_past e)
    (λ m.
    let d : Date = month_of o es in
    let k : OpenLimits d = open_limits d (month_open o es f.1) in
    rw (
      m,
      ne_eqb (month_number d) 0 (λ z. omega arith),
      date_number d k.first k.last,
      eq-eqb (row_of d) (row_of d) refl,
      take_row e.out.hours (open_hours d) (f.0.long m),
    ))
    (λ m. rw m (latest_same o es f.1))

-- the row of a calendar month
pub month_contents : (o : Opening) (es : Book) (r : ℕ) → r < 12 → contents o es r ≡ last_in o es r
unfolding contents
month_contents o es r l = rw (ne_eqb r 12 (omega arith), ne_eqb r 13 (omega arith))

-- the past's hours by where its month is found
past_hours : (s : State)
    → past_in s
    ≡ cond (eqb (at s.point.past.years (row_of s.point.date)) (s.point.date.year - 1)) (Some (row_hours s (last_year s.point.date)))
    (cond (eqb s.point.past.latest 0) None (Some (row_hours s (date_of s.point.past.latest))))
unfolding past_in past_month
past_hours s =
    by_cases (eqb (at s.point.past.years (row_of s.point.date)) (s.point.date.year - 1)) (λ t. rw t)
    (λ f. rw f (by_cases (eqb s.point.past.latest 0) (λ t. rw t) (λ n. rw n)))

module _ (o : Opening) (es : Book) (store : List ℕ) (h : Shows o es (seen o es store)) where
  part : (r : ℕ) (d : Date) → r < 12 → row_part store r (open_hours d) ≡ take (open_hours d) (as_row (last_in o es r))
  part r d l = sym (take-take (open_hours d) 744 (drop (744 * r) store) (open_high d)) ∙ rw (h.rows.rows r (omega arith), month_contents o es r l)

  last_row : (n : ℕ) → row_of (date_of n) < 12
  unfolding date_of
  last_row n = omega arith

  last_number : (d : Date) → 0 < d.year → month_number d - 12 ≡ month_number (last_year d)
  unfolding month_number
  last_number d y = omega arith

  year_low : (d : Date) → OpenLimits d → 2014 ≤ d.year
  unfolding month_number
  year_low d k = omega (arith, k.from, k.last)

  past_same : past_in (seen o es store) ≡ past_of o es
  unfolding point_of past_of
  past_same =
      past_hours (seen o es store) ∙
      let d : Date = month_of o es in
      let k : OpenLimits d = open_limits d (month_open o es h.months) in
      let y = year_low d k in
      let n = last_number d (omega arith) in
      rw (
        at_tab 12 (year_in o es) (row_of d) (omega (arith, k.last)),
        part (row_of d) (last_year d) (omega (arith, k.last)),
        part (row_of (date_of (latest_of o es))) (date_of (latest_of o es)) (last_row (latest_of o es)),
        latest_same o es h.months,
        n,
      )
      (year_same o es h.months (last_year d) (record { first = k.first; last = k.last; year = omega arith }) (omega (arith, k.from)) (latest_hours es))

  -- THE INPUTS
  pub inputs_same : (marks : List ℕ) → inputs (seen o es store) marks ≡ inputs_of o es marks
  unfolding inputs inputs_of point_of kept contents
  inputs_same marks =
      let t : ℕ = open_hours (month_of o es) in
      rw (
        past_same,
        reading_same o.asked.billing t (billing_of es) h.billing (row_part store 12 t) (row_hours_lem h.rows 12 t (lit≤ tt) (open_high _)),
        reading_same o.asked.control t (this_months (of_kind control) es) h.control (row_part store 13 t)
            (row_hours_lem h.rows 13 t (lit≤ tt) (open_high _)),
        stated_same (source_of 1 es),
        stated_same (source_of 2 es),
      )
