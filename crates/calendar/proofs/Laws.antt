-- What holds of months, their lengths and their numbers. Assumes nothing.
use Prim.Native.Nat.{ℕ, zero, suc, ◌+◌, ◌-◌, ◌*◌, ◌/◌, ◌%◌, ◌≤◌, ◌<◌}
use mathlib.Core.Bool.{Bool, true, false, cond, ◌&&◌}
use mathlib.Core.List.{List, [], ◌∷◌}
use mathlib.Core.Path.{◌≡◌, refl, sym, ap, ◌∙◌}
use native.Mathlib.Omega.{arith}
use borrow.Author.Tests.{leb-true, leb-false, eqb-true, eqb-false, le-leb, eq-eqb, ne_eqb}
use lib.Dec.{leb, eqb, lit≤}
use lib.ListN.{length, get_or}
use Rattle.numbers.proofs.Laws.{by_cases, both, first_of, and_false}
use Rattle.calendar.specs.declared.Date.{Date}
use Rattle.calendar.specs.Calendar.{month_table, leap_year, is_month, month_days, february_days, month_days_by_cases, SameLengths}
use Rattle.calendar.specs.Calendar.{month_hours, is_end, is_open, open_hours, month_number, date_of, date_in, next_month, next_in}

-- the limits that is_month tests
pub record Limits (d : Date) : Type 0 where
  pub first : 1 ≤ d.month
  pub last : d.month ≤ 12
  pub from : 2014 ≤ d.year
  pub to : d.year ≤ 2999

pub limits : (d : Date) → is_month d ≡ true → Limits d
unfolding is_month
limits d h =
    let p = both _ (leb d.year 2999) h in
    let q = both _ (leb 2014 d.year) p.0 in
    let r = both (leb 1 d.month) (leb d.month 12) q.0 in
    record {
      first = leb-true 1 d.month r.0;
      last = leb-true d.month 12 r.1;
      from = leb-true 2014 d.year q.1;
      to = leb-true d.year 2999 p.1;
    }

-- a length that a month can have
abbrev Length : ℕ → Type 0
Length x = (28 ≤ x) × (x ≤ 31)

abbrev lengths : List ℕ → Bool
lengths [] = true
lengths (x ∷ xs) = leb 28 x && leb x 31 && lengths xs

entry : (xs : List ℕ) (i : ℕ) → lengths xs ≡ true → i < length xs → Length (get_or xs i 0)
entry [] i h l = omega arith
entry (x ∷ xs) zero h l =
    let p = both (leb 28 x) (leb x 31) (both _ (lengths xs) h).0 in
    (leb-true 28 x p.0, leb-true x 31 p.1)
entry (x ∷ xs) (suc i) h l = entry xs i (both (leb 28 x && leb x 31) (lengths xs) h).1 (omega arith)

either : (b : Bool) (x y : ℕ) → Length x → Length y → Length (cond b x y)
either true x y p q = p
either false x y p q = q

days : (d : Date) → is_month d ≡ true → Length (month_days d)
unfolding month_days
days d h =
    let l = limits d h in
    rw h (either (leap_year d.year && eqb d.month 2) 29 _ (lit≤ tt, lit≤ tt) (entry month_table (d.month - 1) refl (omega arith)))

-- February has the same days by the cases of the Gregorian rule and by the condition for leap years
pub same_february : (y : ℕ) → february_days y ≡ cond (leap_year y) 29 28
unfolding february_days leap_year
same_february y =
    by_cases (eqb (y % 400) 0)
    (λ a.
    let e = eqb-true (y % 400) 0 a in
    rw (a, eq-eqb (y % 100) 0 (omega arith), eq-eqb (y % 4) 0 (omega arith)))
    (λ a.
    by_cases (eqb (y % 100) 0)
    (λ b. let e = eqb-true (y % 100) 0 b in rw (a, b, eq-eqb (y % 4) 0 (omega arith)))
    (λ b. by_cases (eqb (y % 4) 0) (λ c. rw (a, b, c)) (λ c. rw (a, b, c))))

-- EVERY DATE HAS THE SAME LENGTH by both, 0 outside the limits included
pub same_length : SameLengths
unfolding month_days_by_cases month_days
same_length d =
    by_cases (eqb d.month 2)
    (λ t.
    rw (t, eqb-true d.month 2 t, same_february d.year)
    (by_cases (leap_year d.year) (λ l. rw l) (λ f. rw f)))
    (λ f. rw (f, and_false (leap_year d.year)))

-- a month outside has no days
pub outside : (d : Date) → is_month d ≡ false → month_days d ≡ 0
unfolding month_days
outside d h = rw h

-- so a year after the last, or a month after December, gives no days
pub after_last : (d : Date) → 2999 < d.year → month_days d ≡ 0
after_last d l = by_cases (is_month d) (λ t. absurd (omega (arith, limits d t))) (outside d)

pub after_december : (d : Date) → 12 < d.month → month_days d ≡ 0
after_december d l = by_cases (is_month d) (λ t. absurd (omega (arith, limits d t))) (outside d)

-- a month has at least 28 days
pub days_low : (d : Date) → is_month d ≡ true → 28 ≤ month_days d
days_low d h = (days d h).0

-- no month has more than 31 days
pub days_high : (d : Date) → month_days d ≤ 31
days_high d = by_cases (is_month d) (λ t. (days d t).1) (λ f. omega (arith, outside d f))

-- T is 24 times the days
pub hours_days : (d : Date) → month_hours d ≡ 24 * month_days d
unfolding month_hours
hours_days d = refl

-- T is at least 672
pub hours_low : (d : Date) → is_month d ≡ true → 672 ≤ month_hours d
hours_low d h = omega (arith, hours_days d, days_low d h)

-- T is at most 744
pub hours_high : (d : Date) → month_hours d ≤ 744
hours_high d = omega (arith, hours_days d, days_high d)

-- T of a month that is calculated, in days
pub month_hours_lem : (d : Date) → is_month d ≡ true → open_hours d ≡ 24 * month_days d
unfolding open_hours month_hours
month_hours_lem d m =
    let l = limits d m in
    rw (ne_eqb d.year 3000 (λ e. omega arith))

-- T of an open month is at least 672
pub open_low : (d : Date) → is_open d ≡ true → 672 ≤ open_hours d
unfolding open_hours
open_low d h =
    by_cases (is_end d) (λ t. rw t (lit≤ tt)) (λ f. rw f (hours_low d (first_of (is_month d) (is_end d) h f)))

-- T is at most 744, whatever the date
pub open_high : (d : Date) → open_hours d ≤ 744
unfolding open_hours
open_high d = by_cases (is_end d) (λ t. rw t (lit≤ tt)) (λ f. rw f (hours_high d))

-- the number of a month that is calculated
pub number_limits : (d : Date) → is_month d ≡ true → (24169 ≤ month_number d) × (month_number d ≤ 36000)
unfolding month_number
number_limits d m = let l = limits d m in (omega arith, omega arith)

-- the month after has the next number
pub number_next : (d : Date) → is_month d ≡ true → month_number (next_month d) ≡ month_number d + 1
unfolding month_number next_month
number_next d h =
    by_cases (eqb d.month 12) (λ t. rw t (omega (arith, eqb-true d.month 12 t))) (λ f. rw f (omega arith))

-- the month after can be open
pub open_next : (d : Date) → is_month d ≡ true → is_open (next_month d) ≡ true
unfolding is_month next_month
open_next d h =
    let l = limits d h in
    by_cases (eqb d.month 12)
    (λ t.
    by_cases (leb (d.year + 1) 2999)
    (λ u. simp (t, le-leb 2014 (d.year + 1) (omega arith), u))
    (λ g. simp (t, le-leb 2014 (d.year + 1) (omega arith), g, eq-eqb (d.year + 1) 3000 (omega (arith, leb-false (d.year + 1) 2999 g)))))
    (λ f.
    simp (
      f,
      le-leb 1 (d.month + 1) (omega arith),
      le-leb (d.month + 1) 12 (omega (arith, eqb-false d.month 12 f)),
      le-leb 2014 d.year l.from,
      le-leb d.year 2999 l.to,
    ))

-- the number of a month gives the month
pub date_number : (d : Date) → 1 ≤ d.month → d.month ≤ 12 → date_of (month_number d) ≡ d
unfolding date_of month_number
date_number d l m =
    let y : (d.year * 12 + d.month - 1) / 12 ≡ d.year = omega arith in
    let n : (d.year * 12 + d.month - 1) % 12 + 1 ≡ d.month = omega arith in
    λ i. record { year = y i; month = n i }

-- the month of a number has that number
pub number_date : (n : ℕ) → 0 < n → month_number (date_of n) ≡ n
unfolding date_of month_number
number_date n l = omega arith

-- the number of a month determines its year and month
pub same_date : (d e : Date)
    → 1 ≤ d.month
    → d.month ≤ 12
    → 1 ≤ e.month
    → e.month ≤ 12
    → month_number d ≡ month_number e
    → d ≡ e
same_date d e a b k l h = sym (date_number d a b) ∙ ap date_of h ∙ date_number e k l

-- the limits of a month that can be open, and of its number
pub record OpenLimits (d : Date) : Type 0 where
  pub first : 1 ≤ d.month
  pub last : d.month ≤ 12
  pub from : 24169 ≤ month_number d
  pub to : month_number d ≤ 36001

pub open_limits : (d : Date) → is_open d ≡ true → OpenLimits d
unfolding month_number
open_limits d h =
    by_cases (is_end d)
    (λ t.
    let y = eqb-true d.year 3000 (both (eqb d.year 3000) (eqb d.month 1) t).0 in
    let m = eqb-true d.month 1 (both (eqb d.year 3000) (eqb d.month 1) t).1 in
    record { first = omega arith; last = omega arith; from = omega arith; to = omega arith })
    (λ f.
    let l = limits d (first_of (is_month d) (is_end d) h f) in
    record { first = l.first; last = l.last; from = omega arith; to = omega arith })

-- what the functions answer inside the limits
pub date_in_lem : (d : Date) → is_open d ≡ true → date_in (month_number d) ≡ d
unfolding date_in
date_in_lem d h =
    let l = open_limits d h in
    simp (le-leb 24169 (month_number d) l.from, le-leb (month_number d) 36001 l.to) (date_number d l.first l.last)

pub next_in_lem : (d : Date) → is_month d ≡ true → next_in d ≡ next_month d
unfolding next_in
next_in_lem d h = rw h
