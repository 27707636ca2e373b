-- The first days of months follow one another by the lengths of the months. Assumes nothing.
use Prim.Native.Nat.{ℕ, zero, suc, ◌+◌, ◌-◌, ◌*◌, ◌/◌, ◌%◌, ◌≤◌}
use mathlib.Core.Bool.{true, cond, ◌&&◌}
use mathlib.Core.Path.{◌≡◌, refl, ◌∙◌}
use native.Mathlib.Omega.{arith}
use borrow.Author.Tests.{eqb-true, eqb-false}
use lib.Dec.{eqb, lit≤}
use lib.ListN.{get_or}
use Rattle.numbers.proofs.Laws.{by_cases, and_false}
use Rattle.calendar.specs.declared.Date.{Date}
use Rattle.calendar.specs.Calendar.{leap_year, month_table, is_month, is_open, month_days, next_month}
use Rattle.calendar.proofs.Laws.{limits, open_next}
use Rattle.line_calls.specs.Week.{shifts, march_year, first_weekday}

-- so many days later in the week, but for whole weeks
later : (s a b n k : ℕ) → a + n ≡ b + k * 7 → (s + b) % 7 ≡ ((s + a) % 7 + n) % 7
later s a b n k e = omega arith

-- by how many days the years up to one move the first of a month, but for whole weeks
abbrev moved : ℕ → ℕ
moved y = y + y / 4 - y / 100 + y / 400

fewer : (y : ℕ) → y / 100 ≤ y
fewer y = omega arith

one_more : (y : ℕ) → 1 ≤ y → y ≡ y - 1 + 1
one_more y l = omega arith

summed : (x q c f a b d k : ℕ) → c ≤ x → b ≤ 1 → 1 + a + d ≡ b + k → x + 1 + (q + a) - (c + b) + (f + d) ≡ x + q - c + f + k
summed x q c f a b d k l m e = omega arith

-- a year more, with what it adds to the fourth, hundredth and four hundredth parts
moved_on : (x y a b d k : ℕ) → y ≡ x + 1 → y / 4 ≡ x / 4 + a → y / 100 ≡ x / 100 + b → y / 400 ≡ x / 400 + d → b ≤ 1
    → 1 + a + d ≡ b + k → moved y ≡ moved x + k
moved_on x y a b d k n p q r m e = rw (p, q, r, n) (summed x (x / 4) (x / 100) (x / 400) a b d k (fewer x) m e)

adds_4 : (y : ℕ) → 1 ≤ y → y % 4 ≡ 0 → y / 4 ≡ (y - 1) / 4 + 1
adds_4 y l e = omega arith

stays_4 : (y : ℕ) → (y % 4 ≡ 0 → ⊥) → y / 4 ≡ (y - 1) / 4 + 0
stays_4 y e = omega arith

adds_100 : (y : ℕ) → 1 ≤ y → y % 100 ≡ 0 → y / 100 ≡ (y - 1) / 100 + 1
adds_100 y l e = omega arith

stays_100 : (y : ℕ) → (y % 100 ≡ 0 → ⊥) → y / 100 ≡ (y - 1) / 100 + 0
stays_100 y e = omega arith

adds_400 : (y : ℕ) → 1 ≤ y → y % 400 ≡ 0 → y / 400 ≡ (y - 1) / 400 + 1
adds_400 y l e = omega arith

stays_400 : (y : ℕ) → (y % 400 ≡ 0 → ⊥) → y / 400 ≡ (y - 1) / 400 + 0
stays_400 y e = omega arith

-- a year moves it by one day, a leap year by two
year_on : (y : ℕ) → 1 ≤ y → moved y ≡ moved (y - 1) + cond (leap_year y) 2 1
unfolding leap_year
year_on y l =
    let n : y ≡ y - 1 + 1 = omega arith in
    by_cases (eqb (y % 4) 0)
    (λ a.
    let p = adds_4 y l (eqb-true (y % 4) 0 a) in
    by_cases (eqb (y % 100) 0)
    (λ b.
    let q = adds_100 y l (eqb-true (y % 100) 0 b) in
    by_cases (eqb (y % 400) 0)
    (λ c. rw (a, b, c) (moved_on (y - 1) y 1 1 1 2 n p q (adds_400 y l (eqb-true (y % 400) 0 c)) (lit≤ tt) refl))
    (λ c. rw (a, b, c) (moved_on (y - 1) y 1 1 0 1 n p q (stays_400 y (eqb-false (y % 400) 0 c)) (lit≤ tt) refl)))
    (λ b.
    rw (a, b) (moved_on (y - 1) y 1 0 0 2 n p (stays_100 y (eqb-false (y % 100) 0 b)) (stays_400 y (λ e. eqb-false (y % 100) 0 b (omega arith)))
    (lit≤ tt) refl)))
    (λ a.
    let f = eqb-false (y % 4) 0 a in
    rw a (moved_on (y - 1) y 0 0 0 1 n (stays_4 y f) (stays_100 y (λ e. f (omega arith))) (stays_400 y (λ e. f (omega arith))) (lit≤ tt) refl))

-- what the first day and the length of a month are where it can be open
abbrev first : Date → ℕ
first d = (moved (march_year d) + get_or shifts (d.month - 1) 0) % 7

abbrev days : Date → ℕ
days d = cond (leap_year d.year && eqb d.month 2) 29 (get_or month_table (d.month - 1) 0)

abbrev on : ℕ → ℕ → Date
on y m = record { year = y; month = m }

february_by : (s k n : ℕ) → n ≡ k + 27 → (s + k + 2) % 7 ≡ ((s + 3) % 7 + n) % 7
february_by s k n e = omega arith

february : (y : ℕ) → 1 ≤ y → (moved y + 2) % 7 ≡ ((moved (y - 1) + 3) % 7 + cond (leap_year y && true) 29 28) % 7
february y l =
    by_cases (leap_year y)
    (λ t. rw (year_on y l) (rw t (february_by (moved (y - 1)) 2 29 refl)))
    (λ f. rw (year_on y l) (rw f (february_by (moved (y - 1)) 1 28 refl)))

less_none : (y : ℕ) → y - 0 ≡ y
less_none y = omega arith

back : (y : ℕ) → y + 1 - 1 ≡ y
back y = omega arith

-- months from 0
month_on : (y m : ℕ) → 1 ≤ y → m ≤ 11 → first (next_month (on y (suc m))) ≡ (first (on y (suc m)) + days (on y (suc m))) % 7
unfolding next_month
month_on y zero l h = rw (and_false (leap_year y)) (later (moved (y - 1)) 0 3 31 4 refl)
month_on y (suc zero) l h = rw (less_none y) (february y l)
month_on y (suc (suc zero)) l h = rw (and_false (leap_year y), less_none y) (later (moved y) 2 5 31 4 refl)
month_on y (suc (suc (suc zero))) l h = rw (and_false (leap_year y), less_none y) (later (moved y) 5 0 30 5 refl)
month_on y (suc (suc (suc (suc zero)))) l h = rw (and_false (leap_year y), less_none y) (later (moved y) 0 3 31 4 refl)
month_on y (suc (suc (suc (suc (suc zero))))) l h = rw (and_false (leap_year y), less_none y) (later (moved y) 3 5 30 4 refl)
month_on y (suc (suc (suc (suc (suc (suc zero)))))) l h = rw (and_false (leap_year y), less_none y) (later (moved y) 5 1 31 5 refl)
month_on y (suc (suc (suc (suc (suc (suc (suc zero))))))) l h = rw (and_false (leap_year y), less_none y) (later (moved y) 1 4 31 4 refl)
month_on y (suc (suc (suc (suc (suc (suc (suc (suc zero)))))))) l h = rw (and_false (leap_year y), less_none y) (later (moved y) 4 6 30 4 refl)
month_on y (suc (suc (suc (suc (suc (suc (suc (suc (suc zero))))))))) l h = rw (and_false (leap_year y), less_none y) (later (moved y) 6 2 31 5 refl)
month_on y (suc (suc (suc (suc (suc (suc (suc (suc (suc (suc zero)))))))))) l h = rw (and_false (leap_year y), less_none y) (later (moved y) 2 4 30 4 refl)
month_on y (suc (suc (suc (suc (suc (suc (suc (suc (suc (suc (suc zero))))))))))) l h =
    rw (and_false (leap_year y), less_none y, back y) (later (moved y) 4 0 31 5 refl)
month_on y (suc (suc (suc (suc (suc (suc (suc (suc (suc (suc (suc (suc m)))))))))))) l h = absurd (omega arith)

open_first : (d : Date) → is_open d ≡ true → first_weekday d ≡ first d
unfolding first_weekday
open_first d h = rw h

month_length : (d : Date) → is_month d ≡ true → month_days d ≡ days d
unfolding month_days
month_length d h = rw h

-- a month that is calculated can be open
is_open_lem : (d : Date) → is_month d ≡ true → is_open d ≡ true
is_open_lem d h = rw h

shown : (y m : ℕ) → 1 ≤ m → m ≤ 12 → 1 ≤ y → first (next_month (on y m)) ≡ (first (on y m) + days (on y m)) % 7
shown y zero k l h = absurd (omega arith)
shown y (suc m) k l h = month_on y m h (omega arith)

-- THE NEXT MONTH STARTS as many days later in the week as the month has days
pub follows : (d : Date) → is_month d ≡ true → first_weekday (next_month d) ≡ (first_weekday d + month_days d) % 7
follows d h =
    let l = limits d h in
    open_first (next_month d) (open_next d h)
    ∙ shown d.year d.month l.first l.last (omega (arith, l.from))
    ∙ rw (open_first d (is_open_lem d h), month_length d h)
