-- The months of a book's entries: they only grow, so the last fault is the nearest one. Assumes nothing.
use Prim.Native.Nat.{ℕ, ◌+◌, ◌≤◌, ◌<◌}
use mathlib.Core.Path.{◌≡◌, refl, sym}
use mathlib.Core.Bool.{true, false, not, ◌&&◌}
use mathlib.Core.List.{[], ◌∷◌}
use native.Mathlib.Omega.{arith}
use borrow.Author.Tests.{lt-leb, leb-false, ne_eqb}
use lib.Dec.{eqb, leb}
use Rattle.numbers.proofs.Laws.{by_cases, and_false}
use Rattle.calendar.specs.Calendar.{is_open, month_number}
use Rattle.calendar.proofs.Laws.{open_next, open_limits, number_next}
use Rattle.rules.specs.Calls.{Opening}
use Rattle.history.specs.Book.{Entry, Book, closed, of_kind, is_faulty, month_of, fault_since}
use Rattle.history.proofs.View.{fault_of, Entered, MonthsClosed}

-- the month of each entry can be open
pub month_open : (o : Opening) (es : Book) → MonthsClosed o es → is_open (month_of o es) ≡ true
unfolding MonthsClosed month_of
month_open o [] f = rw f
month_open o (e ∷ es) f =
    by_cases (of_kind closed e)
    (λ t. rw t (open_next (month_of o es) (f.0.month t)))
    (λ n. rw n (month_open o es f.1))

-- months only grow
pub grows : (o : Opening) (e : Entry) (es : Book) → Entered o e es → month_number (month_of o es) ≤ month_number (month_of o (e ∷ es))
unfolding month_of
grows o e es f =
    by_cases (of_kind closed e)
    (λ t. rw t (omega (arith, number_next (month_of o es) (f.month t))))
    (λ n. rw n (omega arith))

-- more than 12 months after the entries there is no fault at most 12 months back
none_since : (o : Opening) (n : ℕ) (es : Book) → MonthsClosed o es → month_number (month_of o es) + 12 < n → fault_since o n es ≡ false
unfolding fault_since MonthsClosed
none_since o n [] f h = refl
none_since o n (e ∷ es) f h =
    let g = grows o e es f.0 in
    rw (lt-leb n (month_number (month_of o es) + 12) (omega arith), none_since o n es f.1 (omega arith), and_false (is_faulty e))

-- the last fault is at most 12 months back where some fault is
pub last_is_any : (o : Opening) (n : ℕ) (es : Book) → MonthsClosed o es → not (eqb (fault_of o es) 0) && leb n (fault_of o es + 12) ≡ fault_since o n es
unfolding fault_since fault_of MonthsClosed
last_is_any o n [] f = refl
last_is_any o n (e ∷ es) f =
    by_cases (is_faulty e)
    (λ t. rw t
    (by_cases (leb n (month_number (month_of o es) + 12))
    (λ l. rw (l, ne_eqb (month_number (month_of o es)) 0 (λ q. let h = open_limits (month_of o es) (month_open o es f.1) in omega arith)))
    (λ l. rw (l, and_false) (sym (none_since o n es f.1 (leb-false n (month_number (month_of o es) + 12) l))))))
    (λ g. rw g (last_is_any o n es f.1))
