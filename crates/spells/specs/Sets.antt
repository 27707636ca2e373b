-- The days of a month that lie in a spell, or have denials 2 at their end, as sets (document 02, E6). Days count from 1 here: day x is bit x - 1
-- of a set.
use Rattle.std.specs.Prelude.{ℕ, zero, suc, ◌+◌, ◌-◌, ◌^◌, ◌≡◌, Bool, cond, ◌&&◌, eqb, leb, ltb}
use lib.Bits.{bit_or}
use Rattle.parts.specs.Sets.{in_set, days_between}

-- whether day x, from 1 on, is in the set
abbrev pub on_day : ℕ → ℕ → Bool
on_day days x = in_set days (x - 1)

-- the days from p on, or from 1 on where p is 0, and before e; none where e is past the 32 days that a word has
unfoldable pub days_from : ℕ → ℕ → ℕ
days_from p e = cond (leb (e - 1) 32) (days_between (p - 1) (e - 1)) 0

-- WHAT THE RECORD KEEPS. With an event on day e, the last one before it on day p (0 for none), the days from p on and before e get the status
-- that the point had before the event
unfoldable pub marked : ℕ → ℕ → ℕ → Bool → ℕ
marked days p e status = cond status (bit_or days (days_from p e)) days

-- at a closing the days from p on up to the month's last one get the status that it has then
unfoldable pub completed : ℕ → ℕ → ℕ → Bool → ℕ
completed days p last status = marked days p (last + 1) status

-- NUMBER 2. Whether the set has only days before day p: none where p is 0 or 1
unfoldable pub only_before : ℕ → ℕ → Bool
only_before days p = ltb days (2 ^ (p - 1))

-- whether every day of the second set is one of the first
unfoldable pub is_within : ℕ → ℕ → Bool
is_within first second = eqb (bit_or first second) first

-- WHAT THE BOOK SEES. The set of those of the first n days that the test of a day holds of
unfoldable pub days_with : (ℕ → Bool) → ℕ → ℕ
days_with test zero = 0
days_with test (suc n) = bit_or (days_with test n) (cond (test (suc n)) (2 ^ n) 0)

-- WHERE BOTH ARE THE SAME. The days of the set are just the days before day p that the test holds of
abbrev pub Shows : ℕ → ℕ → (ℕ → Bool) → Type 0
Shows days p test = (k : ℕ) → in_set days k ≡ ltb (suc k) p && test (suc k)
