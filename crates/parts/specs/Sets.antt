-- Sets of the days of a month, and the hours of these days. Days and hours count from 0 here: bit k of a set is day k + 1.
use Rattle.std.specs.Prelude.{ℕ, ◌-◌, ◌/◌, ◌^◌, Bool, not, ◌&&◌, eqb, leb, ltb}
use Rattle.std.specs.Int.{bit_at}
use Rattle.numbers.specs.Lists.{count_to}

-- whether the day at k is in the set
unfoldable pub in_set : ℕ → ℕ → Bool
in_set days k = eqb (bit_at days k) 1

-- the set of the days from a on and before b, which is empty where a is not before b
unfoldable pub days_between : ℕ → ℕ → ℕ
days_between a b = 2 ^ b - 2 ^ a

-- whether the day at k is one of these
abbrev pub lies_between : ℕ → ℕ → ℕ → Bool
lies_between a b k = leb a k && ltb k b

-- how many of the first n days are in the set
unfoldable pub day_count : ℕ → ℕ → ℕ
day_count days n = count_to (in_set days) n

-- whether hour h lies inside, which is on a day of the set, or outside
unfoldable pub lies_inside : ℕ → ℕ → Bool
lies_inside days h = in_set days (h / 24)

abbrev pub lies_outside : ℕ → ℕ → Bool
lies_outside days h = not (lies_inside days h)

-- how many hours before hour h lie inside: the place of hour h among them, where it is one
unfoldable pub rank : ℕ → ℕ → ℕ
rank days h = count_to (lies_inside days) h
