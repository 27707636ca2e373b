-- Text at a place of a buffer.
use Rattle.std.specs.Prelude.{ℕ, ◌+◌, ◌-◌, ◌≡◌, Bool, cond, ◌&&◌, List, ◌++◌, leb, length, take, drop}
use Rattle.io.specs.Digits.{last_digits, IsDigitCount}

-- there is room for a text at a place of a buffer
abbrev pub has_room_at : List ℕ → ℕ → List ℕ → Bool
has_room_at text place buffer = leb place (length buffer) && leb (length text) (length buffer - place)

-- A TEXT WAS PUT at a place: where there is room, the buffer has it there and is as it was elsewhere, and r is the place behind it; else nothing changed
pub record Put (text : List ℕ) (place : ℕ) (before after : List ℕ) (r : ℕ) : Type 0 where
  pub is : after ≡ cond (has_room_at text place before) (take place before ++ (text ++ drop (length text) (drop place before))) before
  pub next : r ≡ cond (has_room_at text place before) (place + length text) place

-- A NUMBER WAS PUT at a place: its digits in base ten, as few as it has
pub record NumberedAt (n place : ℕ) (before after : List ℕ) (r : ℕ) : Type 0 where
  pub count : ℕ
  pub fewest : IsDigitCount 10 1 n count
  pub put : Put (last_digits 10 count n) place before after r
