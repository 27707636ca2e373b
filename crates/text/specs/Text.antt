-- Text that is written behind other text, in a fixed room.
use Rattle.std.specs.Prelude.{ℕ, ◌+◌, ◌≤◌, ◌≡◌, Bool, cond, Option, IfSome, List, ◌++◌, leb, length, take}
use Rattle.std.specs.Fmt.{WritesText}
use Rattle.io.specs.Digits.{last_digits, IsDigitCount}

-- there is room for a text behind what is written
abbrev pub has_room : ℕ → List ℕ → List ℕ → Bool
has_room room text written = leb (length written + length text) room

-- what is written WHEN A TEXT WAS PUT: the text is the last of it where there is room for it; else nothing changed
abbrev pub with_text : ℕ → List ℕ → List ℕ → List ℕ
with_text room text written = cond (has_room room text written) (written ++ text) written

-- the same of the rest of a room: how many bytes it has, and those of it that are written
abbrev pub rest_with : List ℕ → ℕ × List ℕ → ℕ × List ℕ
rest_with text rest = (rest.0, with_text rest.0 text rest.1)

-- these two of a rest of which the first len bytes are written
abbrev pub rest_of : List ℕ → ℕ → ℕ × List ℕ
rest_of bytes len = (length bytes, take len bytes)

-- THE TEXT IN shown WAS PUT IN PIECES, each as a text of its own; nothing is said where it has none
abbrev pub PutInPieces : ℕ → Option (List ℕ) → List ℕ → List ℕ → Type 0
PutInPieces room shown before after = WritesText (λ written piece next. next ≡ with_text room piece written) before shown after

-- the text in shown, where there is room for all of it, is the last of what is written; nothing is said where it has none
abbrev pub PutWhole : ℕ → Option (List ℕ) → List ℕ → List ℕ → Type 0
PutWhole room shown before after = IfSome shown (λ text. length before + length text ≤ room → after ≡ before ++ text)

-- A NUMBER WAS PUT: its digits in base ten, as few as it has
pub record Numbered (room n : ℕ) (before after : List ℕ) : Type 0 where
  pub count : ℕ
  pub fewest : IsDigitCount 10 1 n count
  pub put : after ≡ with_text room (last_digits 10 count n) before
