-- A text that is put into a part of a buffer. Assumes nothing.
use mathlib.Core.Path.{◌≡◌, ◌∙◌}
use mathlib.Core.Bool.{cond}
use mathlib.Core.List.{List, ◌++◌, append-nil}
use Prim.Native.Nat.{ℕ, ◌+◌, ◌-◌, ◌≤◌}
use native.Mathlib.Nat.{add-sub_cancel_left}
use native.Mathlib.Omega.{arith}
use borrow.Author.Tests.{le-leb}
use lib.ListN.{length, take, drop, length-take, length-drop}
use lib.Seq.{take_all}
use Rattle.numbers.proofs.Laws.{drop_past}
use Rattle.text.specs.Places.{has_room_at}

-- the part of the text's length, with the text copied over it, put back
pub put_at_made : (text : List ℕ) (place : ℕ) (l copied : List ℕ) → place ≤ length l → length text ≤ length l - place
    → copied ≡ take (length text) text ++ drop (length text) (take (place + length text - place) (drop place l))
    → take place l ++ (copied ++ drop (place + length text - place) (drop place l))
    ≡ cond (has_room_at text place l) (take place l ++ (text ++ drop (length text) (drop place l))) l
put_at_made text place l copied h k e =
    let n : length (take (place + length text - place) (drop place l)) ≤ length text = simp (length-take, length-drop) (omega arith) in
    let whole : copied ≡ text = e ∙ rw (take_all (length text) text (omega arith), drop_past _ (length text) n, append-nil) in
    rw (le-leb place (length l) h, le-leb (length text) (length l - place) k, whole, add-sub_cancel_left place (length text))
