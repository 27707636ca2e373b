-- What holds of parts of a list that are filled. Assumes nothing.
use mathlib.Core.Path.{◌≡◌}
use mathlib.Core.Bool.{true, ◌&&◌}
use mathlib.Core.List.{List, ◌++◌}
use Prim.Native.Nat.{ℕ, ◌-◌, ◌≤◌}
use native.Mathlib.Omega.{arith}
use borrow.Author.Tests.{leb-true}
use lib.Dec.{leb}
use lib.ListN.{length, take, drop, length-take, length-drop}
use Rattle.numbers.specs.Lists.{Filled}
use Rattle.numbers.proofs.Laws.{both, filled_whole}
use Rattle.line_reader.specs.Buffers.{part}

-- the places of a part of a list of n words
pub record PartWithin (a b n : ℕ) : Type 0 where
  pub order : a ≤ b
  pub there : b ≤ n

pub part_within : (a b n : ℕ) → leb a b && leb b n ≡ true → PartWithin a b n
part_within a b n e = let p = both (leb a b) (leb b n) e in record { order = leb-true _ _ p.0; there = leb-true _ _ p.1 }

-- a part that is filled whole and put back is the list with that part made a table
pub part_made : {f : ℕ → ℕ} (a b : ℕ) (l filled : List ℕ) → leb a b && leb b (length l) ≡ true
    → Filled f (take (b - a) (drop a l)) filled (length (take (b - a) (drop a l)))
    → take a l ++ (filled ++ drop (b - a) (drop a l)) ≡ part a b f l
unfolding part
part_made {f} a b l filled e made =
    let w = part_within a b (length l) e in
    let n : length (take (b - a) (drop a l)) ≡ b - a = simp (length-take, length-drop) (omega arith) in
    rw (e, filled_whole (b - a) n (rw n at made))
