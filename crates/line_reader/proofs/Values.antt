-- The values of arguments by number. Assumes nothing.
use mathlib.Core.Path.{◌≡◌}
use Prim.Native.Nat.{ℕ, ◌≤◌, ◌<◌}
use native.Mathlib.Omega.{arith}
use borrow.Author.Tests.{lt-ltb, le-ltb}
use Rattle.std.specs.Prelude.{None}
use Rattle.line_reader.specs.declared.names.Argument.{Argument}
use Rattle.line_reader.specs.declared.names.Argument.TheVariants as key
use Rattle.line_reader.specs.declared.Line.{Line}
use Rattle.line_reader.specs.Codes.{index_of}
use Rattle.line_reader.specs.Modes.{value_in, value_by}

-- an argument's number is its place among the values
index_below : (a : Argument) → index_of a < 15
unfolding index_of
index_below key.Year = omega arith
index_below _ = omega arith

pub value_by_index : (a : Argument) (s : Line) → value_by (index_of a) s ≡ value_in a s
unfolding value_by value_in
value_by_index a s = rw (lt-ltb (index_of a) 15 (index_below a))

-- and no argument has a number from 15 on
pub value_by_none : (n : ℕ) (s : Line) → 15 ≤ n → value_by n s ≡ None
unfolding value_by
value_by_none n s l = rw (le-ltb n 15 l)
