-- What the clause of a sentence says of one line, by computation. Assumes nothing.
use mathlib.Core.Path.{◌≡◌}
use mathlib.Core.List.{List, [], ◌++◌}
use Prim.Native.Nat.{ℕ}
use native.Mathlib.Omega.{arith}
use Rattle.std.specs.Prelude.{Some, codes, decimal}
use Rattle.std.specs.Fmt.{digits}
use Rattle.text.specs.Text.{PutWhole}

-- the denial of line 7, accepted, into a buffer of which nothing is written
denial_accepted : (after : List ℕ)
    → PutWhole 65536 (Some (codes "line " ++ (decimal 7 ++ (codes ": " ++ (codes "denial" ++ codes ": accepted\n"))))) [] after
    → after ≡ codes "line 7: denial: accepted\n"
unfolding digits
denial_accepted after written = written (omega arith)
