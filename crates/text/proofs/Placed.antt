-- A text that is copied behind what is written. Assumes nothing.
use mathlib.Core.Path.{◌≡◌, ap, sym, ◌∙◌}
use mathlib.Core.List.{List, ◌++◌}
use Prim.Native.Nat.{ℕ, ◌+◌, ◌-◌, ◌≤◌}
use native.Mathlib.Omega.{arith}
use borrow.Author.Tests.{le-leb}
use lib.ListN.{length, take, length-take}
use lib.Seq.{take-append-add, take-append_seam}
use Rattle.text.specs.Text.{with_text}

-- with a text that has room copied behind the first n bytes, the bytes up to its end are those n with the text put
pub put_made : (room : ℕ) (text all rest : List ℕ) (n : ℕ) → length all ≡ room → n ≤ room → length text ≤ room - n
    → take (n + length text) (take n all ++ (text ++ rest)) ≡ with_text room text (take n all)
put_made room text all rest n e l fits =
    let long : length (take n all) ≡ n = simp length-take (omega (arith, e)) in
    rw (le-leb (length (take n all) + length text) room (omega (arith, long, l, fits)))
    (ap (λ k. take (k + length text) (take n all ++ (text ++ rest))) (sym long)
    ∙ take-append-add (take n all) (text ++ rest) (length text)
    ∙ rw (take-append_seam text rest))
