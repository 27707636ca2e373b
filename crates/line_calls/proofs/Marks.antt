-- The marks that a closing is handed are those of the list. Assumes nothing.
use mathlib.Core.Path.{◌≡◌}
use mathlib.Core.List.{List}
use Prim.Native.Nat.{ℕ}
use lib.ListN.{length, take}
use lib.Seq.{take_at}
use Rattle.numbers.proofs.Laws.{length_tab}
use Rattle.line_calls.specs.Calls.{Copied, mark_at, marks_in}

pub marks_made : (list before after : List ℕ) (n : ℕ) → Copied list before after n → take n after ≡ marks_in (length before) list
unfolding marks_in
marks_made list before after n copied = rw (copied.filled.is, take_at _ _ n (length_tab n (mark_at list)), ← copied.size)
