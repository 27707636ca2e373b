-- The words before k are what they have to be.
use Rattle.std.proofs.Common.{◌≡◌, ℕ}
use Rattle.numbers.specs.Lists.{Filled}
use Rattle.line_reader.proofs.buffers.write_each.Given as goal

abbrev pub invariant-loop-k : goal.invariant-loop-k
invariant-loop-k g l = (f : ℕ → ℕ) → ((k v : ℕ) → goal.F-post g l.value k v → v ≡ f k) → Filled f l.fn.words l.words l.k
