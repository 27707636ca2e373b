-- The flag says whether the items so far pass.
use Rattle.std.proofs.Common.{◌≡◌, take}
use Rattle.std.specs.List.{list_all}
use Rattle.std.specs.Ordering.{partial_le}
use Rattle.numbers.proofs.none_above.Given as goal

abbrev pub invariant-loop-item : goal.invariant-loop-item
invariant-loop-item g l = l.ok ≡ list_all (λ x. partial_le g.T.PartialOrd.partial_cmp x l.limit) (take l.item-index l.items)
