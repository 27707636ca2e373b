-- The flag says whether the currents so far pass.
use Rattle.std.proofs.Common.{◌≡◌, ◌&&◌, leb, take}
use Rattle.std.specs.List.{list_all}
use Rattle.power.proofs.currents_fit.Given as goal

abbrev pub invariant-loop-x : goal.invariant-loop-x
invariant-loop-x l = l.ok ≡ list_all (λ x. leb 1 x && leb x 2000) (take l.x-index l.currents)
