-- R and N. Assumes nothing.
use mathlib.Core.Path.{◌≡◌}
use mathlib.Core.Logic.{◌≢◌}
use Prim.Native.Nat.{ℕ, ◌+◌, max}
use native.Mathlib.Omega.{arith}
use borrow.Author.Tests.{ne_eqb, ltb-true, ltb-false}
use lib.Dec.{ltb}
use Rattle.numbers.proofs.Laws.{by_cases}
use Rattle.rules.specs.Rules.{Stated, counted_of, neighbour_of}
use Rattle.ground_laws.specs.GroundLaws.{MonthsCounted, NeighbourVolume}

few_denials : (run denials : ℕ) → denials ≢ 2 → counted_of run denials ≡ run + 1
unfolding counted_of
few_denials run denials n = rw (ne_eqb denials 2 n)

two_denials : (run denials : ℕ) → denials ≡ 2 → counted_of run denials ≡ max (run + 1) 3
unfolding counted_of
two_denials run denials e =
    rw e
    (by_cases (ltb (run + 1) 3)
    (λ t. rw t (omega (arith, ltb-true (run + 1) 3 t)))
    (λ f. rw f (omega (arith, ltb-false (run + 1) 3 f))))

pub months : (run denials : ℕ) → MonthsCounted run denials (counted_of run denials)
months run denials = record { few = few_denials run denials; two = two_denials run denials }

pub neighbour : (first second : Stated) → NeighbourVolume first second (neighbour_of first second)
unfolding neighbour_of
neighbour first second = record {
  first_given = λ v e. rw e;
  second_given = λ v e f. rw (e, f);
  none = λ e f. rw (e, f);
}
