-- The flag says whether the years of the first k rows fit.
use Rattle.std.proofs.Common.{◌≡◌}
use Rattle.numbers.specs.Lists.{all_to}
use Rattle.validity.specs.Valid.{year_fits}
use Rattle.validity.proofs.years_fit.Given as goal

abbrev pub invariant-loop-k : goal.invariant-loop-k
invariant-loop-k l = l.ok ≡ all_to (year_fits l.years l.d) l.k
