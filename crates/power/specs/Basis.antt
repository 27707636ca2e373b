-- The bases of a power and their numbers.
use Rattle.std.specs.Prelude.{◌≡◌, ◌≢◌, ℕ, Result, MatchResult}
use Rattle.power.specs.declared.basis.Basis.{Basis}
use Rattle.power.specs.declared.basis.Basis.TheVariants.{Agreed, Shared, Formula}
use Rattle.power.specs.declared.basis.UnknownBasis.{UnknownBasis}

-- the number by which the host gives a basis
abbrev pub number_of : Basis → ℕ
number_of Agreed = 1
number_of Shared = 2
number_of Formula = 3

-- the result is the basis with this number, or an error with a number that no basis has
abbrev pub Decodes : ℕ → Result Basis UnknownBasis → Type 0
Decodes number r =
    MatchResult r (λ basis. number_of basis ≡ number) (λ e. (e.0 ≡ number) × (number ≢ 1) × (number ≢ 2) × (number ≢ 3))
