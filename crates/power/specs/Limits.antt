-- What the tests of Power establish, as the functions and the laws use it.
use Rattle.std.specs.Prelude.{ℕ, ◌≤◌, ◌<◌, ◌≡◌, ◌⊎◌, List, length}
use Rattle.numbers.specs.Lists.{at}
use Rattle.power.specs.declared.Cable.{Cable}

-- the limits that cable_fits tests
pub record CableLimits (k : Cable) : Type 0 where
  pub amperes_low : 1 ≤ k.amperes
  pub amperes : k.amperes ≤ 2000
  pub volts_low : 1 ≤ k.volts
  pub volts : k.volts ≤ 250000
  pub cosine : k.cosine ≤ 1000
  pub phases : (k.phases ≡ 1) ⊎ (k.phases ≡ 3)

-- those that agreed_fits tests
pub record AgreedLimits (p : ℕ) : Type 0 where
  pub low : 1 ≤ p
  pub high : p ≤ 1000000

-- and those that list_fits tests; past the end a current is 0
pub record ListLimits (currents : List ℕ) (place : ℕ) : Type 0 where
  pub some : 1 ≤ length currents
  pub few : length currents ≤ 64
  pub inside : place < length currents
  pub low : (k : ℕ) → k < length currents → 1 ≤ at currents k
  pub high : (k : ℕ) → at currents k ≤ 2000
