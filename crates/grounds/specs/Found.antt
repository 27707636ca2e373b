-- What a function that finds hours says of its answer and of the hour buffer.
use Rattle.std.specs.Prelude.{ℕ, ◌≡◌, List}
use Rattle.store.specs.Store.{as_row}
use Rattle.rules.specs.Grounds.{ground_number}
use Rattle.rules.specs.Rules.{Outcome}
use Rattle.grounds.specs.declared.Found.{Found}

-- ground g, month volume v and the hours hs, with 0 from their end on
pub record HoursFound (g v : ℕ) (hs : List ℕ) (f : Found) (buffer : List ℕ) : Type 0 where
  pub ground : ground_number f.ground ≡ g
  pub volume : f.volume.0 ≡ v
  pub hours : buffer ≡ as_row hs

-- the same of an outcome of the rules
abbrev pub OutcomeFound : Outcome → Found → List ℕ → Type 0
OutcomeFound u f buffer = HoursFound u.ground u.volume u.hours f buffer
