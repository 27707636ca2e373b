-- What an accepted closing answers, and the store and the hour buffer that it leaves.
use Rattle.std.specs.Prelude.{ℕ, ◌≡◌, List}
use Rattle.store.specs.Store.{as_row}
use Rattle.rules.specs.Rules.{rules, figures}
use Rattle.model.specs.declared.Answer.{Answer}
use Rattle.model.specs.Model.{State, inputs, closed_with}

pub record ClosesWith (s : State) (marks : List ℕ) (a : Answer) (store buffer : List ℕ) : Type 0 where
  pub answered : a
      ≡ record { refusal = 0; after = (closed_with (rules (inputs s marks)) s).point; figures = figures (rules (inputs s marks)) marks }
  pub left : store ≡ (closed_with (rules (inputs s marks)) s).store
  pub buffered : buffer ≡ as_row (rules (inputs s marks)).hours
