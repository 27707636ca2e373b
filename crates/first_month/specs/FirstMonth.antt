-- What is promised of a point that is opened and whose first month is then closed.
use Rattle.std.specs.Prelude.{ℕ, ◌≡◌, true, false, List, take}
use Rattle.numbers.specs.Lists.{sum}
use Rattle.calendar.specs.Calendar.{open_hours}
use Rattle.rules.specs.Calls.{Opening, closing}
use Rattle.model.specs.declared.Answer.{Answer}
use Rattle.model.specs.Model.{Does}
use Rattle.model.specs.Opening.{opens, opened, Opens}

-- with the store `before`, the marks and the hour buffer handed in; it answers a and leaves the store and the hours so
pub record FirstMonth (o : Opening) (before marks buffer : List ℕ) (a : Answer) (store hours : List ℕ) : Type 0 where
  -- an opening that is refused is all that happens
  pub refused : opens o before ≡ false → Opens o before a store
  pub untouched : opens o before ≡ false → hours ≡ buffer
  -- else the month is closed, on what the opening left
  pub closed : opens o before ≡ true → Does (opened o) (closing marks buffer) a store hours
  -- and demand 3 says: the total is the sum of the hours handed out
  pub total : opens o before ≡ true → a.refusal ≡ 0 → a.after.total.0 ≡ sum (take (open_hours o.date) hours)
