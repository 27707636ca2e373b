-- What a token adds to the list of a line.
use Rattle.std.specs.Prelude.{ℕ, ◌+◌, ◌-◌, ◌/◌, ◌%◌, Bool, true, false, cond, Option, Some, None, ◌&&◌, List, ◌++◌, eqb, leb, length, take, drop}
use Rattle.numbers.specs.Lists.{tab, at}
use Rattle.line_reader.specs.declared.Numbers.{Numbers}
use Rattle.line_reader.specs.declared.Action.{Action}
use Rattle.line_reader.specs.declared.Action.TheVariants.{Number, InGroup, Group, Week}

-- the words from one place to another made f's values, where there are such places
unfoldable pub part : ℕ → ℕ → (ℕ → ℕ) → List ℕ → List ℕ
part from to f l =
    cond (leb from to && leb to (length l)) (take from l ++ (tab (to - from) f ++ drop (to - from) (drop from l))) l

-- whether day k of a month is a Saturday or Sunday, where its first day is day `first` of the week, Monday 0
abbrev pub rest_day : ℕ → ℕ → Bool
rest_day first k = leb 5 ((first % 7 + k % 7) % 7)

-- WHERE NUMBER k COMES FROM: of a week hour k of the month from the hour of its day, the second day's on a rest day; else the numbers
-- between parentheses round and round
unfoldable pub place_for : Bool → ℕ → ℕ → ℕ → ℕ
place_for week inner first k =
    cond week (cond (rest_day first (k / 24)) (24 + k % 24) (k % 24)) (cond (eqb inner 0) 0 (k % inner))

-- what an action makes of the list
unfoldable pub listed : Option Action → ℕ → Numbers → Numbers → List ℕ → List ℕ → List ℕ
listed (Some (Number v)) first before after numbers group = part before.count after.count (λ k. v) numbers
listed (Some (InGroup v)) first before after numbers group = numbers
listed (Some Group) first before after numbers group =
    part before.count after.count (λ k. at group (place_for false before.inner first k)) numbers
listed (Some Week) first before after numbers group = part before.count after.count (λ k. at group (place_for true before.inner first k)) numbers
listed None first before after numbers group = numbers

unfoldable pub written_numbers : ℕ → Numbers → Numbers → List ℕ → List ℕ → List ℕ
written_numbers first before after numbers group = listed after.action first before after numbers group

-- and of the numbers between parentheses
unfoldable pub grouped : Option Action → Numbers → Numbers → List ℕ → List ℕ
grouped (Some (InGroup v)) before after group = part before.inner after.inner (λ k. v) group
grouped _ before after group = group

unfoldable pub written_group : Numbers → Numbers → List ℕ → List ℕ
written_group before after group = grouped after.action before after group
