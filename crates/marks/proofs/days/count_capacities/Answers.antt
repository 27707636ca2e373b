-- The sum over the marks is the sum over the hours.
use Rattle.std.proofs.Common.{◌≡◌, ◌∙◌, cond, rules}
use Rattle.std.specs.List.{count_by}
use Rattle.numbers.proofs.Items.{sum_by_to}
use Rattle.marks.specs.Marks.{is_capacity}
use Rattle.marks.proofs.days.count_capacities.Goals as goal

pub returns : goal.returns
returns c =
    let e : c.sum.result ≡ count_by is_capacity c.args.marks.now = search rules in
    e ∙ sum_by_to (λ m. cond (is_capacity m) 1 0) 0 c.args.marks.now
