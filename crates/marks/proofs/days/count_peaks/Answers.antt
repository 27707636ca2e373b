-- The sum over the marks is the sum over the hours.
use Rattle.std.proofs.Common.{◌≡◌, ◌∙◌, cond, arith, rules}
use Rattle.std.specs.List.{count_by}
use Rattle.std.proofs.lemmas.List.Sums.{count_by-le-length}
use Rattle.numbers.proofs.Items.{sum_by_to}
use Rattle.marks.specs.Marks.{is_peak}
use Rattle.marks.proofs.days.count_peaks.Goals as goal

pub returns : goal.returns
returns c =
    let e : c.sum.result ≡ count_by is_peak c.args.marks.now = search rules in
    record {
      is = e ∙ sum_by_to (λ m. cond (is_peak m) 1 0) 0 c.args.marks.now;
      most = omega (arith, e, count_by-le-length is_peak c.args.marks.now);
    }
