-- The sum over the flags is the sum over the hours.
use Rattle.std.proofs.Common.{◌≡◌, ◌∙◌, cond, false, arith, rules}
use Rattle.std.specs.List.{count_by}
use Rattle.std.proofs.lemmas.List.Sums.{count_by-le-length}
use Rattle.numbers.proofs.Items.{sum_by_to}
use Rattle.sharing.proofs.weights.count.Goals as goal

pub returns : goal.returns
returns c =
    let e : c.sum-count.result ≡ count_by (λ b. b) c.args.chosen.now = search rules in
    record {
      is = c.from.ensures ∙ e ∙ sum_by_to (λ b. cond b 1 0) false c.args.chosen.now;
      most = omega (arith, e, count_by-le-length (λ b. b) c.args.chosen.now);
    }
