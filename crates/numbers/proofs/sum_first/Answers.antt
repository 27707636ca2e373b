-- The sum over the first words is the sum over their indexes, and 744 words of 32 bits fit 64.
use Rattle.std.proofs.Common.{◌∙◌, rules, tests, arith}
use Rattle.std.proofs.lemmas.Iterator.{YieldsList-from_slice, YieldsList-from_take, YieldsList-from_map}
use Rattle.std.proofs.lemmas.Iterator.Consumers.{YieldsList-at, sum_by_from_yields_List, fits_by_from_yields_list}
use Rattle.numbers.specs.Lists.{at}
use Rattle.numbers.proofs.Items.{sum_first_words}
use Rattle.numbers.proofs.Laws.{sum_most}
use Rattle.numbers.proofs.sum_first.Goals as goal

pub sum-requires-clause-fits : goal.sum-requires-clause-fits
sum-requires-clause-fits c =
    fits_by_from_yields_list _ _ c.map.result _
    (YieldsList-from_map _ (λ x. x)
    (YieldsList-at c.map.ensures.source (YieldsList-from_take c.args.n (YieldsList-from_slice c.args.words.now cc) cc))
    c.map.ensures.closure (λ x r q k. search (rules, tests)))
    (rw sum_first_words
    (omega (arith, sum_most (at c.args.words.now) 4294967295 c.args.n (λ h l. omega (arith, c.type_inv.words h)), c.requires)))

pub returns : goal.returns
returns c =
    sum_by_from_yields_List _ _ c.map.result _ c.sum.ensures.ran
    (YieldsList-from_map _ (λ x. x)
    (YieldsList-at c.map.ensures.source (YieldsList-from_take c.args.n (YieldsList-from_slice c.args.words.now cc) cc))
    c.map.ensures.closure (λ x r q k. search (rules, tests)))
    ∙ sum_first_words c.args.words.now c.args.n
