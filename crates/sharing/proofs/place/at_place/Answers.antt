-- The weights before the place and its own fit, and the hour that takes its own gets the share of the place.
use Rattle.std.proofs.Common.{arith, ◌∙◌}
use Rattle.sharing.proofs.Placing.{part_fits, place_gets}
use Rattle.sharing.proofs.place.at_place.Goals as goal

pub share-requires : goal.share-requires
share-requires c =
    let fits = part_fits c.requires (record { is = c.taken_first-before.ensures }) (record { is = c.taken_first-whole.ensures })
    (omega (arith, c.requires.inside)) in
    omega (arith, fits, c.start-sharing.ensures.passed, c.start-sharing.ensures.whole)

pub share-requires-2 : goal.share-requires-2
share-requires-2 c =
    let fits = part_fits c.requires (record { is = c.taken_first-before.ensures }) (record { is = c.taken_first-whole.ensures })
    (omega (arith, c.requires.inside)) in
    let after_fits = part_fits c.requires (record { is = c.taken_first.ensures }) (record { is = c.taken_first-whole.ensures })
    (omega (arith, c.requires.inside)) in
    omega (arith, fits, after_fits, c.start-sharing.ensures.passed, c.start-sharing.ensures.whole, c.share.ensures.passed, c.share.ensures.whole)

pub returns : goal.returns
returns c =
    place_gets c.requires (record { is = c.taken_first-before.ensures }) (record { is = c.taken_first.ensures })
    (record { is = c.taken_first-whole.ensures })
    c.share.new.self
    (c.share.ensures.volume ∙ c.start-sharing.ensures.volume) (c.share.ensures.whole ∙ c.start-sharing.ensures.whole)
    (omega (arith, c.share.ensures.passed, c.start-sharing.ensures.passed)) (c.from.ensures ∙ c.share-2.ensures.gets)
