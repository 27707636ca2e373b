-- A turn of the loop is one hour of the sharing, in a buffer that was cleared.
use Rattle.std.proofs.Common.{◌≡◌, length, arith, rules}
use Rattle.std.proofs.lemmas.Grind.{common_steps}
use Rattle.numbers.specs.Lists.{zeros}
use Rattle.sharing.specs.Shares.{stretched}
use Rattle.sharing.proofs.Turns.{Turned, start_fits, turn_fits, turn_more, filled_share, shared}
use Rattle.sharing.proofs.fill.fill.Goals as goal

pub start-sharing-requires : goal.start-sharing-requires
start-sharing-requires c = search (start_fits, rules)

pub share-requires : goal.share-requires
share-requires c = turn_fits c.loop-h.invariant.0 c.at.ensures c.loop-h-test.true

pub loop-h-preserved : goal.loop-h-preserved
loop-h-preserved c =
    let t : Turned c.loop-h.sharing c.share.new.self c.at.result c.share.result = search rules in (
      turn_more c.loop-h.invariant.0 c.at.ensures t,
      filled_share c.loop-h.invariant.0 c.at.ensures t c.loop-h-test.true (omega arith) c.loop-h.invariant.1,
    )

pub returns : goal.returns
unfolding stretched
returns c =
    let e : c.fill.new.self ≡ zeros (length c.args.hours.now) = grind (arith, common_steps) in
    shared _ _ _ _ _ c.loop-h.invariant.1 (omega arith) (omega arith) e
