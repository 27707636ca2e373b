-- A turn of the loop is one hour of both sharings, in a buffer that was cleared.
use Rattle.std.proofs.Common.{◌≡◌, ◌∙◌, length, arith, rules}
use Rattle.std.proofs.lemmas.Grind.{common_steps}
use Rattle.numbers.specs.Lists.{zeros}
use Rattle.numbers.proofs.Laws.{filled_none}
use Rattle.sharing.specs.Shares.{one, taken, chosen_at, other_at}
use Rattle.sharing.proofs.Rule.{even_is}
use Rattle.sharing.proofs.Turns.{Turned, even_starts, even_whole, others_count, turn_fits, turn_more, filled_apart, shared_apart}
use Rattle.sharing.proofs.fill.fill_apart.Goals as goal

pub start-first-requires : goal.start-first-requires
start-first-requires c =
    even_starts _ (chosen_at c.args.chosen.now) c.even_whole.ensures c.count-k.ensures.is c.count-k.ensures.most
    c.requires.some c.requires.hours (omega arith)

pub start-second-requires : goal.start-second-requires
start-second-requires c =
    even_starts _ (other_at c.args.chosen.now) c.even_whole-2.ensures (others_count _ (chosen_at c.args.chosen.now) c.count-k.ensures.is)
    (omega arith) c.requires.some c.requires.hours (omega arith)

pub share-requires : goal.share-requires
share-requires c =
    turn_fits c.loop-h.invariant.0 (even_is _ (chosen_at c.args.chosen.now) c.loop-h.h c.count-k.ensures.is c.even_weight.ensures)
    c.loop-h-test.true

pub share-requires-in-loop-h : goal.share-requires-in-loop-h
share-requires-in-loop-h c =
    turn_fits c.loop-h.invariant.1
    (even_is _ (other_at c.args.chosen.now) c.loop-h.h (others_count _ (chosen_at c.args.chosen.now) c.count-k.ensures.is)
    c.even_weight-in-loop-h.ensures)
    c.loop-h-test.true

pub loop-h-init : goal.loop-h-init
loop-h-init c =
    let e = even_whole _ (chosen_at c.args.chosen.now) c.even_whole.ensures c.count-k.ensures.is in
    let f = even_whole _ (other_at c.args.chosen.now) c.even_whole-2.ensures (others_count _ (chosen_at c.args.chosen.now) c.count-k.ensures.is) in (
      record { volume = c.start-first.ensures.volume; whole = c.start-first.ensures.whole ∙ e; passed = c.start-first.ensures.passed },
      record { volume = c.start-second.ensures.volume; whole = c.start-second.ensures.whole ∙ f; passed = c.start-second.ensures.passed },
      filled_none _ _,
    )

pub loop-h-preserved : goal.loop-h-preserved
loop-h-preserved c =
    let e : c.even_weight.result ≡ taken (length c.args.chosen.now) (chosen_at c.args.chosen.now) one c.loop-h.h =
    even_is _ (chosen_at c.args.chosen.now) c.loop-h.h c.count-k.ensures.is c.even_weight.ensures in
    let f : c.even_weight-in-loop-h.result ≡ taken (length c.args.chosen.now) (other_at c.args.chosen.now) one c.loop-h.h =
    even_is _ (other_at c.args.chosen.now) c.loop-h.h (others_count _ (chosen_at c.args.chosen.now) c.count-k.ensures.is)
    c.even_weight-in-loop-h.ensures in
    let t : Turned c.loop-h.first c.share.new.self c.even_weight.result c.share.result = search rules in
    let u : Turned c.loop-h.second c.share-in-loop-h.new.self c.even_weight-in-loop-h.result c.share-in-loop-h.result = search rules in (
      turn_more c.loop-h.invariant.0 e t,
      turn_more c.loop-h.invariant.1 f u,
      filled_apart _ _ _ _ c.loop-h.invariant.2 c.loop-h-test.true (omega arith) c.loop-h.invariant.0 e t c.loop-h.invariant.1 f u,
    )

pub returns : goal.returns
returns c =
    let e : c.fill.new.self ≡ zeros (length c.args.hours.now) = grind (arith, common_steps) in
    shared_apart _ _ _ _ _ c.loop-h.invariant.2 (omega arith) (omega arith) e
