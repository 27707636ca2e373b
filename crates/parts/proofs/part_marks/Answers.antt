-- The buffer was cleared, so that 0 stands behind the part.
use Rattle.std.proofs.Common.{◌≡◌, length, arith}
use Rattle.std.proofs.lemmas.Grind.{common_steps}
use Rattle.numbers.specs.Lists.{zeros}
use Rattle.parts.proofs.Loops.{cleared_front}
use Rattle.parts.proofs.part_marks.Goals as goal

pub returns-clause-entries : goal.returns-clause-entries
returns-clause-entries c =
    let e : c.fill.new.self ≡ zeros (length c.args.part.now) = grind (arith, common_steps) in
    cleared_front c.args.days c.args.marks.now c.args.part.now e c.fill_front.ensures.front
