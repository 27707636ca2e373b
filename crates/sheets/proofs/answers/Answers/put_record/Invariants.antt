-- How answers are written stays as it is.
use Rattle.std.proofs.Common.{◌≡◌}
use Rattle.sheets.proofs.answers.Answers.put_record.Given as goal

abbrev pub invariant-loop-n : goal.invariant-loop-n
invariant-loop-n g l = l.self.layout ≡ l.fn.self.layout
