-- What the value displays stands in the room, since the rest that comes back is the one that was lent.
use Rattle.std.proofs.Common.{rules}
use Rattle.std.proofs.lemmas.Result.{on_ok_weaker}
use Rattle.text.specs.declared.Rest.{Rest}
use Rattle.text.specs.Text.{rest_of}
use Rattle.text.proofs.Pieces.{rest_printed, same_taken}
use Rattle.text.proofs.print_into.Goals as goal

pub returns-clause-pieces : goal.returns-clause-pieces
returns-clause-pieces g c = on_ok_weaker c.write-shown.result
    (λ p. rest_printed _ (λ (r : Rest). rest_of r.bytes.now r.len) (λ (r : Rest). r.bytes.ghost_name) (λ _ _ _ t. t) _ _ _ _ p
    (λ same. same_taken (search rules) (search rules) c.write-shown.new.self.fits c.min.ensures))
    c.write-shown.ensures.writes
