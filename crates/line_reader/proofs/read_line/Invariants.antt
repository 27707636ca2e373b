-- Some tokens more give the line as it is read from its start.
use Rattle.std.proofs.Common.{◌≡◌, ℕ}
use Rattle.line_reader.specs.Lines.{line_read, read_tokens, read_line}
use Rattle.line_reader.proofs.Ends.{left_of}
use Rattle.line_reader.proofs.read_line.Given as goal

abbrev pub invariant-loop-s : goal.invariant-loop-s
invariant-loop-s l =
    (n : ℕ) × (read_tokens n l.hours l.first l.line (line_read l.s l.numbers l.group) ≡ read_line l.hours l.first l.line l.fn.numbers l.fn.group)

abbrev pub decreases-loop-s : goal.decreases-loop-s
decreases-loop-s l = left_of l.line l.s
