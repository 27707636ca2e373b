-- What the proof of the code that writes a token's numbers looks into. Assumes nothing.
use Rattle.line_reader.specs.Buffers.{listed, written_numbers, grouped, written_group}

unfoldable pub written_definitions : Unit {0}
unfolding written_numbers written_group listed grouped
written_definitions = tt
