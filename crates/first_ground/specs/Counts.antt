-- The inputs of the rules that the code holds.
use Rattle.rules.specs.Rules.{Inputs}
use Rattle.first_ground.specs.declared.counts.Counts.{Counts}
use Rattle.first_ground.specs.Metered.{counting}

abbrev pub inputs_of : Counts → Inputs
inputs_of c = counting c.contract c.marks c.counted c.billing c.control c.neighbour c.past
