-- Every law, from where it is proved.
use Rattle.ground_laws.specs.GroundLaws.{GroundLaws}
use Rattle.ground_laws.proofs.Counts.{months, neighbour}
use Rattle.ground_laws.proofs.Which.{which}
use Rattle.ground_laws.proofs.Grounds.{lawful}
use Rattle.ground_laws.proofs.Complete.{complete}
use Rattle.ground_laws.proofs.Figured.{figured}
use Rattle.ground_laws.proofs.Powers.{one_power}
use Rattle.ground_laws.proofs.each_ground.Goals as goal

laws : GroundLaws
laws = record { one_power = one_power; months = months; neighbour = neighbour; chosen = which; lawful = lawful; complete = complete; figured = figured }

pub returns : goal.returns
returns c = laws
