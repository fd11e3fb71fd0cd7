use Rattle.dsa_emission.proofs.AtPlaces.{emission_at_places}
use Rattle.dsa_emission.proofs.laws.emission_at_places.Goals as goal

pub returns : goal.returns
returns c = emission_at_places
