use Rattle.dsa_prepared.proofs.ByRegions.{conflicts_stay, places_stay}
use Rattle.dsa_prepared.proofs.keeping.conflicts_stay.Goals as goal

pub returns : goal.returns
returns c = record { two = conflicts_stay; places = places_stay }
