-- What comes before a group, as dsa_emission's place. Private clauses alone cite this.
use Rattle.dsa_emission.specs.declared.place.Place.{Place}
use Rattle.dsa_tracker.specs.declared.groups.Before.{Before}

-- the place
abbrev pub place_by : Before → Place
place_by before = record { start = before.start; batches = before.batches; batched = before.batched }
