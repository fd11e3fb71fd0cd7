use Rattle.std.proofs.Common.{◌≡◌, []}
use Rattle.std.specs.Prelude.{slice_index_or}
use Rattle.dsa_emission.specs.Emission.{place_of, group_staged, joined}
use Rattle.dsa_emission.proofs.emission.staging_bytes.Given as goal

-- what the groups so far have in the staging area, and the place of the next
abbrev pub invariant-loop-group : goal.invariant-loop-group
invariant-loop-group g l = record {
  placed : l.place ≡ place_of l.groups l.group-index;
  so_far : l.staging.items ≡ joined (λ number. group_staged g.E.Entry.spelling (place_of l.groups number) (slice_index_or l.groups number []) l.pieces) l.group-index;
}
