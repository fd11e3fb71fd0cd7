use Rattle.std.proofs.Common.{◌≡◌, []}
use Rattle.std.specs.Prelude.{slice_index_or}
use Rattle.dsa_emission.specs.Emission.{batched_count, place_of, group_entry, joined}
use Rattle.dsa_emission.proofs.emission.portal_bytes.Given as goal

-- the entries of the groups so far, and the place of the next
abbrev pub invariant-loop-group : goal.invariant-loop-group
invariant-loop-group g l = record {
  placed : l.place ≡ place_of l.groups l.group-index;
  so_far : l.portal.items ≡ joined (λ number. group_entry g.E.Entry.spelling l.settings (batched_count l.groups) (place_of l.groups number) (slice_index_or l.groups number []) l.pieces) l.group-index;
}
