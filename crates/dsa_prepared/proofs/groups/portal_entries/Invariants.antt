use Rattle.std.proofs.Common.{◌≡◌, [], take}
use Rattle.std.specs.Prelude.{slice_index_or}
use Rattle.dsa_settings.specs.Plan.{start_of}
use Rattle.dsa_emission.specs.Emission.{batch_count, batched_count, place_of}
use Rattle.dsa_prepared.specs.Templates.{gathered, group_entries}
use Rattle.dsa_prepared.proofs.groups.portal_entries.Given as goal

-- the entries of the groups so far, and what comes before the next
abbrev pub invariant-loop-group : goal.invariant-loop-group
invariant-loop-group l = record {
  starts : l.start ≡ start_of l.groups l.group-index;
  batches_are : l.batches ≡ batch_count (take l.group-index l.groups);
  batched_are : l.batched ≡ batched_count (take l.group-index l.groups);
  so_far : l.entries.items ≡ gathered (λ number. group_entries l.regions (batched_count l.groups) (place_of l.groups number) (slice_index_or l.groups number []) l.pieces) l.group-index;
}
