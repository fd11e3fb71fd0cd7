use Rattle.std.proofs.Common.{◌≡◌, []}
use Rattle.std.specs.Prelude.{slice_index_or}
use Rattle.dsa_settings.specs.Plan.{start_of}
use Rattle.dsa_emission.specs.Emission.{place_of}
use Rattle.dsa_prepared.specs.Templates.{gathered, group_staged}
use Rattle.dsa_prepared.proofs.groups.staging_entries.Given as goal

-- what the groups so far have in the staging area, and where the next begins
abbrev pub invariant-loop-group : goal.invariant-loop-group
invariant-loop-group l = record {
  starts : l.start ≡ start_of l.groups l.group-index;
  so_far : l.entries.items ≡ gathered (λ number. group_staged l.regions (place_of l.groups number) (slice_index_or l.groups number []) l.pieces) l.group-index;
}
