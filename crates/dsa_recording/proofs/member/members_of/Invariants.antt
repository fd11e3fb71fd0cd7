use Rattle.std.proofs.Common.{◌≡◌, List, ℕ, ◌<◌, length, get_or, []}
use Rattle.dsa_audit.specs.declared.member.Member.{Member}
use Rattle.dsa_audit.specs.declared.member.Member.TheVariants.{Unknown}
use Rattle.dsa_audit.specs.declared.member.Unseen.TheVariants.{Operation}
use Rattle.dsa_recording.specs.declared.member.Aspect.{Aspect}
use Rattle.dsa_recording.specs.declared.member.Aspect.TheVariants as aspects
use Rattle.dsa_recording.specs.Entries.{IsMember}
use Rattle.dsa_recording.proofs.member.members_of.Given as goal

-- these are the members of so many entries
abbrev SoFar : Aspect → List ℕ → List (List ℕ) → ℕ → List Member → Type 0
SoFar aspect head es count ms =
    (length ms ≡ count) × ((k : ℕ) → k < count → IsMember aspect head (get_or es k []) (get_or ms k (Unknown Operation)))

-- the members so far are those of the entries so far, in each respect
abbrev pub invariant-loop-entry : goal.invariant-loop-entry
invariant-loop-entry l = record {
  whole : SoFar aspects.Whole l.head l.entries l.entry-index l.whole.items;
  operands : SoFar aspects.Data l.head l.entries l.entry-index l.operands.items;
  records : SoFar aspects.Record l.head l.entries l.entry-index l.records.items;
  statuses : SoFar aspects.Status l.head l.entries l.entry-index l.statuses.items;
}
