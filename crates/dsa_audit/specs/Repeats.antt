-- Members that repeat an earlier one, so that it does not matter which of the two comes first (all of this file is this
-- project's choice).
use Rattle.std.specs.Prelude.{ℕ, ◌≡◌, ◌<◌, IsTrue, Bool, false, List, length, Option, Some, None, slice_get}
use Rattle.dsa_descriptor.specs.Spans.{InSome}
use Rattle.dsa_ranges.specs.declared.span.Touched.{Touched}
use Rattle.dsa_conflicts.specs.Access.{IsGreatest}
use Rattle.dsa_audit.specs.declared.member.Member.{Member}
use Rattle.dsa_audit.specs.declared.member.Member.TheVariants.{Known}
use Rattle.dsa_audit.specs.declared.repeats.Action.{Action}
use Rattle.dsa_audit.specs.Members.{KnownConflict}

-- there is a member, and its operation is one of the six of a descriptor
abbrev pub may_repeat_at : Option Action → Bool
may_repeat_at None = false
may_repeat_at (Some action) = action.may_repeat

-- the members at these two places do the same: they say the same of one of the six operations of a descriptor, and neither
-- reads what the other writes. Each leaves what the other leaves
pub record IsRepeated (actions : List Action) (ms : List Member) (i j : ℕ) : Type 0 where
  pub first : Touched
  pub second : Touched
  pub there : slice_get ms i ≡ Some (Known first)
  pub here : slice_get ms j ≡ Some (Known second)
  pub action : slice_get actions i ≡ slice_get actions j
  pub may_repeat : IsTrue (may_repeat_at (slice_get actions i))
  pub reads : first.reads.items ≡ second.reads.items
  pub writes : first.writes.items ≡ second.writes.items
  pub apart : (address : ℕ) → InSome first.reads.items address → ¬ InSome second.writes.items address

-- they are known to conflict, and it matters which comes first
abbrev pub OrderMatters : List Action → List Member → ℕ → ℕ → Type 0
OrderMatters actions ms i j = KnownConflict ms i j × (¬ IsRepeated actions ms i j)

-- the last member before k that is known to conflict with it
abbrev pub IsLastKnown : List Member → ℕ → Option ℕ → Type 0
IsLastKnown ms k last = IsGreatest (λ a. (a < k) × KnownConflict ms a k) last

-- member k repeats the last one that it is known to conflict with; or it does not
abbrev pub RepeatsLast : List Action → List Member → ℕ → Option ℕ → Type 0
RepeatsLast actions ms k (Some i) = IsLastKnown ms k (Some i) × IsRepeated actions ms i k
RepeatsLast actions ms k None = (i : ℕ) → IsLastKnown ms k (Some i) → ¬ IsRepeated actions ms i k

-- this is so of each member
pub record AreRepeats (actions : List Action) (ms : List Member) (repeated : List (Option ℕ)) : Type 0 where
  pub count : length repeated ≡ length ms
  pub each : (k : ℕ) (last : Option ℕ) → slice_get repeated k ≡ Some last → RepeatsLast actions ms k last
