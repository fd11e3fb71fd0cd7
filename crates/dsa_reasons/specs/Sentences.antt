-- The sentence of a fence, or of a group's beginning (this project's choice).
use Rattle.std.specs.Prelude.{ℕ, ◌-◌, ◌==◌, ◌&&◌, nat_le, nat_lt, Bool, true, false, List, [], ◌∷◌, ◌++◌, codes, decimal, slice_get, Option, Some, None, if◌then◌else◌}
use Rattle.dsa_descriptor.specs.declared.span.Span.{Span}
use Rattle.dsa_ranges.specs.declared.hazards.HazardKind.{HazardKind}
use Rattle.dsa_ranges.specs.declared.hazards.HazardKind.TheVariants.{ReadAfterWrite, WriteAfterRead, WriteAfterWrite}
use Rattle.dsa_lines.specs.Numbers.{hex}
use Rattle.dsa_reasons.specs.declared.fences.Fence.{Fence}
use Rattle.dsa_reasons.specs.declared.reason.Reason.{Reason}
use Rattle.dsa_reasons.specs.declared.sentences.NamedConflict.{NamedConflict}

-- the name of a hazard
abbrev pub kind_words : HazardKind → List ℕ
kind_words ReadAfterWrite = codes "read after write"
kind_words WriteAfterRead = codes "write after read"
kind_words WriteAfterWrite = codes "write after write"

-- the two pieces of a conflict, its kind and an address of it
abbrev pub conflict_words : Reason → List ℕ
conflict_words r =
    decimal r.later ++ (codes " after " ++ (decimal r.earlier ++ (codes ", " ++ (kind_words r.hazard.kind ++ (codes " at " ++ hex r.hazard.address)))))

-- the address lies in the first of the spans
abbrev pub is_in_first : List Span → ℕ → Bool
is_in_first [] address = false
is_in_first (s ∷ spans) address = nat_le s.first address && nat_lt (address - s.first) s.len

-- the address is one of the piece's completion record, the first span that it writes
abbrev pub is_in_record : {P : Type 0} → (P → List Span) → Option P → ℕ → Bool
is_in_record writes None address = false
is_in_record writes (Some p) address = is_in_first (writes p) address

-- the piece of a conflict whose completion record has the address, if one has; the earlier one if both have
abbrev pub record_of : {P : Type 0} → (P → List Span) → List P → Reason → Option ℕ
record_of writes pieces r =
    if is_in_record writes (slice_get pieces r.earlier) r.hazard.address
    then Some r.earlier
    else (if is_in_record writes (slice_get pieces r.later) r.hazard.address then Some r.later else None)

-- a conflict of these pieces, with the piece whose record has its address
abbrev pub named : {P : Type 0} → (P → List Span) → List P → Reason → NamedConflict
named writes pieces r = record { reason = r; record_of = record_of writes pieces r }

-- the same of a conflict that may be missing
abbrev pub named_option : {P : Type 0} → (P → List Span) → List P → Option Reason → Option NamedConflict
named_option writes pieces None = None
named_option writes pieces (Some r) = Some (named writes pieces r)

-- the first of these conflicts, if there is one
abbrev pub first_conflict : {P : Type 0} → (P → List Span) → List P → List Reason → Option NamedConflict
first_conflict writes pieces reasons = named_option writes pieces (slice_get reasons 0)

-- that the address lies in a completion record
abbrev pub record_words : Option ℕ → List ℕ
record_words None = []
record_words (Some piece) = codes " (record of " ++ (decimal piece ++ codes ")")

-- a conflict, with the piece whose record has its address
abbrev pub named_words : NamedConflict → List ℕ
named_words c = conflict_words c.reason ++ record_words c.record_of

-- a conflict of these pieces that a fence separates
abbrev pub reason_words : {P : Type 0} → (P → List Span) → List P → Reason → List ℕ
reason_words writes pieces r = named_words (named writes pieces r)

-- what needs a fence: a barrier, a conflict, or both
abbrev pub need_words : Bool → Option NamedConflict → List ℕ
need_words false None = codes "no conflict needs it alone"
need_words false (Some c) = named_words c
need_words true None = codes "a barrier"
need_words true (Some c) = codes "a barrier, and " ++ named_words c

-- how many more conflicts only this fence separates, if there are any
abbrev pub more_words : ℕ → List ℕ
more_words more = if more == 0 then [] else codes ", and " ++ (decimal more ++ codes " more")

-- the sentence: a barrier that needs the fence, a conflict that only this fence separates, and how many more there are
abbrev pub sentence_words : Bool → Option NamedConflict → ℕ → List ℕ
sentence_words barrier conflict more = need_words barrier conflict ++ more_words more

-- that of a fence: the first of the conflicts that it names, and how many more there are that it does not name
abbrev pub fence_words : {P : Type 0} → (P → List Span) → List P → Fence → List ℕ
fence_words writes pieces fence = sentence_words fence.barrier (first_conflict writes pieces fence.named.items) fence.more
