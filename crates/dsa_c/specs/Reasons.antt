-- Why a plan has its fences and its groups, as C lays it out (this project's choice).
use Rattle.std.specs.Prelude.{ℕ, ◌≡◌, ◌+◌, ◌%◌, ◌==◌, not, Bool, List, [], ◌∷◌, slice_index_or, Option, Some, None, if◌then◌else◌}
use Rattle.dsa_operations.specs.declared.operation.Operation.{Operation}
use Rattle.dsa_ranges.specs.declared.hazards.HazardKind.{HazardKind}
use Rattle.dsa_ranges.specs.declared.hazards.HazardKind.TheVariants.{ReadAfterWrite, WriteAfterRead, WriteAfterWrite}
use Rattle.dsa_operations.specs.Operations.{reads_of, writes_of}
use Rattle.dsa_settings.specs.Plan.{Plan}
use Rattle.dsa_reasons.specs.declared.fences.Fence.{Fence}
use Rattle.dsa_reasons.specs.declared.sentences.NamedConflict.{NamedConflict}
use Rattle.dsa_reasons.specs.OneGroup.{AreCutReasons}
use Rattle.dsa_reasons.specs.Sentences.{first_conflict, sentence_words}
use Rattle.dsa_c.specs.declared.reasons.RawReason.{RawReason}
use Rattle.dsa_c.specs.Marks.{marks_of}

-- the number of a hazard
abbrev pub hazard_number : HazardKind → ℕ
hazard_number ReadAfterWrite = 1
hazard_number WriteAfterRead = 2
hazard_number WriteAfterWrite = 3

-- the hazard of a number, if it is one of these
abbrev pub kind_in : ℕ → Option HazardKind
kind_in n = if n == 1 then Some ReadAfterWrite else (if n == 2 then Some WriteAfterRead else (if n == 3 then Some WriteAfterWrite else None))

-- whose completion record has the address: 0 for none, 1 for the earlier piece, 2 for the later
abbrev pub record_number : ℕ → Option ℕ → ℕ
record_number earlier None = 0
record_number earlier (Some piece) = if piece == earlier then 1 else 2

-- the piece whose record has the address, by that number
abbrev pub record_in : RawReason → Option ℕ
record_in r = if r.in_record == 1 then Some r.earlier else (if r.in_record == 2 then Some r.later else None)

-- a reason with this conflict
abbrev pub with_conflict : RawReason → Option NamedConflict → RawReason
with_conflict r None = r
with_conflict r (Some c) =
    record r {
      earlier = c.reason.earlier;
      later = c.reason.later;
      address = c.reason.hazard.address;
      hazard = hazard_number c.reason.hazard.kind;
      in_record = record_number c.reason.earlier c.record_of;
    }

-- the conflict of a reason whose hazard has this kind
abbrev pub conflict_with : RawReason → Option HazardKind → Option NamedConflict
conflict_with r None = None
conflict_with r (Some kind) =
    Some (record {
      reason = record { earlier = r.earlier; later = r.later; hazard = record { address = r.address; kind = kind } };
      record_of = record_in r;
    })

-- the conflict that a reason has, if it has one
abbrev pub conflict_in : RawReason → Option NamedConflict
conflict_in r = conflict_with r (kind_in r.hazard)

-- what a fence says of a piece of this mark in this group, without its conflict
abbrev pub bare_reason : ℕ → ℕ → Fence → RawReason
bare_reason group mark fence =
    record {
      piece = fence.piece;
      group = group;
      earlier = 0;
      later = 0;
      address = 0;
      more = fence.more;
      mark = mark;
      barrier = if fence.barrier then 1 else 0;
      hazard = 0;
      in_record = 0;
    }

-- the same with the first of the conflicts that it alone separates, if there is one
abbrev pub raw_reason_of : List Operation → ℕ → ℕ → Fence → RawReason
raw_reason_of pieces group mark fence = with_conflict (bare_reason group mark fence) (first_conflict writes_of pieces fence.named.items)

-- the reasons of these fences: the number of the group is one more at each piece that begins one
abbrev pub raw_reasons : List Operation → List ℕ → ℕ → List Fence → List RawReason
raw_reasons pieces marks group [] = []
raw_reasons pieces marks group (fence ∷ fences) =
    raw_reason_of pieces (group + slice_index_or marks fence.piece 0 % 2) (slice_index_or marks fence.piece 0) fence
    ∷ raw_reasons pieces marks (group + slice_index_or marks fence.piece 0 % 2) fences

-- the reasons of a plan of pieces and their barriers: one for each fenced piece, and one for each that a group after the
-- first begins with
pub record AreReasonsOf (pieces : List Operation) (barriers : List Bool) (plan : Plan) (reasons : List RawReason) : Type 0 where
  pub fences : List Fence
  pub cuts : AreCutReasons reads_of writes_of pieces barriers plan fences
  pub reasons_are : reasons ≡ raw_reasons pieces (marks_of plan) 0 fences

-- the sentence of a reason
abbrev pub sentence_of : RawReason → List ℕ
sentence_of r = sentence_words (not (r.barrier == 0)) (conflict_in r) r.more
