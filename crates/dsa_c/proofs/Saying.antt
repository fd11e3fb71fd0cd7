-- The sentences of reasons are those of the fences.
use Rattle.std.proofs.Common.{◌≡◌, ℕ, ◌+◌, ◌%◌, ◌==◌, Bool, true, false, cond, List, [], ◌∷◌, Some, None, Option, map, refl, sym, ap, ◌∙◌}
use Rattle.std.specs.Prelude.{not, option_map, slice_get, slice_index_or, if◌then◌else◌}
use Rattle.std.proofs.lemmas.Bool.{eq-eqb, eqb-true}
use Rattle.std.proofs.lemmas.Option.{slice_get-map}
use Rattle.dsa_descriptor.specs.declared.descriptor.Descriptor.{Descriptor}
use Rattle.dsa_operations.specs.declared.operation.Operation.{Operation}
use Rattle.dsa_operations.specs.declared.operation.Operation.TheVariants as operation
use Rattle.dsa_operations.specs.Operations.{writes_of}
use Rattle.dsa_ranges.specs.declared.hazards.HazardKind.{HazardKind}
use Rattle.dsa_ranges.specs.declared.hazards.HazardKind.TheVariants.{ReadAfterWrite, WriteAfterRead, WriteAfterWrite}
use Rattle.dsa_ranges.specs.Pieces as descriptors
use Rattle.dsa_reasons.specs.declared.fences.Fence.{Fence}
use Rattle.dsa_reasons.specs.declared.reason.Reason.{Reason}
use Rattle.dsa_reasons.specs.declared.sentences.NamedConflict.{NamedConflict}
use Rattle.dsa_reasons.specs.Sentences.{fence_words, is_in_record, named, named_option, record_of, sentence_words}
use Rattle.dsa_c.specs.declared.reasons.RawReason.{RawReason}
use Rattle.dsa_c.specs.Explaining.{DescriptorsSayAlike, ReasonsSayAsExplained}
use Rattle.dsa_c.specs.Reasons.{bare_reason, conflict_in, conflict_with, kind_in, hazard_number, raw_reasons, record_number, sentence_of, with_conflict}

-- ---- a reason has the conflict that it was made with

kind_back : (kind : HazardKind) → kind_in (hazard_number kind) ≡ Some kind
kind_back ReadAfterWrite = refl
kind_back WriteAfterRead = refl
kind_back WriteAfterWrite = refl

-- the piece that a number names, as `record_in` has it
abbrev which : ℕ → ℕ → ℕ → Option ℕ
which n earlier later = if n == 1 then Some earlier else (if n == 2 then Some later else None)

told : (is_earlier : Bool) (piece earlier later : ℕ) → (is_earlier ≡ true → earlier ≡ piece) → (is_earlier ≡ false → later ≡ piece)
    → which (cond is_earlier 1 2) earlier later ≡ Some piece
told true piece earlier later first second = ap (λ (n : ℕ). Some n) (first refl)
told false piece earlier later first second = ap (λ (n : ℕ). Some n) (second refl)

-- of two pieces the first one that is picked is found again
picked : (first second : Bool) (earlier later : ℕ) (o : Option ℕ) → o ≡ cond first (Some earlier) (cond second (Some later) None)
    → which (record_number earlier o) earlier later ≡ o
picked true second earlier later o is =
    ap (λ (x : Option ℕ). which (record_number earlier x) earlier later) is
    ∙ told (earlier == earlier) earlier earlier later (λ h. refl) (λ h. absurd (not_other earlier h)) ∙ sym is
  where
    not_other : (n : ℕ) → (n == n) ≡ false → ⊥
    not_other n h = let same : (n == n) ≡ true = eq-eqb n n refl in cc
picked false true earlier later o is =
    ap (λ (x : Option ℕ). which (record_number earlier x) earlier later) is
    ∙ told (later == earlier) later earlier later (λ h. sym (eqb-true later earlier h)) (λ h. refl) ∙ sym is
picked false false earlier later o is = ap (λ (x : Option ℕ). which (record_number earlier x) earlier later) is ∙ sym is

record_back : (pieces : List Operation) (r : Reason) (raw : RawReason) → conflict_in (with_conflict raw (Some (named writes_of pieces r))) ≡ Some (named writes_of pieces r)
record_back pieces r raw =
    let laid : RawReason = with_conflict raw (Some (named writes_of pieces r)) in
    let found : which (record_number r.earlier (record_of writes_of pieces r)) r.earlier r.later ≡ record_of writes_of pieces r =
    picked (is_in_record writes_of (slice_get pieces r.earlier) r.hazard.address) (is_in_record writes_of (slice_get pieces r.later) r.hazard.address) r.earlier r.later (record_of writes_of pieces r) refl in
    ap (λ (kind : Option HazardKind). conflict_with laid kind) (kind_back r.hazard.kind)
    ∙ ap (λ (o : Option ℕ). Some (with_record r o)) found
  where
    with_record : Reason → Option ℕ → NamedConflict
    with_record reason o = record { reason = reason; record_of = o }

conflict_back : (pieces : List Operation) (reason : Option Reason) (group mark : ℕ) (fence : Fence)
    → conflict_in (with_conflict (bare_reason group mark fence) (named_option writes_of pieces reason)) ≡ named_option writes_of pieces reason
conflict_back pieces None group mark fence = refl
conflict_back pieces (Some r) group mark fence = record_back pieces r (bare_reason group mark fence)

-- ---- the sentences

barrier_back : (barrier : Bool) → not (cond barrier 1 0 == 0) ≡ barrier
barrier_back true = refl
barrier_back false = refl

one_said : (pieces : List Operation) (reason : Option Reason) (group mark : ℕ) (fence : Fence)
    → sentence_of (with_conflict (bare_reason group mark fence) (named_option writes_of pieces reason)) ≡ sentence_words fence.barrier (named_option writes_of pieces reason) fence.more
one_said pieces None group mark fence = ap (λ (b : Bool). sentence_words b None fence.more) (barrier_back fence.barrier)
one_said pieces (Some r) group mark fence =
    ap (λ (b : Bool). sentence_words b (conflict_in (with_conflict (bare_reason group mark fence) (Some (named writes_of pieces r)))) fence.more) (barrier_back fence.barrier)
    ∙ ap (λ (c : Option NamedConflict). sentence_words fence.barrier c fence.more) (record_back pieces r (bare_reason group mark fence))

pub reasons_say_as_explained : ReasonsSayAsExplained
reasons_say_as_explained pieces marks group [] = refl
reasons_say_as_explained pieces marks group (fence ∷ fences) =
    let next : ℕ = group + slice_index_or marks fence.piece 0 % 2 in
    ap (λ (words : List ℕ). words ∷ map sentence_of (raw_reasons pieces marks next fences))
    (one_said pieces (slice_get fence.named.items 0) next (slice_index_or marks fence.piece 0) fence)
    ∙ ap (λ (rest : List (List ℕ)). fence_words writes_of pieces fence ∷ rest) (reasons_say_as_explained pieces marks next fences)

-- ---- descriptors as operations

in_record_alike : (d : Option Descriptor) (address : ℕ) → is_in_record writes_of (option_map operation.Descriptor d) address ≡ is_in_record descriptors.writes_of d address
in_record_alike None address = refl
in_record_alike (Some d) address = refl

there_alike : (ds : List Descriptor) (k address : ℕ) → is_in_record writes_of (slice_get (map operation.Descriptor ds) k) address ≡ is_in_record descriptors.writes_of (slice_get ds k) address
there_alike ds k address = ap (λ (o : Option Operation). is_in_record writes_of o address) (slice_get-map operation.Descriptor ds k) ∙ in_record_alike (slice_get ds k) address

record_alike : (ds : List Descriptor) (r : Reason) → record_of writes_of (map operation.Descriptor ds) r ≡ record_of descriptors.writes_of ds r
record_alike ds r =
    let first = there_alike ds r.earlier r.hazard.address in
    let second = there_alike ds r.later r.hazard.address in
    λ i. cond (first i) (Some r.earlier) (cond (second i) (Some r.later) None)

named_alike : (ds : List Descriptor) (reason : Option Reason) → named_option writes_of (map operation.Descriptor ds) reason ≡ named_option descriptors.writes_of ds reason
named_alike ds None = refl
named_alike ds (Some r) = λ i. Some (record { reason = r; record_of = record_alike ds r i })

pub descriptors_say_alike : DescriptorsSayAlike
descriptors_say_alike ds fence = ap (λ (c : Option NamedConflict). sentence_words fence.barrier c fence.more) (named_alike ds (slice_get fence.named.items 0))
