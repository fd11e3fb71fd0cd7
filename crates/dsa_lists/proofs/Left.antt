-- What is left of a list that may have checksums is a list again, and can be planned.
use Rattle.std.proofs.Common.{◌≡◌, ◌≢◌, ◌⊎◌, inl, inr, ℕ, ◌<◌, ◌≤◌, Bool, false, IfOk, List, [], ◌∷◌, ◌++◌, drop, get_or, length, map, Result, Ok, Err, refl, sym, ap, subst, ◌∙◌, arith}
use Rattle.std.specs.Prelude.{Some, slice_get}
use Rattle.std.specs.List.{flat_map}
use Rattle.std.proofs.lemmas.List.{length-map, get_or-map}
use Rattle.std.proofs.lemmas.List.Elements.{All-map}
use Rattle.std.proofs.lemmas.Option.{slice_get-get_or}
use Rattle.dsa_descriptor.specs.declared.descriptor.Descriptor.{Descriptor}
use Rattle.dsa_descriptor.specs.declared.fault.ListFault.{ListFault}
use Rattle.dsa_descriptor.specs.Descriptors.{fields}
use Rattle.dsa_descriptor.specs.Fences.{after_first, fenced_entries, marked_spelling, set_marks, unfenced_list}
use Rattle.dsa_descriptor.specs.Fields.{Fields}
use Rattle.dsa_descriptor.specs.Lists.{AgreeOnOwner, AreOfOneOwner}
use Rattle.dsa_descriptor.specs.Spans.{InSpan}
use Rattle.dsa_descriptor.specs.Spelling.{spelling}
use Rattle.dsa_descriptor.proofs.Listed.{list_is, one_owner, spelt}
use Rattle.dsa_descriptor.proofs.Fenced as fences
use Rattle.dsa_descriptor.proofs.Marked as descriptors
use Rattle.dsa_descriptor.specs.declared.span.Span.{Span}
use Rattle.dsa_ranges.specs.Pieces.{TouchesAt, writes_of as descriptor_writes}
use Rattle.dsa_ranges.specs.Ranges.{Touches}
use Rattle.dsa_emission.specs.Emission.{staging_span}
use Rattle.dsa_settings.specs.Settings.{Limits}
use Rattle.dsa_calls.specs.declared.fault.PlanFault.{PlanFault}
use Rattle.dsa_calls.specs.declared.fault.PlanFault.TheVariants.{List as InList}
use Rattle.dsa_calls.specs.Fenced.{PlansFenced}
use Rattle.dsa_calls.specs.Planned.{CanBePlanned}
use Rattle.dsa_resume.specs.declared.fault.ResumeFault.{ResumeFault}
use Rattle.dsa_resume.specs.declared.fault.ResumeFault.TheVariants.{Plan}
use Rattle.dsa_resume.specs.declared.left.LeftOrder.{LeftOrder}
use Rattle.dsa_resume.specs.declared.rest.Rest.{Rest}
use Rattle.dsa_resume.specs.Rest.{Remainder, remainder_of}
use Rattle.dsa_resume.specs.Resumed.{CanBePlannedAgain, IsAnswer, Resumes, ResumesPieces, Stopped, ends_in, gives_up_other, has_left, has_pieces, is_refused, lacks_records, passes_barrier, shares_record}
use Rattle.dsa_resume.proofs.Again.{IsIn, all_in, can_again, left_barriers, mapped, pairs_kept, rest_in}
use Rattle.dsa_resume.proofs.Listed.{rest_can_be_listed}
use Rattle.dsa_resume.proofs.Resumed.{rest_of_answer}
use Rattle.dsa_resume.proofs.Short.{rest_few}
use Rattle.dsa_operations.specs.declared.operation.Operation.{Operation}
use Rattle.dsa_operations.specs.declared.operation.Operation.TheVariants as operation
use Rattle.dsa_lists.specs.AnyLists.{AreAnyPieces, IsOfDescriptors, PlansAnyList}
use Rattle.dsa_operations.specs.Faults.{OperationKeeps}
use Rattle.dsa_operations.specs.Operations.{operation_kind, size_of, spelling_of, writes_of}
use Rattle.dsa_lists.specs.Resuming.{IsListAgain, ResumesAnyList, ResumesOperationList, as_operations, rest_bytes}
use Rattle.dsa_lists.specs.Submissions.{AreReady, CanBeSubmitted}
use Rattle.dsa_operations.proofs.Answered.{are_operations}
use Rattle.dsa_lists.proofs.AnyLists.{no_descriptors, of_planned}
use Rattle.dsa_lists.proofs.Listed.{made_there}
use Rattle.dsa_lists.proofs.Ready.{one_operations, ready_not_refused}

-- ---- what is left of descriptors

pub spelt_alike : (ds : List Descriptor) → flat_map spelling_of (map operation.Descriptor ds) ≡ flat_map spelt ds
spelt_alike [] = refl
spelt_alike (d ∷ ds) = ap (λ (bytes : List ℕ). spelling (fields d) ++ bytes) (spelt_alike ds)

pub fenced_alike : (ds : List Descriptor) (marks : List Bool) → fenced_entries spelling_of (map operation.Descriptor ds) marks ≡ marked_spelling (map fields ds) marks
unfolding fenced_entries marked_spelling
fenced_alike [] marks = refl
fenced_alike (d ∷ ds) marks = rw (fences.fenced_alike d (get_or marks 0 false), fenced_alike ds (drop 1 marks)) refl

resumed_by : (s : Limits) (rest : Remainder Operation) (bytes : List ℕ) → rest_bytes rest ≡ bytes → AreAnyPieces bytes s rest.pieces rest.barriers
    → ((fault : PlanFault) → PlansAnyList bytes s (Err fault) → ⊥) → IsListAgain s rest
resumed_by s rest bytes is are none = record {
  read = subst (λ (bs : List ℕ). AreAnyPieces bs s rest.pieces rest.barriers) (sym is) are;
  accepted = λ fault plans. none fault (subst (λ (bs : List ℕ). PlansAnyList bs s (Err fault)) is plans);
}

never_refused : (s : Limits) (bytes : List ℕ) → IsOfDescriptors bytes → ((fault : PlanFault) → PlansFenced bytes s (Err fault) → ⊥) → (fault : PlanFault) → PlansAnyList bytes s (Err fault) → ⊥
never_refused s bytes of none fault (inl (of', (Ok p, plans, is))) = cc
never_refused s bytes of none fault (inl (of', (Err cause, plans, is))) = none cause plans
never_refused s bytes of none fault (inr (other, plans)) = other of

pub descriptors_again : (s : Limits) (rest : Remainder Descriptor) → CanBePlannedAgain s rest → IsListAgain s (as_operations rest)
descriptors_again s rest again =
    let bytes : List ℕ = marked_spelling (map fields rest.pieces) rest.barriers in
    let listed = rest_can_be_listed s rest again in
    let of : IsOfDescriptors bytes = (listed.read.operations, listed.read.listed) in
    resumed_by s (as_operations rest) bytes (fenced_alike rest.pieces rest.barriers) (inl (of, (rest.pieces, listed.read, refl))) (never_refused s bytes of listed.accepted)

-- ---- what is left of operations

-- all are descriptors, or not all
kinds : (os : List Operation) → ((ds : List Descriptor) × (os ≡ map operation.Descriptor ds)) ⊎ ((ds : List Descriptor) → os ≡ map operation.Descriptor ds → ⊥)
kinds [] = inl ([], refl)
kinds (operation.Descriptor d ∷ os) =
    elim (kinds os) [
      | inl (ds, is) ↦ inl (d ∷ ds, ap (λ (xs : List Operation). operation.Descriptor d ∷ xs) is)
      | inr none ↦ inr (more none)
    ]
  where
    more : ((ds : List Descriptor) → os ≡ map operation.Descriptor ds → ⊥) → (ds : List Descriptor) → operation.Descriptor d ∷ os ≡ map operation.Descriptor ds → ⊥
    more none [] is = absurd cc
    more none (e ∷ ds) is = none ds cc
kinds (operation.Checksum c ∷ os) = inr other
  where
    other : (ds : List Descriptor) → operation.Checksum c ∷ os ≡ map operation.Descriptor ds → ⊥
    other [] is = absurd cc
    other (e ∷ ds) is = absurd cc

-- bytes that spell operations that are not all descriptors are no list of descriptors
pub no_list : (bytes : List ℕ) (os : List Operation) → unfenced_list bytes ≡ flat_map spelling_of os → ((ds : List Descriptor) → os ≡ map operation.Descriptor ds → ⊥) → ¬ IsOfDescriptors bytes
no_list bytes os spelled none (ds, listed) =
    none ds (one_operations bytes (map operation.Descriptor ds) os (listed.spelled ∙ list_is ds ∙ sym (spelt_alike ds)) spelled)

-- descriptors that can be submitted as operations can be planned
pub unmapped : (ds : List Descriptor) → AreOfOneOwner spelling_of (map operation.Descriptor ds) → AreOfOneOwner spelt ds
unmapped ds owner i j d less within =
    let inside : j < length (map operation.Descriptor ds) = omega (arith, within, length-map ds operation.Descriptor) in
    let first = get_or-map operation.Descriptor ds i d (operation.Descriptor d) (omega (arith, less, within)) in
    let second = get_or-map operation.Descriptor ds j d (operation.Descriptor d) within in
    subst (λ (o : Operation). AgreeOnOwner (spelt (get_or ds i d)) (spelling_of o)) second
    (subst (λ (o : Operation). AgreeOnOwner (spelling_of o) (spelling_of (get_or (map operation.Descriptor ds) j (operation.Descriptor d)))) first
    (owner i j (operation.Descriptor d) less inside))

submitted_can : (s : Limits) (ds : List Descriptor) → CanBeSubmitted s (map operation.Descriptor ds) → AreOfOneOwner spelling_of (map operation.Descriptor ds) → CanBePlanned s (map fields ds)
submitted_can s ds can owner =
    let count : length (map operation.Descriptor ds) ≡ length ds = length-map ds operation.Descriptor in
    let fields_count : length (map fields ds) ≡ length ds = length-map ds fields in
    record {
      few = omega (arith, can.few, count, fields_count);
      one_owner = one_owner ds (unmapped ds owner);
      short = All-map (λ (f : Fields). f.size ≤ s.greatest_transfer) fields ds
          (λ i d within. can.short i (get_or ds i d).size (made_there size_of (map operation.Descriptor ds) i (operation.Descriptor (get_or ds i d))
          (made_there operation.Descriptor ds i (get_or ds i d) (slice_get-get_or ds i d within))));
      clear = All-map (λ (f : Fields). (a : ℕ) → InSpan (staging_span s (map fields ds)) a → ¬ Touches f a) fields ds
          (λ i d within a (first, last) touches. can.clear i (operation.Descriptor (get_or ds i d)) (made_there operation.Descriptor ds i (get_or ds i d) (slice_get-get_or ds i d within))
          (a, (first, omega (arith, last, count, fields_count)), touches));
    }

-- and the other way round
pub planned_can : (s : Limits) (ds : List Descriptor) → CanBePlanned s (map fields ds) → CanBeSubmitted s (map operation.Descriptor ds)
planned_can s ds can =
    let count : length (map operation.Descriptor ds) ≡ length ds = length-map ds operation.Descriptor in
    let fields_count : length (map fields ds) ≡ length ds = length-map ds fields in
    let there : (d : Descriptor) (i : ℕ) → slice_get ds i ≡ Some d → IsIn (map fields ds) (fields d) = λ d i at. (i, made_there fields ds i d at) in
    record {
      few = omega (arith, can.few, count, fields_count);
      short = λ i size at.
          let (o, at_o, is_size) = mapped size_of (map operation.Descriptor ds) i size at in
          let (d, at_d, is) = mapped operation.Descriptor ds i o at_o in
          subst (λ (n : ℕ). n ≤ s.greatest_transfer) (ap size_of is ∙ is_size)
          (all_in (λ (f : Fields). f.size ≤ s.greatest_transfer) (map fields ds) (fields d) can.short (there d i at_d));
      clear = λ i o at (a, (first, last), touched).
          let (d, at_d, is) = mapped operation.Descriptor ds i o at in
          all_in (λ (f : Fields). (a : ℕ) → InSpan (staging_span s (map fields ds)) a → ¬ Touches f a) (map fields ds) (fields d) can.clear (there d i at_d)
          a (first, omega (arith, last, count, fields_count)) (subst (λ (x : Operation). TouchesAt operation_kind x a) (sym is) touched);
    }

-- fewer operations of those that can be submitted can be submitted
fewer_can : (s : Limits) (os qs : List Operation) → CanBeSubmitted s os → length qs ≤ length os → ((q : Operation) (k : ℕ) → slice_get qs k ≡ Some q → IsIn os q) → CanBeSubmitted s qs
fewer_can s os qs can fewer are = record {
  few = omega (arith, can.few, fewer);
  short = λ i size at.
      let (o, at_o, is) = mapped size_of qs i size at in
      let (k, there) = are o i at_o in
      can.short k size (made_there size_of os k o there ∙ ap Some is);
  clear = λ i o at (a, (first, last), touched).
      let (k, there) = are o i at in
      can.clear k o there (a, (first, omega (arith, last, fewer)), touched);
}

-- operations that can be submitted are a list again
module _ (s : Limits) (rest : Remainder Operation) (can : CanBeSubmitted s rest.pieces) (owner : AreOfOneOwner spelling_of rest.pieces)
    (count : (rest.barriers ≡ []) ⊎ (length rest.barriers ≡ length rest.pieces)) (kept : set_marks (after_first rest.barriers) ≡ rest.barriers) where
  all_again : (ds : List Descriptor) → rest.pieces ≡ map operation.Descriptor ds → IsListAgain s rest
  all_again ds is =
      let seen : Remainder Descriptor = record { pieces = ds; barriers = rest.barriers; left_out = rest.left_out } in
      let same : rest ≡ as_operations seen = λ i. record { pieces = is i; barriers = rest.barriers; left_out = rest.left_out } in
      let as_many : length rest.pieces ≡ length ds = ap length is ∙ length-map ds operation.Descriptor in
      let counted : (rest.barriers ≡ []) ⊎ (length rest.barriers ≡ length ds) = elim count [ inl none ↦ inl none | inr all ↦ inr (all ∙ as_many) ] in
      let planned = submitted_can s ds (subst (CanBeSubmitted s) is can) (subst (AreOfOneOwner spelling_of) is owner) in
      subst (IsListAgain s) (sym same) (descriptors_again s seen (can_again s seen planned counted kept))

  pub operations_again : IsListAgain s rest
  operations_again =
      elim (kinds rest.pieces) [
        | inl (ds, is) ↦ all_again ds is
        | inr none ↦
            let bytes : List ℕ = rest_bytes rest in
            let back = descriptors.read_back Operation spelling_of OperationKeeps are_operations rest.pieces rest.barriers count in
            let ready : AreReady bytes s rest.pieces = record { spelt = back.0; owner = owner; can = can } in
            let no : ¬ IsOfDescriptors bytes = no_list bytes rest.pieces back.0 none in
            record {
              read = inr (no, (ready, sym (back.1 ∙ kept)));
              accepted = λ fault plans. elim plans [ inl (of, told) ↦ absurd (no of) | inr (other, refused) ↦ ready_not_refused bytes s rest.pieces fault ready refused ];
            }
      ]

-- ---- answers

-- what is left of operations that can be submitted
pub left_again : (s : Limits) (order : LeftOrder) (l : Stopped Operation) → CanBeSubmitted s l.pieces → AreOfOneOwner spelling_of l.pieces → (l.barriers ≢ [] → length l.barriers ≡ length l.pieces)
    → (rest : Remainder Operation) → ResumesPieces writes_of order l (Ok rest) → IsListAgain s rest
left_again s order l can owner marked rest answer =
    let (count, left) = rest_of_answer writes_of order l rest answer in
    let (counted, kept) = left_barriers order l.pieces l.barriers (ends_in l) rest marked count left in
    let are = rest_in order l.pieces l.barriers (ends_in l) left.front rest left.is_rest in
    let fewer = rest_few order l.pieces l.barriers (ends_in l) left.front rest left.is_rest in
    operations_again s rest (fewer_can s l.pieces rest.pieces can fewer are)
    (pairs_kept (λ (o p : Operation). AgreeOnOwner (spelling_of o) (spelling_of p)) (λ o. (refl, refl)) (λ o p (pasid, privileged). (sym pasid, sym privileged))
    l.pieces rest.pieces owner are) counted kept

-- the same of an answer
pub again_if_left : (s : Limits) (order : LeftOrder) (l : Stopped Operation) → CanBeSubmitted s l.pieces → AreOfOneOwner spelling_of l.pieces → (l.barriers ≢ [] → length l.barriers ≡ length l.pieces)
    → (r : Result (Rest Operation) ResumeFault) → IsAnswer (ResumesPieces writes_of order l) r → IfOk r (λ rest. IsListAgain s (remainder_of rest))
again_if_left s order l can owner marked (Ok rest) answer = left_again s order l can owner marked (remainder_of rest) answer
again_if_left s order l can owner marked (Err fault) answer = tt

-- an outcome of pieces is no fault of bytes
no_bytes : {P : Type 0} (writes : P → List Span) (order : LeftOrder) (l : Stopped P) (cause : ListFault) → ResumesPieces writes order l (Err (Plan (InList cause))) → ⊥
no_bytes writes order l cause (lacks_records other is) = cc
no_bytes writes order l cause (shares_record i j count first is) = cc
no_bytes writes order l cause (gives_up_other i told first is) = cc
no_bytes writes order l cause (passes_barrier i j told none first is) = cc
no_bytes writes order l cause (has_left rest told none left is) = cc

module _ (s : Limits) (bytes records given_up : List ℕ) (order : LeftOrder) where
  -- a fault of the bytes says that they are no list of descriptors
  pub no_descriptors_resumed : (fault : ResumeFault) → (cause : ListFault) × (fault ≡ Plan (InList cause)) → IsAnswer (Resumes s bytes records given_up order) (Err fault) → ¬ IsOfDescriptors bytes
  no_descriptors_resumed fault (cause, is) (inl memory) of = cc
  no_descriptors_resumed fault (cause, is) (inr (is_refused refused plans told)) of =
      let same : refused ≡ InList cause = cc in
      no_descriptors bytes s cause (subst (λ (x : PlanFault). PlansFenced bytes s (Err x)) same plans) of
  no_descriptors_resumed fault (cause, is) (inr (has_pieces pieces barriers are resumes)) of =
      let l : Stopped Descriptor = record { pieces = pieces; barriers = barriers; records = records; given_up = given_up } in
      no_bytes descriptor_writes order l cause (subst (λ (x : ResumeFault). ResumesPieces descriptor_writes order l (Err x)) is resumes)

  -- and each other outcome, that they are one
  of_resumed : (o : Result (Remainder Descriptor) ResumeFault) → ((cause : ListFault) → o ≡ Err (Plan (InList cause)) → ⊥) → Resumes s bytes records given_up order o → IsOfDescriptors bytes
  of_resumed o other (is_refused fault plans is) = of_planned bytes s (Err fault) (λ cause e. let same : fault ≡ InList cause = cc in other cause (is ∙ ap (λ (x : PlanFault). Err (Plan x)) same)) plans
  of_resumed o other (has_pieces pieces barriers are resumes) = (are.operations, are.listed)

  pub left_any : (rest : Remainder Descriptor) → Resumes s bytes records given_up order (Ok rest) → ResumesAnyList s bytes records given_up order (Ok (as_operations rest))
  left_any rest resumes = inl (of_resumed (Ok rest) (λ cause e. cc) resumes, (Ok rest, resumes, refl))

  pub refused_any : (fault : ResumeFault) → ((cause : ListFault) → fault ≡ Plan (InList cause) → ⊥) → IsAnswer (Resumes s bytes records given_up order) (Err fault)
      → IsAnswer {P = Operation} (ResumesAnyList s bytes records given_up order) (Err fault)
  refused_any fault other (inl memory) = inl memory
  refused_any fault other (inr resumes) = inr (inl (of_resumed (Err fault) (λ cause e. let same : fault ≡ Plan (InList cause) = cc in other cause same) resumes, (Err fault, resumes, refl)))

  pub answers_any : ¬ IsOfDescriptors bytes → (r : Result (Rest Operation) ResumeFault) → IsAnswer (ResumesOperationList s bytes records given_up order) r → IsAnswer (ResumesAnyList s bytes records given_up order) r
  answers_any none (Ok rest) resumes = inr (none, resumes)
  answers_any none (Err fault) (inl memory) = inl memory
  answers_any none (Err fault) (inr resumes) = inr (inr (none, resumes))
