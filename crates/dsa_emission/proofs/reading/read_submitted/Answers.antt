use Rattle.std.proofs.Common.{ℕ, ◌≡◌, ◌-◌, ◌*◌, ◌<◌, inl, inr, List, length, take, drop, sym, ap, subst, ◌∙◌}
use Rattle.std.specs.Prelude.{◌⊎◌}
use Rattle.std.proofs.lemmas.List.{take_rest}
use Rattle.std.proofs.lemmas.Result.{err_from_is_err_and}
use Rattle.dsa_descriptor.specs.Lists.{entries}
use Rattle.dsa_descriptor.specs.Spans.{span}
use Rattle.dsa_ranges.specs.Pieces.{Kind, kind_of}
use Rattle.dsa_emission.specs.declared.demands.Demands.{Demands}
use Rattle.dsa_emission.specs.declared.place.Place.{Place}
use Rattle.dsa_emission.specs.declared.emission_fault.EmissionFault.{EmissionFault}
use Rattle.dsa_emission.specs.declared.emission_fault.EmissionFault.TheVariants.{PortalLength, StagingLength, BatchFields, EntryFence, Entry, RecordBytes, Memory}
use Rattle.dsa_settings.specs.Plan.{Plan}
use Rattle.dsa_settings.specs.Settings.{Limits}
use Rattle.dsa_emission.specs.EmissionFaults.{place_at_end, piece_bytes, owner_at, owner_of, demands_of, IsRightAt, HasLengths, IsFirstLengthFault, IsFirstPortalFault, HasBatches, HasZeroRecord, records_of, IsRead, IsEmissionAs, IsFirstEmissionFaultAs}
use Rattle.dsa_emission.proofs.NoFault.{memory_alone, emission_is_sound}
use Rattle.dsa_emission.proofs.OneFault.{told_or_memory, none_to_tell}
use Rattle.dsa_emission.proofs.Recovered.{recovered}
use Rattle.dsa_emission.proofs.Told.{one_emission_by}
use Rattle.dsa_emission.proofs.reading.read_submitted.Given.{Over}
use Rattle.dsa_emission.proofs.reading.read_submitted.Goals as goal

-- the kind of the pieces
abbrev kind : (g : Over) → Kind g.row.P.Denot
kind g = kind_of g.P.Entry.spelling g.P.Entry.keeps g.P.Piece.size g.P.Touching.reads g.P.Touching.writes

-- the batches, by what was found
right_batches : (s : Limits) (portal staging owner : List ℕ) (es st : List (List ℕ)) → es ≡ entries portal → st ≡ entries staging → HasLengths portal staging → owner ≡ owner_at (piece_bytes es st 0 0) →
    ((number : ℕ) → number < length es → IsRightAt s es owner number) → HasBatches s portal staging
right_batches s portal staging owner es st p q lengths o right =
    let whose : owner ≡ owner_of portal staging = o ∙ ap (λ (z : List (List ℕ)). owner_at (piece_bytes z st 0 0)) p ∙ ap (λ (z : List (List ℕ)). owner_at (piece_bytes (entries portal) z 0 0)) q in
    record {
      lengths = lengths;
      right = subst (λ (z : List (List ℕ)). (number : ℕ) → number < length z → IsRightAt s z (owner_of portal staging) number) p
          (subst (λ (o : List ℕ). (number : ℕ) → number < length es → IsRightAt s es o number) whose right);
    }

-- the demands, as they were made
demands_are : (s : Limits) (owner : List ℕ) (es st : List (List ℕ)) (end : Place) (first greatest : ℕ) → owner ≡ owner_at (piece_bytes es st 0 0) → end ≡ place_at_end es → first ≡ s.staging → greatest ≡ s.greatest_transfer →
    ◌≡◌ {A = Demands} (record { owner = owner; area = span first (96 * end.start); greatest = greatest }) (demands_of s es st)
demands_are s owner es st end first greatest o e f g i = record { owner = o i; area = span (f i) (96 * (e i).start); greatest = g i }

read_whole : {P : Type 0} (kind : Kind P) (s : Limits) (portal staging : List ℕ) (demands : Demands) (es st : List (List ℕ)) (plan : Plan) (ps : List P) → es ≡ entries portal → st ≡ entries staging → demands ≡ demands_of s es st →
    IsRead kind demands es st (length es) plan ps → IsRead kind (demands_of s (entries portal) (entries staging)) (entries portal) (entries staging) (length (entries portal)) plan ps
read_whole kind s portal staging demands es st plan ps p q d read =
    subst (λ (z : List (List ℕ)). IsRead kind (demands_of s (entries portal) z) (entries portal) z (length (entries portal)) plan ps) q
    (subst (λ (z : List (List ℕ)). IsRead kind (demands_of s z st) z st (length z) plan ps) p (subst (λ (z : Demands). IsRead kind z es st (length es) plan ps) d read))

-- the records, as the code cuts them out
records_are : (portal staging : List ℕ) (end : Place) → end ≡ place_at_end (entries portal) → take (length staging - 64 * end.batched) (drop (64 * end.batched) staging) ≡ records_of portal staging
records_are portal staging end e = take_rest staging (64 * end.batched) ∙ ap (λ (p : Place). drop (64 * p.batched) staging) e

-- what was read, by what was found
whole_read : {P : Type 0} (kind : Kind P) (s : Limits) (portal staging owner : List ℕ) (es st : List (List ℕ)) (end : Place) (first greatest : ℕ) (plan : Plan) (ps : List P) → es ≡ entries portal → st ≡ entries staging →
    (end ≡ place_at_end (entries portal)) × HasLengths portal staging → owner ≡ owner_at (piece_bytes es st 0 0) → ((number : ℕ) → number < length es → IsRightAt s es owner number) → first ≡ s.staging → greatest ≡ s.greatest_transfer →
    IsRead kind (record { owner = owner; area = span first (96 * end.start); greatest = greatest }) es st (length es) plan ps →
    HasBatches s portal staging × IsRead kind (demands_of s (entries portal) (entries staging)) (entries portal) (entries staging) (length (entries portal)) plan ps
whole_read kind s portal staging owner es st end first greatest plan ps p q e o right f g read = (
  right_batches s portal staging owner es st p q e.1 o right,
  read_whole kind s portal staging (record { owner = owner; area = span first (96 * end.start); greatest = greatest }) es st plan ps p q
      (demands_are s owner es st end first greatest o (e.0 ∙ ap place_at_end (sym p)) f g) read,
)

-- ---- the faults that the steps tell

length_fault : {P : Type 0} (kind : Kind P) (s : Limits) (portal staging : List ℕ) (fault : EmissionFault) → IsFirstLengthFault portal staging fault → IsFirstEmissionFaultAs kind s portal staging fault
length_fault kind s portal staging PortalLength h = h
length_fault kind s portal staging StagingLength h = h
length_fault kind s portal staging (BatchFields g) h = absurd h
length_fault kind s portal staging (EntryFence g) h = absurd h
length_fault kind s portal staging (Entry q f) h = absurd h
length_fault kind s portal staging (RecordBytes b) h = absurd h
length_fault kind s portal staging Memory h = absurd h

-- the entries of batches before a place are right, and that one isn't
abbrev WrongAt : Limits → List (List ℕ) → List ℕ → ℕ → Type 0
WrongAt s es owner number = (number < length es) × ((g : ℕ) → g < number → IsRightAt s es owner g) × ¬ IsRightAt s es owner number

batch_fault : {P : Type 0} (kind : Kind P) (s : Limits) (portal staging owner : List ℕ) (es st : List (List ℕ)) (number : ℕ) → es ≡ entries portal → st ≡ entries staging → HasLengths portal staging → owner ≡ owner_at (piece_bytes es st 0 0) →
    WrongAt s es owner number → IsFirstEmissionFaultAs kind s portal staging (BatchFields number)
batch_fault kind s portal staging owner es st number p q lengths o wrong =
    let whose : owner ≡ owner_of portal staging = o ∙ ap (λ (z : List (List ℕ)). owner_at (piece_bytes z st 0 0)) p ∙ ap (λ (z : List (List ℕ)). owner_at (piece_bytes (entries portal) z 0 0)) q in
    let there : WrongAt s (entries portal) (owner_of portal staging) number = subst (λ (z : List (List ℕ)). WrongAt s z (owner_of portal staging) number) p (subst (λ (o : List ℕ). WrongAt s es o number) whose wrong) in
    (lengths, there.0, there.1, there.2)

portal_fault : {P : Type 0} (kind : Kind P) (s : Limits) (portal staging : List ℕ) (fault : EmissionFault) → HasBatches s portal staging → IsFirstPortalFault kind (demands_of s (entries portal) (entries staging)) (entries portal) (entries staging) fault → IsFirstEmissionFaultAs kind s portal staging fault
portal_fault kind s portal staging PortalLength batches f = absurd f.stands
portal_fault kind s portal staging StagingLength batches f = absurd f.stands
portal_fault kind s portal staging (BatchFields g) batches f = absurd f.stands
portal_fault kind s portal staging (EntryFence g) batches f = (batches, f)
portal_fault kind s portal staging (Entry q e) batches f = (batches, f)
portal_fault kind s portal staging (RecordBytes b) batches f = absurd f.stands
portal_fault kind s portal staging Memory batches f = absurd f.stands

fault_there : {P : Type 0} (kind : Kind P) (s : Limits) (portal staging : List ℕ) (demands : Demands) (es st : List (List ℕ)) (fault : EmissionFault) → es ≡ entries portal → st ≡ entries staging → demands ≡ demands_of s es st →
    IsFirstPortalFault kind demands es st fault → IsFirstPortalFault kind (demands_of s (entries portal) (entries staging)) (entries portal) (entries staging) fault
fault_there kind s portal staging demands es st fault p q d f =
    subst (λ (z : List (List ℕ)). IsFirstPortalFault kind (demands_of s (entries portal) z) (entries portal) z fault) q
    (subst (λ (z : List (List ℕ)). IsFirstPortalFault kind (demands_of s z st) z st fault) p (subst (λ (z : Demands). IsFirstPortalFault kind z es st fault) d f))

-- what reading the groups returned
read_fault : {P : Type 0} (kind : Kind P) (s : Limits) (portal staging : List ℕ) (demands : Demands) (es st : List (List ℕ)) (fault : EmissionFault) → es ≡ entries portal → st ≡ entries staging → demands ≡ demands_of s es st →
    HasBatches s portal staging → ((fault ≡ Memory) ⊎ IsFirstPortalFault kind demands es st fault) → IsFirstEmissionFaultAs kind s portal staging fault
read_fault kind s portal staging demands es st fault p q d batches (inl none) = subst (IsFirstEmissionFaultAs kind s portal staging) (sym none) batches
read_fault kind s portal staging demands es st fault p q d batches (inr f) = portal_fault kind s portal staging fault batches (fault_there kind s portal staging demands es st fault p q d f)

pub returns-in_err-end-clause-only : goal.returns-in_err-end-clause-only
returns-in_err-end-clause-only g c = λ plan ps m.
    let p = err_from_is_err_and c.from_residual.result c.from_residual.ensures.1 in
    let none : c.in_err-end.field-0.0 ≡ Memory =
    memory_alone g.row.P.Denot (kind g) c.are_entries.ensures c.args.settings.now c.args.portal.now c.args.staging.now c.in_err-end.field-0.0 (emission_is_sound g.row.P.Denot (kind g) c.are_entries.ensures c.args.settings.now c.args.portal.now c.args.staging.now plan ps m)
    (length_fault (kind g) c.args.settings.now c.args.portal.now c.args.staging.now c.in_err-end.field-0.0 c.in_err-end.ensures.err.1) in
    rw (p.1, p.2) none

pub returns-in-Some-clause-only : goal.returns-in-Some-clause-only
returns-in-Some-clause-only g c = λ plan ps m.
    memory_alone g.row.P.Denot (kind g) c.are_entries.ensures c.args.settings.now c.args.portal.now c.args.staging.now (BatchFields c.in-Some.number) (emission_is_sound g.row.P.Denot (kind g) c.are_entries.ensures c.args.settings.now c.args.portal.now c.args.staging.now plan ps m)
    (batch_fault (kind g) c.args.settings.now c.args.portal.now c.args.staging.now c.first_owner-owner.result c.as_chunks.result.0.now c.as_chunks-2.result.0.now c.in-Some.number c.as_chunks.ensures.front c.as_chunks-2.ensures.front
    c.in_ok-end.ensures.ok.1 c.first_owner-owner.ensures c.in-Some.ensures)

group_fault : (g : Over) (c : goal.After-from_residual-in_err-read g) → IsFirstEmissionFaultAs (kind g) c.args.settings.now c.args.portal.now c.args.staging.now c.in_err-read.field-0.0
group_fault g c =
    let s = c.args.settings.now in
    let portal = c.args.portal.now in
    let staging = c.args.staging.now in
    let demands : Demands = record { owner = c.first_owner-owner.result; area = span c.staging.result (96 * c.in_ok-end.end.start); greatest = c.greatest_transfer.result } in
    let are : demands ≡ demands_of s c.as_chunks.result.0.now c.as_chunks-2.result.0.now = demands_are s c.first_owner-owner.result c.as_chunks.result.0.now c.as_chunks-2.result.0.now c.in_ok-end.end c.staging.result c.greatest_transfer.result
    c.first_owner-owner.ensures (c.in_ok-end.ensures.ok.0 ∙ ap place_at_end (sym c.as_chunks.ensures.front)) c.staging.ensures.value c.greatest_transfer.ensures.value in
    let batches : HasBatches s portal staging = right_batches s portal staging c.first_owner-owner.result c.as_chunks.result.0.now c.as_chunks-2.result.0.now c.as_chunks.ensures.front c.as_chunks-2.ensures.front
    c.in_ok-end.ensures.ok.1 c.first_owner-owner.ensures c.in_default.ensures in
    read_fault (kind g) s portal staging demands c.as_chunks.result.0.now c.as_chunks-2.result.0.now c.in_err-read.field-0.0 c.as_chunks.ensures.front c.as_chunks-2.ensures.front are batches c.in_err-read.ensures.err

pub returns-in_err-read-clause-only : goal.returns-in_err-read-clause-only
returns-in_err-read-clause-only g c = λ plan ps m.
    let p = err_from_is_err_and c.from_residual-in_err-read.result c.from_residual-in_err-read.ensures.1 in
    let none : c.in_err-read.field-0.0 ≡ Memory =
    memory_alone g.row.P.Denot (kind g) c.are_entries.ensures c.args.settings.now c.args.portal.now c.args.staging.now c.in_err-read.field-0.0 (emission_is_sound g.row.P.Denot (kind g) c.are_entries.ensures c.args.settings.now c.args.portal.now c.args.staging.now plan ps m) (group_fault g c) in
    rw (p.1, p.2) none

pub returns-in_err-read-clause-refused : goal.returns-in_err-read-clause-refused
returns-in_err-read-clause-refused g c = λ fault other first.
    let p = err_from_is_err_and c.from_residual-in_err-read.result c.from_residual-in_err-read.ensures.1 in
    rw (p.1, p.2) (told_or_memory g.row.P.Denot (kind g) c.are_entries.ensures c.args.settings.now c.args.portal.now c.args.staging.now c.in_err-read.field-0.0 fault other (group_fault g c) first)

record_fault : (g : Over) (c : goal.After-drop-read-in-Some-wrong_record g) → IsFirstEmissionFaultAs (kind g) c.args.settings.now c.args.portal.now c.args.staging.now (RecordBytes c.in-Some-wrong_record.batch)
record_fault g c =
    let read = whole_read (kind g) c.args.settings.now c.args.portal.now c.args.staging.now c.first_owner-owner.result c.as_chunks.result.0.now c.as_chunks-2.result.0.now c.in_ok-end.end c.staging.result c.greatest_transfer.result
    c.in_ok-read.read.0 c.in_ok-read.read.1.items c.as_chunks.ensures.front c.as_chunks-2.ensures.front c.in_ok-end.ensures.ok c.first_owner-owner.ensures c.in_default.ensures c.staging.ensures.value c.greatest_transfer.ensures.value
    c.in_ok-read.ensures.ok in
    let cut = records_are c.args.portal.now c.args.staging.now c.in_ok-end.end c.in_ok-end.ensures.ok.0 in
    let wrong = c.in-Some-wrong_record.ensures in (
      record { batches = read.0; sound = read.1.sound },
      subst (λ (p : Place). c.in-Some-wrong_record.batch < p.batches) c.in_ok-end.ensures.ok.0 wrong.0,
      subst (λ (bytes : List ℕ). (b : ℕ) → b < c.in-Some-wrong_record.batch → HasZeroRecord bytes b) cut wrong.1,
      subst (λ (bytes : List ℕ). ¬ HasZeroRecord bytes c.in-Some-wrong_record.batch) cut wrong.2,
    )

pub returns-in-Some-wrong_record-clause-fault : goal.returns-in-Some-wrong_record-clause-fault
returns-in-Some-wrong_record-clause-fault g c = record_fault g c

pub returns-in-Some-wrong_record-clause-refused : goal.returns-in-Some-wrong_record-clause-refused
returns-in-Some-wrong_record-clause-refused g c = λ fault other first.
    told_or_memory g.row.P.Denot (kind g) c.are_entries.ensures c.args.settings.now c.args.portal.now c.args.staging.now (RecordBytes c.in-Some-wrong_record.batch) fault other (record_fault g c) first

pub returns-in-Some-wrong_record-clause-only : goal.returns-in-Some-wrong_record-clause-only
returns-in-Some-wrong_record-clause-only g c = λ plan ps m.
    memory_alone g.row.P.Denot (kind g) c.are_entries.ensures c.args.settings.now c.args.portal.now c.args.staging.now (RecordBytes c.in-Some-wrong_record.batch) (emission_is_sound g.row.P.Denot (kind g) c.are_entries.ensures c.args.settings.now c.args.portal.now c.args.staging.now plan ps m) (record_fault g c)

found : (g : Over) (c : goal.In_default-wrong_record g) → IsEmissionAs (kind g) c.args.settings.now c.args.portal.now c.args.staging.now c.in_ok-read.read.0 c.in_ok-read.read.1.items
found g c =
    let read = whole_read (kind g) c.args.settings.now c.args.portal.now c.args.staging.now c.first_owner-owner.result c.as_chunks.result.0.now c.as_chunks-2.result.0.now c.in_ok-end.end c.staging.result c.greatest_transfer.result
    c.in_ok-read.read.0 c.in_ok-read.read.1.items c.as_chunks.ensures.front c.as_chunks-2.ensures.front c.in_ok-end.ensures.ok c.first_owner-owner.ensures c.in_default.ensures c.staging.ensures.value c.greatest_transfer.ensures.value
    c.in_ok-read.ensures.ok in
    let cut = records_are c.args.portal.now c.args.staging.now c.in_ok-end.end c.in_ok-end.ensures.ok.0 in
    recovered g.row.P.Denot (kind g) c.are_entries.ensures c.args.settings.now c.args.portal.now c.args.staging.now c.in_ok-read.read.0 c.in_ok-read.read.1.items
    (record {
      limits = c.staging.ensures.limits;
      batches = read.0;
      read = read.1;
      zeros = subst (λ (p : Place). (b : ℕ) → b < p.batches → HasZeroRecord (records_of c.args.portal.now c.args.staging.now) b) c.in_ok-end.ensures.ok.0
          (subst (λ (bytes : List ℕ). (b : ℕ) → b < c.in_ok-end.end.batches → HasZeroRecord bytes b) cut c.in_default-wrong_record.ensures);
    })

pub returns-clause-found : goal.returns-clause-found
returns-clause-found g c = found g c

pub returns-clause-only : goal.returns-clause-only
returns-clause-only g c = λ plan ps m.
    let f = found g c in
    one_emission_by g.row.P.Denot (kind g) c.are_entries.ensures c.args.settings.now c.in_ok-read.read.0 plan c.in_ok-read.read.1.items ps f.can_be m.can_be (sym f.portal_is ∙ m.portal_is) (sym f.staging_is ∙ m.staging_is)

pub returns-clause-refused : goal.returns-clause-refused
returns-clause-refused g c = λ fault other first.
    none_to_tell g.row.P.Denot (kind g) c.are_entries.ensures c.args.settings.now c.args.portal.now c.args.staging.now c.in_ok-read.read.0 c.in_ok-read.read.1.items fault (found g c) other first
