-- Descriptors as the entries of a list.
use Rattle.std.proofs.Common.{◌≡◌, ◌≢◌, ℕ, ◌+◌, ◌*◌, ◌/◌, ◌%◌, ◌^◌, ◌<◌, Bool, true, false, cond, eqb, Some, None, List, [], ◌∷◌, length, get_or, map, refl, sym, ap, ◌∙◌, arith}
use Rattle.std.specs.Prelude.{Option}
use Rattle.std.specs.List.{flat_map}
use Rattle.std.specs.Simd.{first_chunks}
use Rattle.std.proofs.lemmas.List.{get_or-drop, get_or-map, length-map}
use Rattle.std.proofs.lemmas.List.Folds.{flat_map-map}
use Rattle.std.proofs.lemmas.Simd.{map-map}
use Rattle.dsa_descriptor.specs.declared.descriptor.Descriptor.{Descriptor}
use Rattle.dsa_descriptor.specs.declared.fault.FieldFault.{FieldFault}
use Rattle.dsa_descriptor.specs.declared.fault.FieldFault.TheVariants.{Opcode, FlagBits, Reserved}
use Rattle.dsa_descriptor.specs.declared.fault.ListFault.{ListFault}
use Rattle.dsa_descriptor.specs.declared.fault.ListFault.TheVariants.{Memory}
use Rattle.dsa_descriptor.specs.declared.op.Op.{Op}
use Rattle.dsa_descriptor.specs.declared.op.Op.TheVariants.{Move, Fill, Compare, ComparePattern, ApplyDelta, Dualcast}
use Rattle.dsa_descriptor.specs.Descriptors.{fields}
use Rattle.dsa_descriptor.specs.Faults.{IsFirstFault, Keeps}
use Rattle.dsa_descriptor.specs.Fields.{Fields}
use Rattle.dsa_descriptor.specs.Operands.{code_of}
use Rattle.dsa_descriptor.specs.Lists.{list_spelling, AreEntries, AreOfOneOwner, HaveOneOwner, IsFirstListFault, IsSound}
use Rattle.dsa_descriptor.specs.Places.{flags_at, op_at, pasid_at, privileged_at, reserved_bits_at, u32_at}
use Rattle.dsa_descriptor.specs.Profile.{IsListed}
use Rattle.dsa_descriptor.specs.Spelling.{spelling}
use Rattle.dsa_descriptor.proofs.Entries.{chunks_by, fault_by, first_by_is_one, length-entries_spelling, one_entries_spelling, sound_by, sound_or_fault_by}
use Rattle.dsa_descriptor.proofs.Masks.{no_fence_listed}
use Rattle.dsa_descriptor.proofs.Rules.{rule, spelling_keeps, spelling_stands, unnamed}
use Rattle.dsa_descriptor.proofs.Same.{one_spelling}

-- ---- each is an entry

pub length-spelling : (d : Descriptor) → length (spelling (fields d)) ≡ 64
length-spelling d = (spelling_stands (fields d) d.listed).long

-- the lowest bit of the flags
pub lowest_of : (bytes : List ℕ) → flags_at bytes % 2 ≡ get_or bytes 4 0 % 2
unfolding u32_at
lowest_of bytes = omega (arith, get_or-drop 4 bytes 0 0)

-- bytes that keep the rules of the operation code and of the flags have no fence
named_kept : (bytes : List ℕ) (op : Op) → op_at bytes ≡ Some op → ((fault : FieldFault) → Keeps bytes fault) → get_or bytes 4 0 % 2 ≡ 0
named_kept bytes op is kept = omega (arith, lowest_of bytes, no_fence_listed op (flags_at bytes) (rule bytes op is FlagBits (kept FlagBits)))

lowest_kept : (bytes : List ℕ) (found : Option Op) → op_at bytes ≡ found → ((fault : FieldFault) → Keeps bytes fault) → get_or bytes 4 0 % 2 ≡ 0
lowest_kept bytes None is kept = absurd ((unnamed bytes is).stands (kept Opcode))
lowest_kept bytes (Some op) is kept = named_kept bytes op is kept

-- nor a reserved bit
unreserved_kept : (bytes : List ℕ) (found : Option Op) → op_at bytes ≡ found → ((fault : FieldFault) → Keeps bytes fault) → reserved_bits_at bytes ≡ 0
unreserved_kept bytes None is kept = absurd ((unnamed bytes is).stands (kept Opcode))
unreserved_kept bytes (Some op) is kept = (rule bytes op is Reserved (kept Reserved)).0

abbrev pub spelt : Descriptor → List ℕ
spelt d = spelling (fields d)

-- no code is that of a batch
other_code : (op : Op) → (code_of op ≢ 1) × (code_of op < 256)
other_code (Move src dst) = (λ e. absurd (omega arith), omega arith)
other_code (Fill pattern dst) = (λ e. absurd (omega arith), omega arith)
other_code (Compare src src2 expected) = (λ e. absurd (omega arith), omega arith)
other_code (ComparePattern src pattern expected) = (λ e. absurd (omega arith), omega arith)
other_code (ApplyDelta delta dst record_size) = (λ e. absurd (omega arith), omega arith)
other_code (Dualcast src dst dst2) = (λ e. absurd (omega arith), omega arith)

pub code_told : (f : Fields) → IsListed f → get_or (spelling f) 7 0 ≢ 1
unfolding spelling
code_told f listed e =
    let code = other_code f.op in
    let fits : f.flags < 2 ^ 24 = listed.flags_fit in
    let is : code_of f.op ≡ 1 = omega (arith, code.1) in
    code.0 is

pub are_entries : AreEntries spelt Keeps
are_entries = record {
  whole = length-spelling;
  kept = λ d fault. spelling_keeps (fields d) d.listed fault;
  one = one_spelling;
  single = λ d. code_told (fields d) d.listed;
  plain = λ bytes kept. lowest_kept bytes (op_at bytes) refl kept;
  unreserved = λ bytes kept. unreserved_kept bytes (op_at bytes) refl kept;
}

pub fault_only : (bytes : List ℕ) (f : FieldFault) (d : Descriptor) → IsFirstFault bytes f → bytes ≡ spelt d → ⊥
fault_only bytes f d first is = fault_by Descriptor spelt Keeps are_entries bytes f d first is

-- ---- lists of them

pub list_is : (ds : List Descriptor) → list_spelling (map fields ds) ≡ flat_map spelt ds
list_is ds = flat_map-map spelling fields ds

owner_parts : (pasid : ℕ) (privileged : Bool) → pasid < 2 ^ 20 → ((pasid + cond privileged (2 ^ 31) 0) % 2 ^ 20 ≡ pasid) × (eqb ((pasid + cond privileged (2 ^ 31) 0) / 2 ^ 31) 1 ≡ privileged)
owner_parts pasid true lt = let high : (pasid + 2 ^ 31) / 2 ^ 31 ≡ 1 = omega arith in (omega arith, rw high refl)
owner_parts pasid false lt = let high : (pasid + 0) / 2 ^ 31 ≡ 0 = omega arith in (omega arith, rw high refl)

-- the owner that a spelling has
owner_spelt : (d : Descriptor) → (pasid_at (spelt d) ≡ d.pasid) × (privileged_at (spelt d) ≡ d.privileged)
owner_spelt d = rw (spelling_stands (fields d) d.listed).owner_there (owner_parts d.pasid d.privileged d.listed.pasid_fits)

some_descriptor : (ds : List Descriptor) (i : ℕ) → i < length ds → Descriptor
some_descriptor [] i lt = absurd (omega arith)
some_descriptor (d ∷ ds) i lt = d

field_or : (ds : List Descriptor) (i : ℕ) (f : Fields) (d : Descriptor) → i < length ds → get_or (map fields ds) i f ≡ fields (get_or ds i d)
field_or ds i f d lt = get_or-map fields ds i d f lt

pub one_owner : (ds : List Descriptor) → AreOfOneOwner spelt ds → HaveOneOwner (map fields ds)
one_owner ds one i j f lt inside =
    let less : j < length ds = omega (arith, inside, length-map ds fields) in
    let d = some_descriptor ds j less in
    let agree = one i j d lt less in
    let a = owner_spelt (get_or ds i d) in
    let b = owner_spelt (get_or ds j d) in
    rw (field_or ds i f d (omega (arith, lt, less)), field_or ds j f d less) (sym a.0 ∙ agree.0 ∙ b.0, sym a.1 ∙ agree.1 ∙ b.1)

pub spelt_owner : (ds : List Descriptor) → HaveOneOwner (map fields ds) → AreOfOneOwner spelt ds
spelt_owner ds one i j d lt inside =
    let same = one i j (fields d) lt (omega (arith, inside, length-map ds fields)) in
    let a = owner_spelt (get_or ds i d) in
    let b = owner_spelt (get_or ds j d) in
    let here = get_or-map fields ds i d (fields d) (omega (arith, lt, inside)) in
    let there = get_or-map fields ds j d (fields d) inside in (
      a.0 ∙ sym (ap (λ (f : Fields). f.pasid) here) ∙ same.0 ∙ ap (λ (f : Fields). f.pasid) there ∙ sym b.0,
      a.1 ∙ sym (ap (λ (f : Fields). f.privileged) here) ∙ same.1 ∙ ap (λ (f : Fields). f.privileged) there ∙ sym b.1,
    )

pub length-list_spelling : (ds : List Descriptor) → length (list_spelling (map fields ds)) ≡ 64 * length ds
length-list_spelling ds = ap length (list_is ds) ∙ length-entries_spelling Descriptor spelt Keeps are_entries ds

pub chunks_spelt : (ds : List Descriptor) → first_chunks 64 (length ds) (list_spelling (map fields ds)) ≡ map spelling (map fields ds)
chunks_spelt ds = ap (first_chunks 64 (length ds)) (list_is ds) ∙ chunks_by Descriptor spelt Keeps are_entries ds ∙ sym (map-map spelling fields ds)

-- lists with one spelling are equal
pub one_list_spelling : (ds es : List Descriptor) → list_spelling (map fields ds) ≡ list_spelling (map fields es) → ds ≡ es
one_list_spelling ds es e = one_entries_spelling Descriptor spelt Keeps are_entries ds es (sym (list_is ds) ∙ e ∙ list_is es)

pub sound_from_spelling : (bytes : List ℕ) (ds : List Descriptor) → bytes ≡ list_spelling (map fields ds) → HaveOneOwner (map fields ds) → IsSound Keeps bytes
sound_from_spelling bytes ds e one = sound_by Descriptor spelt Keeps are_entries bytes ds (e ∙ list_is ds) (spelt_owner ds one)

pub sound_or_fault : (bytes : List ℕ) (fault : ListFault) → IsSound Keeps bytes → fault ≢ Memory → IsFirstListFault bytes fault → ⊥
sound_or_fault bytes fault sound other first = sound_or_fault_by Keeps bytes fault sound other first

pub first_list_fault_is_one : (bytes : List ℕ) (f g : ListFault) → f ≢ Memory → g ≢ Memory → IsFirstListFault bytes f → IsFirstListFault bytes g → f ≡ g
first_list_fault_is_one bytes f g nf ng p q = first_by_is_one Keeps bytes f g nf ng p q
