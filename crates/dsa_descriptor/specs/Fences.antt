-- The flag 0x0001, fence, of the entries of a list: an entry may be read without it, and it is a barrier before the operation.
use Rattle.std.specs.Prelude.{◌≡◌, ◌⊎◌, ℕ, ◌+◌, ◌*◌, ◌/◌, ◌-◌, ◌%◌, ◌==◌, Bool, false, List, [], ◌∷◌, ◌++◌, bit_or, drop, length, map, slice_index, slice_index_or, slice_set, if◌then◌else◌}
use Rattle.std.specs.List.{flat_map, list_any}
use Rattle.dsa_descriptor.specs.declared.descriptor.Descriptor.{Descriptor}
use Rattle.dsa_descriptor.specs.Descriptors.{fields}
use Rattle.dsa_descriptor.specs.Fields.{Fields}
use Rattle.dsa_descriptor.specs.Lists.{entries, list_spelling}
use Rattle.dsa_descriptor.specs.Spelling.{spelling}

-- the flag 0x0001 is set (specification 341204, fence)
abbrev pub is_fenced : List ℕ → Bool
is_fenced bytes = slice_index bytes 4 % 2 == 1

-- the bytes with that flag cleared
abbrev pub unfenced : List ℕ → List ℕ
unfenced bytes = slice_set bytes 4 (slice_index bytes 4 - slice_index bytes 4 % 2)

-- whether each entry of 64 bytes has the flag
abbrev pub fences_of : List ℕ → List Bool
fences_of bytes = map is_fenced (entries bytes)

-- the bytes with that flag cleared in each entry, and what follows the last entry
abbrev pub unfenced_list : List ℕ → List ℕ
unfenced_list bytes = flat_map unfenced (entries bytes) ++ drop (64 * (length bytes / 64)) bytes

-- a barrier before the first operation says nothing
abbrev pub after_first : List Bool → List Bool
after_first [] = []
after_first (mark ∷ marks) = false ∷ marks

-- the marks, if one of them is set; else none
abbrev pub set_marks : List Bool → List Bool
set_marks marks = if list_any (λ mark. mark) marks then marks else []

-- the barriers of the operations that the bytes spell, if there is one: the flag of an entry after the first is one before
-- its operation (this project's choice)
abbrev pub barriers_of : List ℕ → List Bool
barriers_of bytes = set_marks (after_first (fences_of bytes))

-- the bytes with that flag set if asked for
abbrev pub fenced : Bool → List ℕ → List ℕ
fenced fence bytes = if fence then slice_set bytes 4 (bit_or (slice_index bytes 4) 0x0001) else bytes

-- the bytes of entries with barriers, by the bytes that spell each: the flag of each entry after a barrier is set (this
-- project's choice)
unfoldable pub fenced_entries : {E : Type 0} → (E → List ℕ) → List E → List Bool → List ℕ
fenced_entries spelling [] marks = []
fenced_entries spelling (e ∷ es) marks = fenced (slice_index_or marks 0 false) (spelling e) ++ fenced_entries spelling es (drop 1 marks)

-- these bytes are read back: without their fences they spell the entries, and the barriers are those that were marked
abbrev pub EntriesReadBack : {E : Type 0} → (E → List ℕ) → Type 0
EntriesReadBack {E} spelling =
    (es : List E) (marks : List Bool) → (marks ≡ []) ⊎ (length marks ≡ length es) →
    (unfenced_list (fenced_entries spelling es marks) ≡ flat_map spelling es)
    × (barriers_of (fenced_entries spelling es marks) ≡ set_marks (after_first marks))

-- the flag 0x0001, fence, is added if asked for; no listed descriptor has it
abbrev pub with_fence : Bool → Fields → Fields
with_fence fence f = record f { flags = f.flags + (if fence then 0x0001 else 0) }

-- the bytes of a list with barriers: the flag of each operation after a barrier is set
unfoldable pub marked_spelling : List Fields → List Bool → List ℕ
marked_spelling [] marks = []
marked_spelling (f ∷ fs) marks = spelling (with_fence (slice_index_or marks 0 false) f) ++ marked_spelling fs (drop 1 marks)

-- these bytes are read back: without their fences they spell the operations, and the barriers are those that were marked
abbrev pub MarkedListReadsBack : Type 0
MarkedListReadsBack =
    (ds : List Descriptor) (marks : List Bool) → (marks ≡ []) ⊎ (length marks ≡ length ds) →
    (unfenced_list (marked_spelling (map fields ds) marks) ≡ list_spelling (map fields ds))
    × (barriers_of (marked_spelling (map fields ds) marks) ≡ set_marks (after_first marks))

-- the bytes of a descriptor with the flag set are those of the descriptor with a fence
abbrev pub DescriptorsAreFencedAlike : Type 0
DescriptorsAreFencedAlike =
    (d : Descriptor) (fence : Bool) → fenced fence (spelling (fields d)) ≡ spelling (with_fence fence (fields d))

-- ---- a list in which fences are barriers, or faults

-- the bytes as they are read: if fences are barriers, without these
abbrev pub seen_list : Bool → List ℕ → List ℕ
seen_list as_barriers bytes = if as_barriers then unfenced_list bytes else bytes

-- the barriers, if fences are barriers; else none
abbrev pub seen_barriers : Bool → List ℕ → List Bool
seen_barriers as_barriers bytes = if as_barriers then barriers_of bytes else []

-- ---- for private clauses

-- the entry as it is read
abbrev pub seen_entry : Bool → List ℕ → List ℕ
seen_entry as_barriers bytes = if as_barriers then unfenced bytes else bytes
