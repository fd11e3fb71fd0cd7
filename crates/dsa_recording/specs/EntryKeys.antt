-- What missing fences have in common, and the parts of all keys (this project's choice). A key has no address and no number
-- of an entry, so findings of one kind in like batches have one key, in another run too.
use Rattle.std.specs.Prelude.{ℕ, ◌+◌, ◌-◌, ◌==◌, nat_lt, Bool, List, [], ◌∷◌, ◌++◌, codes, decimal, length, slice_get, Option, Some, None, if◌then◌else◌}
use Rattle.dsa_descriptor.specs.Places.{u32_at, code_at}
use Rattle.dsa_audit.specs.declared.hazard.Hazards.{Hazards}
use Rattle.dsa_recording.specs.declared.stream.Submission.{Submission}
use Rattle.dsa_recording.specs.EntryWords.{operation_words}
use Rattle.dsa_recording.specs.Furthers.{code_name}

-- a name, or the code of an operation that has none
abbrev pub name_or_code : ℕ → List ℕ → List ℕ
name_or_code code [] = operation_words code
name_or_code code (letter ∷ letters) = letter ∷ letters

-- the name of an operation (codes: linux/idxd.h)
abbrev pub operation_name : ℕ → List ℕ
operation_name code =
    if code == 0x01 then codes "batch" else
    if code == 0x03 then codes "move" else
    if code == 0x04 then codes "fill" else
    if code == 0x05 then codes "compare" else
    if code == 0x06 then codes "compare pattern" else
    if code == 0x08 then codes "delta" else
    if code == 0x09 then codes "dualcast" else
    name_or_code code (code_name code)

-- the operation of an entry, and its size
abbrev pub entry_key : Option (List ℕ) → List ℕ
entry_key None = []
entry_key (Some e) = operation_name (code_at e) ++ (codes ", " ++ (decimal (u32_at 32 e) ++ codes " bytes"))

-- a member of a submission whose first member is entry `first`
abbrev pub member_key : List (List ℕ) → ℕ → ℕ → List ℕ
member_key es first m = codes "; member " ++ (decimal m ++ (codes ": " ++ entry_key (slice_get es (first + m))))

-- a batch of so many members
abbrev pub batch_key : ℕ → List ℕ
batch_key size = codes "; batch of " ++ decimal size

-- an entry of a submission: the descriptor of a batch, a member, or a lone descriptor
abbrev pub key_of_entry : List (List ℕ) → Submission → ℕ → List ℕ
key_of_entry es s e =
    if s.is_batch
    then (if nat_lt e s.first then batch_key s.size else batch_key s.size ++ member_key es s.first (e - s.first))
    else codes "; lone: " ++ entry_key (slice_get es e)

-- a name, if it is asked for
abbrev pub asked_name : Bool → List ℕ → List ℕ
asked_name asked name = if asked then name else []

-- the names of hazards, each after a comma
abbrev pub hazard_names : Hazards → List ℕ
hazard_names hs =
    asked_name hs.read_after_write (codes ", read after write")
    ++ (asked_name hs.write_after_write (codes ", write after write") ++ asked_name hs.write_after_read (codes ", write after read"))

-- a missing fence between members with these hazards
abbrev pub fence_words : Hazards → List ℕ
fence_words hs = codes "missing fence" ++ hazard_names hs

-- the key of one before member `later` of a batch with these entries, which has these hazards with the earlier one
abbrev pub fence_key : List (List ℕ) → ℕ → ℕ → Hazards → List ℕ
fence_key es earlier later hs =
    fence_words hs ++ (batch_key (length es) ++ (member_key es 0 later ++ member_key es 0 earlier))

-- what it begins with, up to the number of the earlier member
abbrev pub fence_front : List (List ℕ) → ℕ → Hazards → List ℕ
fence_front es later hs = fence_words hs ++ (batch_key (length es) ++ (member_key es 0 later ++ codes "; member "))
