-- The fields that the words of a line spell.
use Rattle.std.specs.Prelude.{◌≡◌, ℕ, zero, suc, ◌-◌, ◌^◌, ◌==◌, nat_le, true, List, [], ◌∷◌, Option, Some, None, Result, Ok, Err, is_some, option_and_then, bit_and, codes, if◌then◌else◌}
use Rattle.std.specs.Str.{bytes_eq}
use Rattle.dsa_descriptor.specs.declared.op.Op.TheVariants.{Move, Fill, Compare, ComparePattern, ApplyDelta, Dualcast}
use Rattle.dsa_operations.specs.declared.checksum_op.ChecksumOp.TheVariants.{Crc, CopyCrc}
use Rattle.dsa_operations.specs.declared.checksum_op.Seed.{Seed}
use Rattle.dsa_operations.specs.declared.checksum_op.Seed.TheVariants.{Given, At}
use Rattle.dsa_operations.specs.OperationFields.{OperationFields}
use Rattle.dsa_operations.specs.declared.listed_op.ListedOp.{ListedOp}
use Rattle.dsa_operations.specs.declared.listed_op.ListedOp.TheVariants.{Descriptor, Checksum}
use Rattle.dsa_lines.specs.declared.options.Options.{Options}
use Rattle.dsa_lines.specs.Words.{Word, words_of}
use Rattle.dsa_lines.specs.Numbers.{number_of, pattern_of, size_of}
use Rattle.dsa_lines.specs.Options.{no_options, carried_mask, fields_with}

infixl 10 ◌>>=◌
-- the second step over what the first one gives, or nothing if that gives nothing
abbrev pub ◌>>=◌ : {A B : Type 0} → Option A → (A → Option B) → Option B
o >>= f = option_and_then f o

-- the greatest number of so many bits
abbrev pub greatest : ℕ → ℕ
greatest bits = 2 ^ bits - 1

-- the words after this one
abbrev pub after : Word → List Word → Option (List Word)
after word [] = None
after word (w ∷ ws) = if bytes_eq w word then Some ws else None

-- the words after a comma and this name
abbrev pub named : Word → List Word → Option (List Word)
named name words = after (codes ",") words >>= after name

-- a number of at most this, and the words after it
abbrev pub number_at : ℕ → List Word → Option (ℕ × List Word)
number_at most [] = None
number_at most (w ∷ ws) = number_of w >>= λ n. if nat_le n most then Some (n, ws) else None

-- a pattern, and the words after it
abbrev pub pattern_at : List Word → Option (ℕ × List Word)
pattern_at [] = None
pattern_at (w ∷ ws) = pattern_of w >>= λ n. Some (n, ws)

-- a number of bytes below 2 ^ 32, and the words after it
abbrev pub count_at : List Word → Option (ℕ × List Word)
count_at [] = None
count_at (w ∷ ws) = size_of w >>= λ n. if nat_le n (greatest 32) then Some (n, ws) else None

-- a number of bytes, and the words after `bytes`
unfoldable pub size_at : List Word → Option (ℕ × List Word)
size_at words = do
  size ← count_at words
  rest ← after (codes "bytes") size.1
  Some (size.0, rest)

-- ---- operations, each with its size and the words after it

-- what follows `move`
unfoldable pub move_at : List Word → Option (ListedOp × ℕ × List Word)
move_at words = do
  src ← number_at (greatest 64) words
  to ← after (codes "->") src.1
  dst ← number_at (greatest 64) to
  comma ← after (codes ",") dst.1
  size ← size_at comma
  Some (Descriptor (Move src.0 dst.0), size.0, size.1)

-- what follows `fill`
unfoldable pub fill_at : List Word → Option (ListedOp × ℕ × List Word)
fill_at words = do
  dst ← number_at (greatest 64) words
  filled ← after (codes "with") dst.1
  pattern ← pattern_at filled
  comma ← after (codes ",") pattern.1
  size ← size_at comma
  Some (Descriptor (Fill pattern.0 dst.0), size.0, size.1)

-- the size and the expected result of a comparison, and the words after them
unfoldable pub expected_at : List Word → Option (ℕ × ℕ × List Word)
expected_at words = do
  comma ← after (codes ",") words
  size ← size_at comma
  expect ← named (codes "expect") size.1
  bit ← number_at 1 expect
  Some (size.0, bit.0, bit.1)

-- what follows `with` in a comparison of two regions
unfoldable pub compare_region_at : ℕ → List Word → Option (ListedOp × ℕ × List Word)
compare_region_at src words = do
  src2 ← number_at (greatest 64) words
  expected ← expected_at src2.1
  Some (Descriptor (Compare src src2.0 expected.1), expected.0, expected.2)

-- what follows `with pattern`
unfoldable pub compare_pattern_at : ℕ → List Word → Option (ListedOp × ℕ × List Word)
compare_pattern_at src words = do
  pattern ← pattern_at words
  expected ← expected_at pattern.1
  Some (Descriptor (ComparePattern src pattern.0 expected.1), expected.0, expected.2)

-- with the pattern after `pattern`, or with a second region if that word is missing
abbrev pub compare_other_at : ℕ → List Word → Option (List Word) → Option (ListedOp × ℕ × List Word)
compare_other_at src words None = compare_region_at src words
compare_other_at src words (Some rest) = compare_pattern_at src rest

-- what follows `compare`
unfoldable pub compare_at : List Word → Option (ListedOp × ℕ × List Word)
compare_at words = do
  src ← number_at (greatest 64) words
  other ← after (codes "with") src.1
  compare_other_at src.0 other (after (codes "pattern") other)

-- what follows `delta`
unfoldable pub delta_at : List Word → Option (ListedOp × ℕ × List Word)
delta_at words = do
  delta ← number_at (greatest 64) words
  comma ← after (codes ",") delta.1
  record_size ← size_at comma
  to ← after (codes "->") record_size.1
  dst ← number_at (greatest 64) to
  second ← after (codes ",") dst.1
  size ← size_at second
  Some (Descriptor (ApplyDelta delta.0 dst.0 record_size.0), size.0, size.1)

-- what follows `dualcast`
unfoldable pub dualcast_at : List Word → Option (ListedOp × ℕ × List Word)
dualcast_at words = do
  src ← number_at (greatest 64) words
  to ← after (codes "->") src.1
  dst ← number_at (greatest 64) to
  next ← after (codes "and") dst.1
  dst2 ← number_at (greatest 64) next
  comma ← after (codes ",") dst2.1
  size ← size_at comma
  Some (Descriptor (Dualcast src.0 dst.0 dst2.0), size.0, size.1)

-- the value of a seed
abbrev pub seed_value_at : List Word → Option (Seed × List Word)
seed_value_at words = number_at (greatest 32) words >>= λ value. Some (Given value.0, value.1)

-- the address of a seed
abbrev pub seed_address_at : List Word → Option (Seed × List Word)
seed_address_at words = number_at (greatest 64) words >>= λ address. Some (At address.0, address.1)

-- the address after `at`, or the value if that word is missing
abbrev pub seed_by : List Word → Option (List Word) → Option (Seed × List Word)
seed_by words None = seed_value_at words
seed_by words (Some rest) = seed_address_at rest

-- what follows a comma and `seed`; if these words are missing, the seed is 0
abbrev pub seed_or_zero : List Word → Option (List Word) → Option (Seed × List Word)
seed_or_zero words None = Some (Given 0, words)
seed_or_zero words (Some rest) = seed_by rest (after (codes "at") rest)

-- the seed of a checksum, and the words after it
unfoldable pub seed_at : List Word → Option (Seed × List Word)
seed_at words = seed_or_zero words (named (codes "seed") words)

-- what follows `crc`
unfoldable pub crc_at : List Word → Option (ListedOp × ℕ × List Word)
crc_at words = do
  src ← number_at (greatest 64) words
  comma ← after (codes ",") src.1
  size ← size_at comma
  seed ← seed_at size.1
  Some (Checksum (Crc src.0 seed.0), size.0, seed.1)

-- what follows `copy_crc`
unfoldable pub copy_crc_at : List Word → Option (ListedOp × ℕ × List Word)
copy_crc_at words = do
  src ← number_at (greatest 64) words
  to ← after (codes "->") src.1
  dst ← number_at (greatest 64) to
  comma ← after (codes ",") dst.1
  size ← size_at comma
  seed ← seed_at size.1
  Some (Checksum (CopyCrc src.0 dst.0 seed.0), size.0, seed.1)

-- an operation, by its first word
unfoldable pub op_at : List Word → Option (ListedOp × ℕ × List Word)
op_at [] = None
op_at (w ∷ ws) =
    if bytes_eq w (codes "move") then move_at ws else
    if bytes_eq w (codes "fill") then fill_at ws else
    if bytes_eq w (codes "compare") then compare_at ws else
    if bytes_eq w (codes "delta") then delta_at ws else
    if bytes_eq w (codes "dualcast") then dualcast_at ws else
    if bytes_eq w (codes "crc") then crc_at ws else
    if bytes_eq w (codes "copy_crc") then copy_crc_at ws else None

-- ---- options, each at most once and in any order

-- the number after `pasid`
unfoldable pub pasid_at : Options → List Word → Option (Options × List Word)
pasid_at o words =
    if is_some o.pasid then None else
    (number_at (greatest 20) words >>= λ n. Some (record o { pasid = Some n.0 }, n.1))

-- the option `privileged`
unfoldable pub privileged_at : Options → List Word → Option (Options × List Word)
privileged_at o words = if o.privileged then None else Some (record o { privileged = true }, words)

-- the option `check`
unfoldable pub check_at : Options → List Word → Option (Options × List Word)
check_at o words = if o.check then None else Some (record o { check = true }, words)

-- the number after `flags`: no flag that is refused, required or named
unfoldable pub flags_at : Options → List Word → Option (Options × List Word)
flags_at o words =
    if is_some o.flags then None else
    (number_at (greatest 24) words >>= λ n.
    if bit_and n.0 carried_mask == n.0 then Some (record o { flags = Some n.0 }, n.1) else None)

-- the number after `handle`
unfoldable pub handle_at : Options → List Word → Option (Options × List Word)
handle_at o words =
    if is_some o.handle then None else
    (number_at (greatest 16) words >>= λ n. Some (record o { handle = Some n.0 }, n.1))

-- one option more, and the words after it
unfoldable pub option_at : Options → List Word → Option (Options × List Word)
option_at o [] = None
option_at o (w ∷ ws) =
    if bytes_eq w (codes "pasid") then pasid_at o ws else
    if bytes_eq w (codes "privileged") then privileged_at o ws else
    if bytes_eq w (codes "check") then check_at o ws else
    if bytes_eq w (codes "flags") then flags_at o ws else
    if bytes_eq w (codes "handle") then handle_at o ws else None

-- at most so many options more, each after a comma, to the end
unfoldable pub options_at : ℕ → Options → List Word → Option Options
options_at most o [] = Some o
options_at zero o (w ∷ ws) = None
options_at (suc most) o (w ∷ ws) = do
  later ← after (codes ",") (w ∷ ws)
  next ← option_at o later
  options_at most next.0 next.1

-- ---- a line

-- the fields that the words of a line spell: an operation, its record and its options
unfoldable pub fields_of : List Word → Option OperationFields
fields_of words = do
  op ← op_at words
  later ← named (codes "record") op.2
  record_at ← number_at (greatest 64) later
  options ← options_at 5 no_options record_at.1
  Some (fields_with op.0 op.1 record_at.0 options)

-- the line spells these fields
abbrev pub Spells : List ℕ → OperationFields → Type 0
Spells text f = fields_of (words_of text) ≡ Some f

-- What a reader returned, seen by view, is what reading gives.
abbrev pub Gives : {X Y E : Type 0} → (X → Y) → Result X E → Option Y → Type 0
Gives view (Ok x) read = read ≡ Some (view x)
Gives view (Err e) read = read ≡ None
