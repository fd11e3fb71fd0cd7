-- The canonical line.
use Rattle.std.specs.Prelude.{ℕ, ◌==◌, Bool, List, [], ◌∷◌, ◌++◌, codes, decimal, if◌then◌else◌}
use Rattle.dsa_descriptor.specs.declared.op.Op.{Op}
use Rattle.dsa_descriptor.specs.declared.op.Op.TheVariants.{Move, Fill, Compare, ComparePattern, ApplyDelta, Dualcast}
use Rattle.dsa_operations.specs.declared.checksum_op.ChecksumOp.{ChecksumOp}
use Rattle.dsa_operations.specs.declared.checksum_op.ChecksumOp.TheVariants.{Crc, CopyCrc}
use Rattle.dsa_operations.specs.declared.checksum_op.Seed.{Seed}
use Rattle.dsa_operations.specs.declared.checksum_op.Seed.TheVariants.{Given, At}
use Rattle.dsa_operations.specs.OperationFields.{OperationFields}
use Rattle.dsa_operations.specs.OperationFields.OperationFields.{OfDescriptor, OfChecksum}
use Rattle.dsa_lines.specs.Words.{Word}
use Rattle.dsa_lines.specs.Numbers.{hex, pattern_word}
use Rattle.dsa_lines.specs.Options.{carried_flags, writes_check}

-- an operation that makes no checksum, and its size
abbrev pub op_words : Op → ℕ → List Word
op_words (Move src dst) size = codes "move" ∷ hex src ∷ codes "->" ∷ hex dst ∷ codes "," ∷ decimal size ∷ codes "bytes" ∷ []
op_words (Fill pattern dst) size = codes "fill" ∷ hex dst ∷ codes "with" ∷ pattern_word pattern ∷ codes "," ∷ decimal size ∷ codes "bytes" ∷ []
op_words (Compare src src2 expected) size = codes "compare" ∷ hex src ∷ codes "with" ∷ hex src2 ∷ codes "," ∷ decimal size ∷ codes "bytes" ∷ codes "," ∷ codes "expect" ∷ decimal expected ∷ []
op_words (ComparePattern src pattern expected) size = codes "compare" ∷ hex src ∷ codes "with" ∷ codes "pattern" ∷ pattern_word pattern ∷ codes "," ∷ decimal size ∷ codes "bytes" ∷ codes "," ∷ codes "expect" ∷ decimal expected ∷ []
op_words (ApplyDelta delta dst record_size) size = codes "delta" ∷ hex delta ∷ codes "," ∷ decimal record_size ∷ codes "bytes" ∷ codes "->" ∷ hex dst ∷ codes "," ∷ decimal size ∷ codes "bytes" ∷ []
op_words (Dualcast src dst dst2) size = codes "dualcast" ∷ hex src ∷ codes "->" ∷ hex dst ∷ codes "and" ∷ hex dst2 ∷ codes "," ∷ decimal size ∷ codes "bytes" ∷ []

-- the seed of a checksum: a value, or the address from which it is read
abbrev pub seed_words : Seed → List Word
seed_words (Given value) = codes "seed" ∷ hex value ∷ []
seed_words (At address) = codes "seed" ∷ codes "at" ∷ hex address ∷ []

-- the size of a checksum's operation, and its seed
abbrev pub sized_words : ℕ → Seed → List Word
sized_words size seed = codes "," ∷ decimal size ∷ codes "bytes" ∷ codes "," ∷ seed_words seed

-- an operation that makes a checksum, its size and its seed
abbrev pub checksum_words : ChecksumOp → ℕ → List Word
checksum_words (Crc src seed) size = codes "crc" ∷ hex src ∷ sized_words size seed
checksum_words (CopyCrc src dst seed) size = codes "copy_crc" ∷ hex src ∷ codes "->" ∷ hex dst ∷ sized_words size seed

-- the operation and its size
abbrev pub operation_words : OperationFields → List Word
operation_words (OfDescriptor f) = op_words f.op f.size
operation_words (OfChecksum f) = checksum_words f.op f.size

-- an option with a number is written if that is not 0
abbrev pub number_option : Word → ℕ → List Word
number_option name n = if n == 0 then [] else (codes "," ∷ name ∷ decimal n ∷ [])

-- an option without a number, if it is set
abbrev pub name_option : Word → Bool → List Word
name_option name stands = if stands then (codes "," ∷ name ∷ []) else []

-- the options, in their order
abbrev pub option_words : ℕ → Bool → ℕ → ℕ → List Word
option_words pasid privileged flags int_handle =
    number_option (codes "pasid") pasid
    ++ (name_option (codes "privileged") privileged
    ++ (name_option (codes "check") (writes_check flags)
    ++ (number_option (codes "flags") (carried_flags flags)
    ++ number_option (codes "handle") int_handle)))

-- what comes after the operation: its record and its options
abbrev pub later_words : ℕ → ℕ → Bool → ℕ → ℕ → List Word
later_words record_at pasid privileged flags int_handle =
    codes "," ∷ codes "record" ∷ hex record_at ∷ option_words pasid privileged flags int_handle

-- the same of these fields
abbrev pub fields_later : OperationFields → List Word
fields_later (OfDescriptor f) = later_words f.record_at f.pasid f.privileged f.flags f.int_handle
fields_later (OfChecksum f) = later_words f.record_at f.pasid f.privileged f.flags f.int_handle

-- the words of a canonical line
abbrev pub line_words : OperationFields → List Word
line_words f = operation_words f ++ fields_later f

-- a blank before each word but a comma
abbrev pub spaced : Word → List ℕ
spaced [] = []
spaced (c ∷ cs) = if c == 44 then c ∷ cs else 32 ∷ c ∷ cs

-- words with what is before each
abbrev pub tail_text : List Word → List ℕ
tail_text [] = []
tail_text (w ∷ ws) = spaced w ++ tail_text ws

-- the text of words
abbrev pub text_of : List Word → List ℕ
text_of [] = []
text_of (w ∷ ws) = w ++ tail_text ws

-- the canonical line of the fields
unfoldable pub line_text : OperationFields → List ℕ
line_text f = text_of (line_words f)
