-- What an entry of a recording does, in words (this project's choice).
use Rattle.std.specs.Prelude.{ℕ, ◌==◌, List, [], ◌∷◌, ◌++◌, codes, decimal, Option, Some, None, if◌then◌else◌}
use Rattle.dsa_descriptor.specs.declared.op.Op.{Op}
use Rattle.dsa_descriptor.specs.declared.span.Span.{Span}
use Rattle.dsa_descriptor.specs.Places.{u32_at, u64_at, code_at, op_at}
use Rattle.dsa_descriptor.specs.Spans.{span}
use Rattle.dsa_operations.specs.declared.checksum_op.ChecksumOp.{ChecksumOp}
use Rattle.dsa_operations.specs.declared.checksum_op.ChecksumOp.TheVariants.{Crc, CopyCrc}
use Rattle.dsa_operations.specs.declared.checksum_op.Seed.{Seed}
use Rattle.dsa_operations.specs.declared.checksum_op.Seed.TheVariants.{Given, At}
use Rattle.dsa_lines.specs.Numbers.{hex}
use Rattle.dsa_lines.specs.Text.{text_of, op_words}
use Rattle.dsa_recording.specs.declared.further.Further.{Further}
use Rattle.dsa_recording.specs.declared.further.Further.TheVariants.{Drain, CreateDelta, TranslationFetch, Checksum, DifCheck, DifInsert, DifStrip, DifUpdate, CacheFlush}
use Rattle.dsa_recording.specs.Furthers.{further_at, code_name}

-- a number of bytes
abbrev pub bytes_words : ℕ → List ℕ
bytes_words n = decimal n ++ (if n == 1 then codes " byte" else codes " bytes")

-- where the data are, and how many
abbrev pub data_words : Span → List ℕ
data_words s = hex s.first ++ (codes ", " ++ (decimal s.len ++ codes " bytes"))

-- from where to where, and the size of the source
abbrev pub copy_words : Span → Span → List ℕ
copy_words src dst = hex src.first ++ (codes " -> " ++ (hex dst.first ++ (codes ", " ++ (decimal src.len ++ codes " bytes"))))

-- where the seed of a checksum is, if it is in memory
abbrev pub seed_words : Seed → List ℕ
seed_words (Given value) = []
seed_words (At address) = codes ", seed at " ++ hex address

-- a checksum of this size
abbrev pub checksum_words : ChecksumOp → ℕ → List ℕ
checksum_words (Crc src seed) size = codes "CRC " ++ (data_words (span src size) ++ seed_words seed)
checksum_words (CopyCrc src dst seed) size = codes "copy with CRC " ++ (copy_words (span src size) (span dst size) ++ seed_words seed)

-- two sources, where the delta of them is written, and their size
abbrev pub create_words : Span → Span → Span → List ℕ
create_words first second delta = codes "create delta " ++ (hex first.first ++ (codes " with " ++ (hex second.first
    ++ (codes " -> " ++ (hex delta.first ++ (codes ", " ++ (decimal first.len ++ codes " bytes")))))))

-- an operation beyond the six of a descriptor
abbrev pub further_words : Further → List ℕ
further_words Drain = codes "drain"
further_words (CreateDelta first second delta) = create_words first second delta
further_words TranslationFetch = codes "translation fetch"
further_words (Checksum op size) = checksum_words op size
further_words (DifCheck src) = codes "DIF check " ++ data_words src
further_words (DifInsert src dst) = codes "DIF insert " ++ copy_words src dst
further_words (DifStrip src dst) = codes "DIF strip " ++ copy_words src dst
further_words (DifUpdate src dst) = codes "DIF update " ++ copy_words src dst
further_words (CacheFlush flushed) = codes "cache flush " ++ data_words flushed

-- the descriptor of a batch
abbrev pub batch_words : List ℕ → List ℕ
batch_words e = codes "batch of " ++ (decimal (u32_at 32 e) ++ (codes " at " ++ hex (u64_at 16 e)))

-- the name of an operation code in brackets, if it has one
abbrev pub in_brackets : List ℕ → List ℕ
in_brackets [] = []
in_brackets (letter ∷ letters) = codes " (" ++ ((letter ∷ letters) ++ codes ")")

-- an operation by its code, and its name if it has one
abbrev pub operation_words : ℕ → List ℕ
operation_words code = codes "operation " ++ (hex code ++ in_brackets (code_name code))

-- a no-op, a batch, or an operation that is not known
abbrev pub other_words : List ℕ → List ℕ
other_words e =
    if code_at e == 0 then codes "no-op" else
    if code_at e == 1 then batch_words e else
    operation_words (code_at e)

-- an entry of one of these operations, or of none
abbrev pub words_by : Option Op → Option Further → List ℕ → List ℕ
words_by (Some op) further e = text_of (op_words op (u32_at 32 e))
words_by None (Some further) e = further_words further
words_by None None e = other_words e

-- the operation of an entry, with its operands
abbrev pub descriptor_words : List ℕ → List ℕ
descriptor_words e = words_by (op_at e) (further_at e) e
