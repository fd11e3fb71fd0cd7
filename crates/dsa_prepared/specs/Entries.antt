-- The entries of a submission, with each address as a region and an offset, and the bytes that they give.
use Rattle.std.specs.Prelude.{ℕ, suc, ◌+◌, ◌-◌, ◌*◌, ◌/◌, ◌%◌, ◌==◌, ◌&&◌, Bool, true, false, List, [], ◌∷◌, ◌++◌, drop, length, replicate, slice_index, take, if◌then◌else◌}
use Rattle.std.specs.Int.{w32, w64, to_le_bytes}
use Rattle.std.specs.List.{flat_map}
use Rattle.dsa_descriptor.specs.declared.op.Op.{Op}
use Rattle.dsa_descriptor.specs.declared.op.Op.TheVariants.{Move, Fill, Compare, ComparePattern, ApplyDelta, Dualcast}
use Rattle.dsa_descriptor.specs.declared.span.Span.{Span}
use Rattle.dsa_settings.specs.Plan.{Group}
use Rattle.dsa_descriptor.specs.Fences.{fenced}
use Rattle.dsa_emission.specs.declared.place.Place.{Place}
use Rattle.dsa_operations.specs.declared.checksum_op.ChecksumOp.{ChecksumOp}
use Rattle.dsa_operations.specs.declared.checksum_op.ChecksumOp.TheVariants.{Crc, CopyCrc}
use Rattle.dsa_operations.specs.declared.checksum_op.Seed.{Seed}
use Rattle.dsa_operations.specs.declared.checksum_op.Seed.TheVariants.{Given, At}
use Rattle.dsa_operations.specs.declared.operation.Operation.{Operation}
use Rattle.dsa_operations.specs.declared.operation.Operation.TheVariants as operation
use Rattle.dsa_operations.specs.Operands.{seed_of}
use Rattle.dsa_operations.specs.Operations.{spelling_of}
use Rattle.dsa_prepared.specs.Regions.{has_address}
use Rattle.dsa_prepared.specs.declared.word.Word.{Word}
use Rattle.dsa_prepared.specs.declared.word.Word.TheVariants.{InRegion, InStaging, Fixed}
use Rattle.dsa_prepared.specs.declared.entry.Entry.{Entry}
use Rattle.dsa_prepared.specs.declared.template.Words.{Words}

-- ---- addresses

-- the same place, with one region more before it
abbrev pub one_further : ℕ × ℕ → ℕ × ℕ
one_further p = (suc p.0, p.1)

-- the number of the first region that has the address, and the address's offset in it; for an address that lies in none,
-- the number of regions and the address
abbrev pub place_in : List Span → ℕ → ℕ × ℕ
place_in [] address = (0, address)
place_in (r ∷ rs) address = if has_address r address then (0, address - r.first) else one_further (place_in rs address)

-- the word for an address
abbrev pub word_at : List Span → ℕ → Word
word_at rs address = InRegion (place_in rs address).0 (place_in rs address).1

-- the number that a word gives if the regions have these bases and the staging area this address
abbrev pub word_value : List ℕ → ℕ → Word → ℕ
word_value bases staging (InRegion region offset) = slice_index bases region + offset
word_value bases staging (InStaging offset) = staging + offset
word_value bases staging (Fixed value) = value

-- ---- entries

-- these first eight bytes are those of a checksum that reads its seed: the code 0x10 or 0x11, and the flag 0x010000
-- (specification 341204, CRC generation; linux/idxd.h)
abbrev pub reads_seed : List ℕ → Bool
reads_seed head = (slice_index head 7 / 2 == 8) && (slice_index head 6 % 2 == 1)

-- the word is an address
abbrev pub is_address : Word → Bool
is_address (InRegion region offset) = true
is_address (InStaging offset) = true
is_address (Fixed value) = false

-- bytes 40 to 55: the own word is in bytes 40 to 47, but for the address of a seed, in bytes 48 to 55 (places of
-- linux/idxd.h)
abbrev pub own_bytes : List ℕ → Word → ℕ → List ℕ
own_bytes head own value =
    if is_address own && reads_seed head then replicate 8 0 ++ to_le_bytes w64 value else to_le_bytes w64 value ++ replicate 8 0

-- the 64 bytes that an entry gives (places of linux/idxd.h; the bytes after byte 55 are zeros in every entry)
abbrev pub filled_entry : List ℕ → ℕ → Entry → List ℕ
filled_entry bases staging e =
    e.head
    ++ to_le_bytes w64 (word_value bases staging e.completion)
    ++ to_le_bytes w64 (word_value bases staging e.first)
    ++ to_le_bytes w64 (word_value bases staging e.second)
    ++ e.middle
    ++ own_bytes e.head e.own (word_value bases staging e.own)
    ++ replicate 8 0

-- the bytes of entries, one after another
abbrev pub filled : List ℕ → ℕ → List Entry → List ℕ
filled bases staging entries = flat_map (filled_entry bases staging) entries

-- bytes 16 to 23 of a descriptor
abbrev pub first_word : List Span → Op → Word
first_word rs (Move src dst) = word_at rs src
first_word rs (Fill pattern dst) = Fixed pattern
first_word rs (Compare src src2 expected) = word_at rs src
first_word rs (ComparePattern src pattern expected) = word_at rs src
first_word rs (ApplyDelta delta dst record_size) = word_at rs delta
first_word rs (Dualcast src dst dst2) = word_at rs src

-- bytes 24 to 31 of a descriptor
abbrev pub second_word : List Span → Op → Word
second_word rs (Move src dst) = word_at rs dst
second_word rs (Fill pattern dst) = word_at rs dst
second_word rs (Compare src src2 expected) = word_at rs src2
second_word rs (ComparePattern src pattern expected) = Fixed pattern
second_word rs (ApplyDelta delta dst record_size) = word_at rs dst
second_word rs (Dualcast src dst dst2) = word_at rs dst

-- bytes 40 to 47 of a descriptor
abbrev pub own_word : List Span → Op → Word
own_word rs (Move src dst) = Fixed 0
own_word rs (Fill pattern dst) = Fixed 0
own_word rs (Compare src src2 expected) = Fixed expected
own_word rs (ComparePattern src pattern expected) = Fixed expected
own_word rs (ApplyDelta delta dst record_size) = Fixed record_size
own_word rs (Dualcast src dst dst2) = word_at rs dst2

-- bytes 16 to 23 of a checksum
abbrev pub source_word : List Span → ChecksumOp → Word
source_word rs (Crc src seed) = word_at rs src
source_word rs (CopyCrc src dst seed) = word_at rs src

-- bytes 24 to 31 of a checksum
abbrev pub destination_word : List Span → ChecksumOp → Word
destination_word rs (Crc src seed) = Fixed 0
destination_word rs (CopyCrc src dst seed) = word_at rs dst

-- the seed of a checksum: its value, or the address from which it is read
abbrev pub seed_word : List Span → Seed → Word
seed_word rs (Given value) = Fixed value
seed_word rs (At address) = word_at rs address

-- the words of an operation: bytes 8 to 15, 16 to 23, 24 to 31, and its own
abbrev pub words_of : List Span → Operation → Words
words_of rs (operation.Descriptor d) =
    record { completion = word_at rs d.record_at; first = first_word rs d.op; second = second_word rs d.op; own = own_word rs d.op }
words_of rs (operation.Checksum c) =
    record {
      completion = word_at rs c.record_at;
      first = source_word rs c.op;
      second = destination_word rs c.op;
      own = seed_word rs (seed_of c.op);
    }

-- the entry of a piece, fenced or not
abbrev pub entry_of : List Span → Bool → Operation → Entry
entry_of rs fence piece =
    record {
      head = take 8 (fenced fence (spelling_of piece));
      completion = (words_of rs piece).completion;
      first = (words_of rs piece).first;
      second = (words_of rs piece).second;
      middle = take 8 (drop 32 (fenced fence (spelling_of piece)));
      own = (words_of rs piece).own;
    }

-- the entries of the pieces of a group, each fenced if the group says so
abbrev pub fenced_entries : List Span → Group → List Operation → List Entry
fenced_entries rs [] pieces = []
fenced_entries rs (fence ∷ group) [] = []
fenced_entries rs (fence ∷ group) (piece ∷ pieces) = entry_of rs fence piece ∷ fenced_entries rs group pieces

-- the entry of a batch, whose record and descriptors are in the staging area
abbrev pub batch_entry_of : ℕ → Place → Group → List Operation → Entry
batch_entry_of total place group pieces =
    record {
      head = take 4 (flat_map spelling_of pieces) ++ to_le_bytes w32 0x0100000c;
      completion = InStaging (64 * total + 32 * place.batches);
      first = InStaging (64 * place.batched);
      second = Fixed 0;
      middle = to_le_bytes w32 (length group) ++ replicate 4 0;
      own = Fixed 0;
    }
