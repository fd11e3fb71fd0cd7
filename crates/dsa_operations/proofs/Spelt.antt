-- What is at each place of the spelling of a checksum.
use Rattle.std.proofs.Common.{◌≡◌, ◌≢◌, get_or, ℕ, ◌+◌, ◌/◌, ◌%◌, ◌^◌, ◌<◌, ◌≤◌, ap, List, length, Some, Bool, true, false, cond, refl, arith}
use Rattle.std.proofs.lemmas.Nat.{from_le_bytes-to_le_bytes_2, from_le_bytes-to_le_bytes_4, from_le_bytes-to_le_bytes_8}
use Rattle.std.specs.Int.{bit_at}
use Rattle.std.proofs.lemmas.Nat.Bits.{bit_at_and, bit_at_lowest, bit_at-zero}
use Rattle.dsa_descriptor.specs.Places.{u16_at, u32_at, u64_at, flags_at}
use Rattle.dsa_operations.specs.declared.checksum_op.ChecksumOp.{ChecksumOp}
use Rattle.dsa_operations.specs.declared.checksum_op.ChecksumOp.TheVariants.{Crc, CopyCrc}
use Rattle.dsa_operations.specs.declared.checksum_op.Seed.{Seed}
use Rattle.dsa_operations.specs.declared.checksum_op.Seed.TheVariants.{Given, At}
use Rattle.dsa_operations.specs.Fields.{ChecksumFields}
use Rattle.dsa_operations.specs.Operands.{address_field, code_of, destination_field, given_field, given_value, is_in_memory, seed_address, seed_of, source_field}
use Rattle.dsa_operations.specs.Places.{seed_at, checksum_at}
use Rattle.dsa_operations.specs.Profile.{refused_flags, AreListedFlags, FieldsFit, IsListedChecksum, SeedFits, TellsSeed}
use Rattle.dsa_operations.specs.Spelling.{checksum_spelling, operation_word, owner_word}

pub record Stands (f : ChecksumFields) (bytes : List ℕ) : Type 0 where
  pub long : length bytes ≡ 64
  pub owner_there : u32_at 0 bytes ≡ owner_word f
  pub operation_there : u32_at 4 bytes ≡ operation_word f
  pub record_there : u64_at 8 bytes ≡ f.record_at
  pub source_there : u64_at 16 bytes ≡ source_field f.op
  pub destination_there : u64_at 24 bytes ≡ destination_field f.op
  pub size_there : u32_at 32 bytes ≡ f.size
  pub int_handle_there : u16_at 36 bytes ≡ f.int_handle
  pub middle_zero : u16_at 38 bytes ≡ 0
  pub given_there : u32_at 40 bytes ≡ given_field f.op
  pub gap_zero : u32_at 44 bytes ≡ 0
  pub address_there : u64_at 48 bytes ≡ address_field f.op
  pub end_zero : u64_at 56 bytes ≡ 0

owner-lt : (pasid : ℕ) (privileged : Bool) → pasid < 2 ^ 20 → pasid + cond privileged (2 ^ 31) 0 < 2 ^ 32
owner-lt pasid true lt = omega arith
owner-lt pasid false lt = omega arith

pub code-lt : (op : ChecksumOp) → code_of op < 18
code-lt (Crc src seed) = omega arith
code-lt (CopyCrc src dst seed) = omega arith

pub code-le : (op : ChecksumOp) → 16 ≤ code_of op
code-le (Crc src seed) = omega arith
code-le (CopyCrc src dst seed) = omega arith

source-lt : (op : ChecksumOp) → FieldsFit op → source_field op < 2 ^ 64
source-lt (Crc src seed) f = f.0
source-lt (CopyCrc src dst seed) f = f.0

destination-lt : (op : ChecksumOp) → FieldsFit op → destination_field op < 2 ^ 64
destination-lt (Crc src seed) f = omega arith
destination-lt (CopyCrc src dst seed) f = f.1

seed_fits : (op : ChecksumOp) → FieldsFit op → SeedFits (seed_of op)
seed_fits (Crc src seed) f = f.1
seed_fits (CopyCrc src dst seed) f = f.2

given-lt : (seed : Seed) → SeedFits seed → given_value seed < 2 ^ 32
given-lt (Given value) f = f
given-lt (At address) f = omega arith

address-lt : (seed : Seed) → SeedFits seed → seed_address seed < 2 ^ 64
address-lt (Given value) f = omega arith
address-lt (At address) f = f

-- each field fits its place, and the flags tell where the seed is, listed or not
pub record Fits (f : ChecksumFields) : Type 0 where
  pub pasid_fits : f.pasid < 2 ^ 20
  pub flags_fit : f.flags < 2 ^ 24
  pub record_at_fits : f.record_at < 2 ^ 64
  pub size_fits : f.size < 2 ^ 32
  pub int_handle_fits : f.int_handle < 2 ^ 16
  pub op_fits : FieldsFit f.op
  pub seed_told : TellsSeed f.flags f.op

pub listed_fits : (f : ChecksumFields) → IsListedChecksum f → Fits f
listed_fits f h = record {
  pasid_fits = h.pasid_fits;
  flags_fit = h.flags_fit;
  record_at_fits = h.record_at_fits;
  size_fits = h.size_fits;
  int_handle_fits = h.int_handle_fits;
  op_fits = h.op_fits;
  seed_told = h.seed_told;
}

pub stands : (f : ChecksumFields) → Fits f → Stands f (checksum_spelling f)
unfolding checksum_spelling u16_at u32_at u64_at
stands f h = record {
  long = refl;
  owner_there = from_le_bytes-to_le_bytes_4 (owner_word f) (owner-lt f.pasid f.privileged h.pasid_fits);
  operation_there = from_le_bytes-to_le_bytes_4 (operation_word f) (omega (arith, code-lt f.op, h.flags_fit));
  record_there = from_le_bytes-to_le_bytes_8 f.record_at h.record_at_fits;
  source_there = from_le_bytes-to_le_bytes_8 (source_field f.op) (source-lt f.op h.op_fits);
  destination_there = from_le_bytes-to_le_bytes_8 (destination_field f.op) (destination-lt f.op h.op_fits);
  size_there = from_le_bytes-to_le_bytes_4 f.size h.size_fits;
  int_handle_there = from_le_bytes-to_le_bytes_2 f.int_handle h.int_handle_fits;
  middle_zero = refl;
  given_there = from_le_bytes-to_le_bytes_4 (given_field f.op) (given-lt (seed_of f.op) (seed_fits f.op h.op_fits));
  gap_zero = refl;
  address_there = from_le_bytes-to_le_bytes_8 (address_field f.op) (address-lt (seed_of f.op) (seed_fits f.op h.op_fits));
  end_zero = refl;
}

-- byte 7 is the operation code, which is not that of a batch
pub checksum_code : (f : ChecksumFields) → IsListedChecksum f → get_or (checksum_spelling f) 7 0 ≢ 1
unfolding checksum_spelling
checksum_code f h e =
    let code = code-lt f.op in
    let high = code-le f.op in
    let fits : f.flags < 2 ^ 24 = h.flags_fit in
    absurd (omega (arith, e))

-- listed flags have no fence
pub no_fence : (flags : ℕ) → AreListedFlags flags → flags % 2 ≡ 0
no_fence flags listed = omega (arith, bit_at_and flags refused_flags 0, ap (λ (n : ℕ). bit_at n 0) listed.refused, bit_at_lowest flags, bit_at-zero 0)

-- ---- the operation that is read from these places

seed_there : (seed : Seed) (bytes : List ℕ) (told : Bool) → told ≡ is_in_memory seed → u32_at 40 bytes ≡ given_value seed → u64_at 48 bytes ≡ seed_address seed
    → cond told (At (u64_at 48 bytes)) (Given (u32_at 40 bytes)) ≡ seed
seed_there (Given value) bytes told is given address = rw (is, given) refl
seed_there (At place) bytes told is given address = rw (is, address) refl

checksum_there : (op : ChecksumOp) (bytes : List ℕ) → u32_at 4 bytes / 2 ^ 24 ≡ code_of op → u64_at 16 bytes ≡ source_field op → u64_at 24 bytes ≡ destination_field op → seed_at bytes ≡ seed_of op
    → checksum_at bytes ≡ Some op
unfolding checksum_at
checksum_there (Crc src seed) bytes code source destination is = rw (code, source, is) refl
checksum_there (CopyCrc src dst seed) bytes code source destination is = rw (code, source, destination, is) refl

pub flags_there : (f : ChecksumFields) (bytes : List ℕ) → Fits f → Stands f bytes → flags_at bytes ≡ f.flags
flags_there f bytes h s = omega (arith, s.operation_there, h.flags_fit)

pub op_there : (f : ChecksumFields) (bytes : List ℕ) → Fits f → Stands f bytes → checksum_at bytes ≡ Some f.op
op_there f bytes h s =
    let told : TellsSeed (flags_at bytes) f.op = rw (flags_there f bytes h s) h.seed_told in
    checksum_there f.op bytes (omega (arith, s.operation_there, h.flags_fit)) s.source_there s.destination_there
    (seed_there (seed_of f.op) bytes _ told s.given_there s.address_there)
