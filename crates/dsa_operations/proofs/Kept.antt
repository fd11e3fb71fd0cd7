-- A spelling keeps each rule, and what keeps each rule meets the profile.
use Rattle.std.proofs.Common.{◌≡◌, ℕ, ◌+◌, ◌/◌, ◌%◌, ◌^◌, ◌<◌, List, Some, Bool, true, false, cond, sym, subst, arith}
use Rattle.dsa_descriptor.specs.declared.fault.FieldFault.{FieldFault}
use Rattle.dsa_descriptor.specs.declared.fault.FieldFault.TheVariants.{Opcode, FlagBits, Reserved, SizeZero, Wrap, RecordAlign, DualcastBits, Overlap, Delta, Expected, RecordMeetsData}
use Rattle.dsa_descriptor.proofs.Bytes.{IsBytes, u16_at-lt, u32_at-lt, u64_at-lt}
use Rattle.dsa_operations.specs.declared.checksum_op.ChecksumOp.{ChecksumOp}
use Rattle.dsa_operations.specs.Faults.{Rule}
use Rattle.dsa_operations.specs.Fields.{ChecksumFields}
use Rattle.dsa_operations.specs.Places.{checksum_at}
use Rattle.dsa_operations.specs.Profile.{AreListedFlags, IsListedChecksum}
use Rattle.dsa_operations.proofs.Spelt.{Stands, flags_there, listed_fits}
use Rattle.dsa_operations.proofs.Entire.{fields_at, named}

owner_bits : (pasid : ℕ) (privileged : Bool) → pasid < 2 ^ 20 → (pasid + cond privileged (2 ^ 31) 0) / 2 ^ 20 % 2 ^ 11 ≡ 0
owner_bits pasid true lt = omega arith
owner_bits pasid false lt = omega arith

pub rules : (f : ChecksumFields) → IsListedChecksum f → (bytes : List ℕ) → Stands f bytes → (fault : FieldFault) → Rule bytes f.op fault
rules f h bytes s Opcode = tt
rules f h bytes s FlagBits = subst AreListedFlags (sym (flags_there f bytes (listed_fits f h) s)) h.flags_listed
rules f h bytes s Reserved =
    (rw s.owner_there (owner_bits f.pasid f.privileged h.pasid_fits), s.destination_there, s.middle_zero, s.given_there, s.gap_zero, s.address_there, s.end_zero)
rules f h bytes s SizeZero = rw s.size_there h.size_positive
rules f h bytes s Wrap = (rw s.record_there h.record_addressable, rw s.size_there h.data_addressable)
rules f h bytes s RecordAlign = rw s.record_there h.record_aligned
rules f h bytes s DualcastBits = tt
rules f h bytes s Overlap = rw s.size_there h.regions_apart
rules f h bytes s Delta = tt
rules f h bytes s Expected = tt
rules f h bytes s RecordMeetsData = rw (s.record_there, s.size_there) h.record_apart

-- the fields at their places meet the profile
pub is_listed : (bytes : List ℕ) (op : ChecksumOp) → IsBytes bytes → checksum_at bytes ≡ Some op → ((fault : FieldFault) → Rule bytes op fault) → IsListedChecksum (fields_at bytes op)
is_listed bytes op fits e kept =
    let n = named bytes op fits e in
    record {
      pasid_fits = omega arith;
      flags_fit = omega arith;
      record_at_fits = u64_at-lt 8 bytes fits;
      size_fits = u32_at-lt 32 bytes fits;
      int_handle_fits = u16_at-lt 36 bytes fits;
      op_fits = n.fits;
      seed_told = n.told;
      flags_listed = kept FlagBits;
      size_positive = kept SizeZero;
      record_addressable = (kept Wrap).0;
      data_addressable = (kept Wrap).1;
      record_aligned = kept RecordAlign;
      regions_apart = kept Overlap;
      record_apart = kept RecordMeetsData;
    }
