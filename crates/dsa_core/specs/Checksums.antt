-- What a checksum leaves: memory with its completion record; and the lines that engines do it in.
use Rattle.std.specs.Prelude.{ℕ, zero, suc, ◌*◌, Option, None, List, ◌++◌, drop, take}
use Rattle.std.specs.Int.{from_le_bytes, to_le_bytes, w32, w64}
use Rattle.dsa_checksum.specs.Checksum.{checksum}
use Rattle.dsa_core.specs.Machine.{Machine}
use Rattle.dsa_descriptor.specs.Records.{layout}
use Rattle.dsa_descriptor.specs.Spans.{InSome}
use Rattle.dsa_image.specs.Basics.{copied, plain_record}
use Rattle.dsa_image.specs.Memory.{After, Memory, bytes_from, changed, written}
use Rattle.dsa_image.specs.Parts.{line_width, part_end, quotient_up}
use Rattle.dsa_image.specs.Reads.{source_part}
use Rattle.dsa_operations.specs.declared.checksum_op.ChecksumOp.{ChecksumOp}
use Rattle.dsa_operations.specs.declared.checksum_op.ChecksumOp.TheVariants.{Crc, CopyCrc}
use Rattle.dsa_operations.specs.declared.checksum_op.Seed.{Seed}
use Rattle.dsa_operations.specs.declared.checksum_op.Seed.TheVariants.{At, Given}
use Rattle.dsa_operations.specs.Checksums.{variant_of}
use Rattle.dsa_operations.specs.Data.{checksum_reads, checksum_writes}
use Rattle.dsa_operations.specs.Fields.{ChecksumFields}
use Rattle.dsa_operations.specs.Operands.{seed_of, source_field}

-- ---- the whole checksum

-- the value that the checksum goes on from: given, or the four bytes at an address, the lowest first (specification 341204,
-- CRC generation)
abbrev pub seed_value : Seed → Memory → ℕ
seed_value (Given value) m = value
seed_value (At address) m = from_le_bytes w32 (bytes_from m address 4)

-- the same of a checksum
abbrev pub begun_value : ChecksumFields → Memory → ℕ
begun_value f m = seed_value (seed_of f.op) m

-- the checksum of the source's bytes in the order of their addresses (specification 341204, CRC generation)
abbrev pub checksum_value : ChecksumFields → Memory → ℕ
checksum_value f m = checksum (variant_of f) (begun_value f m) (bytes_from m (source_field f.op) f.size)

-- the new bytes of a copy's destination, from the offset `lo` to below `hi`: those of the source (specification 341204, copy
-- with CRC)
abbrev pub copied_data : ChecksumOp → ℕ → ℕ → Memory → ℕ → Option ℕ
copied_data (Crc src seed) lo hi m a = None
copied_data (CopyCrc src dst seed) lo hi m a = copied m src dst lo hi a

-- the 32 bytes of the completion record: the value in bytes 16 to 23, and the others as in every record of a success
-- (linux/idxd.h)
abbrev pub value_record : ℕ → List ℕ
value_record value = take 16 (layout (plain_record 1)) ++ to_le_bytes w64 value ++ drop 24 (layout (plain_record 1))

-- the status of each listed checksum: 1, success (linux/idxd.h)
abbrev pub checksum_status : ℕ
checksum_status = 1

-- memory after the checksum, its copy and its completion record
abbrev pub checksum_done : ChecksumFields → Memory → Memory
checksum_done f m = changed (changed m (copied_data f.op 0 f.size m)) (written f.record_at (value_record (checksum_value f m)))

-- ---- its lines: small steps, each over memory as it is at that step (this project's choice, as for descriptors)

-- the value that the line at turn t goes on from: the first reads the seed, each other has the value of those before it
abbrev pub value_before : ChecksumFields → ℕ → Memory → ℕ → ℕ
value_before f zero m value = begun_value f m
value_before f (suc t) m value = value

-- a line goes on over its part of the source, and a copy writes this part to its destination
abbrev pub checksum_line : ChecksumFields → ℕ → Memory → ℕ → After ℕ
checksum_line f t m value =
    record {
      memory = changed m (copied_data f.op (line_width * t) (part_end line_width f.size t) m);
      answer = checksum (variant_of f) (value_before f t m value) (source_part m (source_field f.op) f.size t);
    }

-- the finish writes the completion record
abbrev pub checksum_finish : ChecksumFields → Memory → ℕ → After ℕ
checksum_finish f m value = record { memory = changed m (written f.record_at (value_record value)); answer = checksum_status }

-- checksums as pieces of work; the partial answer is the value so far
abbrev pub checksum_machine : Machine ChecksumFields ℕ
checksum_machine =
    record {
      start = 0;
      reads = λ f a. InSome (checksum_reads f) a;
      writes = λ f a. InSome (checksum_writes f) a;
      lines = λ f. quotient_up f.size line_width;
      line = checksum_line;
      finish = checksum_finish;
    }
