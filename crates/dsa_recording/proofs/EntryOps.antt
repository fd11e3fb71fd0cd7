-- What an entry reads and writes whose operation a list may have.
use Rattle.std.proofs.Common.{◌≡◌, ℕ, List, Option, Some, None, ap}
use Rattle.std.specs.Prelude.{unwrap_or}
use Rattle.dsa_descriptor.specs.declared.op.Op.{Op}
use Rattle.dsa_descriptor.specs.Places.{u32_at, op_at}
use Rattle.dsa_operations.specs.declared.checksum_op.ChecksumOp.{ChecksumOp}
use Rattle.dsa_operations.specs.Listed.{either_op, listed_op, listed_sources, listed_targets}
use Rattle.dsa_operations.specs.Places.{checksum_at}
use Rattle.dsa_operations.specs.declared.listed_op.ListedOp.{ListedOp}
use Rattle.dsa_recording.specs.declared.further.Further.{Further}
use Rattle.dsa_recording.specs.Entries.{entry_reads, entry_targets, sources_of, targets_of}
use Rattle.dsa_recording.specs.Furthers.{checksum_or, further_at, other_at}

-- an entry reads what its operation reads, and so with what it writes
reads_by : (o : Option Op) (c : Option ChecksumOp) (other : Option Further) (size : ℕ) (op : ListedOp) → either_op o c ≡ Some op
    → sources_of o size (checksum_or c size other) ≡ listed_sources op size
reads_by (Some o) c other size op is = ap (λ (x : Option ListedOp). listed_sources (unwrap_or x op) size) is
reads_by None (Some c) other size op is = ap (λ (x : Option ListedOp). listed_sources (unwrap_or x op) size) is
reads_by None None other size op is = absurd cc

writes_by : (o : Option Op) (c : Option ChecksumOp) (other : Option Further) (size : ℕ) (op : ListedOp) → either_op o c ≡ Some op
    → targets_of o size (checksum_or c size other) ≡ listed_targets op size
writes_by (Some o) c other size op is = ap (λ (x : Option ListedOp). listed_targets (unwrap_or x op) size) is
writes_by None (Some c) other size op is = ap (λ (x : Option ListedOp). listed_targets (unwrap_or x op) size) is
writes_by None None other size op is = absurd cc

pub entry_reads_by : (e : List ℕ) (op : ListedOp) → listed_op e ≡ Some op → entry_reads e ≡ listed_sources op (u32_at 32 e)
unfolding further_at
entry_reads_by e op is = reads_by (op_at e) (checksum_at e) (other_at e) (u32_at 32 e) op is

pub entry_targets_by : (e : List ℕ) (op : ListedOp) → listed_op e ≡ Some op → entry_targets e ≡ listed_targets op (u32_at 32 e)
unfolding further_at
entry_targets_by e op is = writes_by (op_at e) (checksum_at e) (other_at e) (u32_at 32 e) op is
