-- The fields of a checksum, as a value of their own: definitions are about these, and a checksum has them.
use Rattle.std.specs.Prelude.{ℕ, Bool}
use Rattle.dsa_operations.specs.declared.checksum_op.ChecksumOp.{ChecksumOp}

-- the owner's PASID and privilege, the flags, the address of the completion record, the transfer size, the interrupt
-- handle, and the operation with the fields of its own (specification 341204, descriptor format)
pub record ChecksumFields : Type 0 where
  pub pasid : ℕ
  pub privileged : Bool
  pub flags : ℕ
  pub record_at : ℕ
  pub size : ℕ
  pub int_handle : ℕ
  pub op : ChecksumOp
