use Rattle.std.proofs.Common.{ℕ, ◌%◌, ◌/◌, ◌^◌, eqb, ap}
use Rattle.dsa_descriptor.specs.declared.fault.FieldFault.TheVariants.{Reserved}
use Rattle.dsa_operations.proofs.Entire.{entire}
use Rattle.dsa_operations.proofs.Kept.{is_listed}
use Rattle.dsa_operations.proofs.checksum.Checksum.spelled.Goals as goal

pub invariant_of-result : goal.invariant_of-result
invariant_of-result c = record {
  listed = rw (c.u32_at-owner.ensures, c.u32_at.ensures, c.u64_at.ensures, c.u32_at-2.ensures, c.u16_at.ensures)
      (is_listed c.args.bytes.now c.args.op c.fits-bytes c.requires.named c.requires.kept);
}

pub returns : goal.returns
returns c =
    entire c.args.bytes.now _ c.fits-bytes c.told-bytes c.requires.named (c.requires.kept Reserved)
    (ap (λ (n : ℕ). n % 2 ^ 20) c.u32_at-owner.ensures) (ap (λ (n : ℕ). eqb (n / 2 ^ 31) 1) c.u32_at-owner.ensures) (ap (λ (n : ℕ). n % 2 ^ 24) c.u32_at.ensures)
    c.u64_at.ensures c.u32_at-2.ensures c.u16_at.ensures
