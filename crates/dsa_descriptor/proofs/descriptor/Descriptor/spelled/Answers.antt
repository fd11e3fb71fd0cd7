use Rattle.std.proofs.Common.{ℕ, ◌%◌, ◌/◌, ◌^◌, eqb, ap, sym, ◌∙◌}
use Rattle.dsa_descriptor.specs.declared.fault.FieldFault.TheVariants.{Opcode}
use Rattle.dsa_descriptor.proofs.Rules.{unnamed}
use Rattle.dsa_descriptor.proofs.Same.{found, is_listed}
use Rattle.dsa_descriptor.proofs.descriptor.Descriptor.spelled.Goals as goal

pub unreachable-requires : goal.unreachable-requires
unreachable-requires c = (unnamed c.args.bytes.now (sym c.op_at.ensures ∙ c.in_default.is)).stands (c.requires Opcode)

pub invariant_of-result : goal.invariant_of-result
invariant_of-result c = record {
  listed = rw (c.u32_at-owner.ensures, c.u32_at.ensures, c.u64_at.ensures, c.u32_at-2.ensures, c.u16_at.ensures)
      (is_listed c.args.bytes.now c.in-Some.op c.fits-bytes c.told-bytes (sym c.op_at.ensures ∙ c.in-Some.is) c.requires);
}

pub returns : goal.returns
returns c =
    found c.args.bytes.now _ c.fits-bytes c.told-bytes (sym c.op_at.ensures ∙ c.in-Some.is) c.requires
    (ap (λ (n : ℕ). n % 2 ^ 20) c.u32_at-owner.ensures) (ap (λ (n : ℕ). eqb (n / 2 ^ 31) 1) c.u32_at-owner.ensures) (ap (λ (n : ℕ). n % 2 ^ 24) c.u32_at.ensures)
    c.u64_at.ensures c.u32_at-2.ensures c.u16_at.ensures
