use Rattle.std.proofs.Common.{IsTrue, sym, subst}
use Rattle.std.specs.Prelude.{◌↔◌}
use Rattle.dsa_descriptor.specs.declared.fault.FieldFault.{FieldFault}
use Rattle.dsa_descriptor.specs.declared.fault.FieldFault.TheVariants.{RecordMeetsData}
use Rattle.dsa_operations.specs.Faults.{Rule}
use Rattle.dsa_operations.proofs.reading.keeps.Goals as goal

pub returns-in-RecordMeetsData : goal.returns-in-RecordMeetsData
returns-in-RecordMeetsData c =
    let tested : IsTrue c.is_apart_from_record.result ↔ Rule c.args.bytes.now c.args.op.now RecordMeetsData =
    rw (c.u32_at-size.ensures, c.u64_at-record_at.ensures) at c.is_apart_from_record.ensures in
    subst (λ (fault : FieldFault). IsTrue c.is_apart_from_record.result ↔ Rule c.args.bytes.now c.args.op.now fault) (sym c.in-RecordMeetsData.is) tested
