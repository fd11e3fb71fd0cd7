use Rattle.std.proofs.Common.{subst, sym}
use Rattle.dsa_descriptor.specs.declared.descriptor.Descriptor.{Descriptor}
use Rattle.dsa_descriptor.specs.Descriptors.{fields}
use Rattle.dsa_image.specs.Memory.{HoldsRanges}
use Rattle.dsa_image.proofs.Parcels.{work_held}
use Rattle.dsa_tests.proofs.image.run_by_inputs.Goals as goal

pub gather-inputs-requires-clause-inside : goal.gather-inputs-requires-clause-inside
gather-inputs-requires-clause-inside c = c.holds_ranges.ensures.0 c.if-not-holds_ranges.false

pub gather-requires-clause-inside : goal.gather-requires-clause-inside
gather-requires-clause-inside c = c.holds_ranges-2.ensures.0 c.if-not-holds_ranges-2.false

pub store-requires : goal.store-requires
store-requires c =
    let P : Descriptor → Type 0 = λ d. HoldsRanges c.args.image.now (fields d) in
    work_held c.args.image.now c.gather-inputs.result c.compute-outputs.result c.compute-outputs.ensures c.gather-inputs.ensures.read
    (subst P (sym c.gather-inputs.ensures.descriptor) (c.holds_ranges.ensures.0 c.if-not-holds_ranges.false))
