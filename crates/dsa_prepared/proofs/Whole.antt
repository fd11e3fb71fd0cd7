-- What the laws of prepared submissions say, from those of single entries and operations.
use Rattle.std.proofs.Common.{◌≡◌, ℕ, List, [], ◌∷◌, length, ◌∙◌}
use Rattle.std.specs.Prelude.{replicate}
use Rattle.std.specs.List.{AllByRecursion}
use Rattle.std.proofs.lemmas.List.{length-replicate}
use Rattle.dsa_descriptor.specs.declared.span.Span.{Span}
use Rattle.dsa_operations.specs.declared.operation.Operation.{Operation}
use Rattle.dsa_prepared.specs.Regions.{relocated, AllPiecesLie, PieceLies}
use Rattle.dsa_prepared.specs.Listed.{IsAlignedThere}
use Rattle.dsa_prepared.specs.Templates.{tied, ties_of, units_of}
use Rattle.dsa_prepared.specs.Preparing.{relocation}
use Rattle.dsa_prepared.specs.Filling.{IsTied}
use Rattle.dsa_prepared.specs.Laws.{FilledIsEmission, AlignedBasesAlign}
use Rattle.dsa_prepared.proofs.Emitted.{portal_filled, area_filled}
use Rattle.dsa_prepared.proofs.Aligned.{Asks, length-units, units_are, ones_are, all_ask, one_aligned, all_tied, tied_each}

pub filled_is_emission : FilledIsEmission
filled_is_emission rs bases staging s operations pieces plan count lie =
    (portal_filled rs bases staging count s plan pieces lie, area_filled rs bases staging count plan pieces lie)

module _ (rs : List Span) (us bases : List ℕ) where
  each_aligned : (os : List Operation) → ((o : Operation) → PieceLies rs o → Asks rs us o → AllByRecursion (IsTied bases) (tied rs o) → IsAlignedThere (relocated (relocation rs bases)) o) →
      AllPiecesLie rs os → AllByRecursion (Asks rs us) os → AllByRecursion (λ o. AllByRecursion (IsTied bases) (tied rs o)) os →
      AllByRecursion (IsAlignedThere (relocated (relocation rs bases))) os
  each_aligned [] one lie asks ties = tt
  each_aligned (o ∷ os) one lie asks ties = (one o lie.0 asks.0 ties.0, each_aligned os one lie.1 asks.1 ties.1)

pub aligned_bases_align : AlignedBasesAlign
aligned_bases_align rs bases operations pieces plan count lie aligned ties =
    let ones : List ℕ = replicate (length rs) 1 in
    let long : length ones ≡ length rs = length-replicate (length rs) 1 in
    let unit_count : length (units_of rs operations) ≡ length rs = length-units rs ones operations ∙ long in
    let units = units_are rs ones operations (ones_are (length rs)) in
    each_aligned rs (units_of rs operations) bases operations (one_aligned rs (units_of rs operations) bases count unit_count units aligned)
    lie (all_ask rs ones operations long lie) (tied_each rs bases operations (all_tied (ties_of rs operations) bases ties))
