use Rattle.std.proofs.lemmas.Result.{IfOk-weaker}
use Rattle.dsa_emission.specs.EmissionFaults.{IsEmission, IsEmissionAs}
use Rattle.dsa_ranges.specs.Pieces.{descriptors}
use Rattle.dsa_emission.proofs.OfDescriptors.{emission_as, as_emission}
use Rattle.dsa_emission.proofs.reading.read_emission.Goals as goal

pub returns-clause-found : goal.returns-clause-found
returns-clause-found c =
    IfOk-weaker c.read_submitted.result (λ read. IsEmissionAs descriptors c.args.settings.now c.args.portal.now c.args.staging.now read.0 read.1.items)
    (λ read. IsEmission c.args.settings.now c.args.portal.now c.args.staging.now read.0 read.1.items)
    (λ read m. as_emission c.args.settings.now c.args.portal.now c.args.staging.now read.0 read.1.items m) c.read_submitted.ensures.found

pub returns-clause-only : goal.returns-clause-only
returns-clause-only c = λ plan ds m.
    c.read_submitted.ensures.only plan ds (emission_as c.args.settings.now c.args.portal.now c.args.staging.now plan ds m)
