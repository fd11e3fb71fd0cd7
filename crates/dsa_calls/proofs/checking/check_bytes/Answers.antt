use Rattle.dsa_emission.proofs.OfDescriptors.{emission_as}
use Rattle.dsa_calls.proofs.checking.check_bytes.Goals as goal

pub returns-clause-least : goal.returns-clause-least
returns-clause-least c plan ds emission ok =
    c.check_submitted.ensures.least plan ds (emission_as c.args.settings.now c.args.portal.now c.args.staging.now plan ds emission) ok
