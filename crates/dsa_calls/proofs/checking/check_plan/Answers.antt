use Rattle.std.proofs.Common.{refl}
use Rattle.dsa_calls.proofs.checking.check_plan.Goals as goal

pub returns-in-Ok : goal.returns-in-Ok
returns-in-Ok g c =
    let h = (c.in-Ok.ensures.certificate_good c.in-Ok.cost).0 refl in
    record { legal = h.0; version = h.1; good = h.2; is_cost = h.3 }

pub returns-in-Err : goal.returns-in-Err
returns-in-Err g c = (c.in-Err.fault, refl, (c.in-Err.ensures.fault c.in-Err.fault).0 refl)
