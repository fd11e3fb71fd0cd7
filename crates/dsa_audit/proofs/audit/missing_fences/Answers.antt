use Rattle.std.proofs.Common.{sym, subst, arith}
use Rattle.std.proofs.lemmas.Result.{IfOk-weaker}
use Rattle.dsa_audit.specs.Members.{KnownConflict}
use Rattle.dsa_audit.specs.Steps.{AreLasts}
use Rattle.dsa_audit.proofs.Accepting.{corrected_of, last_before}
use Rattle.dsa_audit.proofs.audit.missing_fences.Goals as goal

pub add_missing-requires-clause-before : goal.add_missing-requires-clause-before
add_missing-requires-clause-before c a b last =
    last_before (KnownConflict c.args.members.now) c.deref.result.now a b (subst (AreLasts (KnownConflict c.args.members.now)) (sym c.deref.ensures.value) c.in_ok-lasts.ensures.lasts) last

pub returns : goal.returns
returns c =
    IfOk-weaker c.add_missing.result _ _ (λ r h.
    corrected_of (KnownConflict c.args.members.now) c.in_ok-lasts.lasts.items c.args.fences.now r.places.items r.fences.items
    (omega (arith, c.in_ok-lasts.ensures.count, c.requires)) c.in_ok-lasts.ensures.lasts (rw (← c.deref.ensures.value) h)) c.add_missing.ensures
