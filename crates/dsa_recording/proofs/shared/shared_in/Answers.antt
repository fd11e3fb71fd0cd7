use Rattle.std.proofs.Common.{◌≡◌, List, Option, ℕ, length, sym, subst}
use Rattle.dsa_audit.specs.Members.{KnownConflict}
use Rattle.dsa_audit.specs.Steps.{AreLasts}
use Rattle.dsa_recording.proofs.Sharing.{shared_of}
use Rattle.dsa_recording.proofs.shared.shared_in.Goals as goal

pub returns : goal.returns
returns c = λ head es are others.
    shared_of head es c.args.records.now c.args.statuses.now c.deref.result.now c.deref-2.result.now c.in_ok-shared.shared.items are others
    (subst (λ (ls : List (Option ℕ)). length ls ≡ length c.args.records.now) (sym c.deref.ensures.value) c.in_ok-firsts.ensures.count)
    (subst (AreLasts (KnownConflict c.args.records.now)) (sym c.deref.ensures.value) c.in_ok-firsts.ensures.lasts)
    (subst (λ (ls : List (Option ℕ)). length ls ≡ length c.args.statuses.now) (sym c.deref-2.ensures.value) c.in_ok-seconds.ensures.count)
    (subst (AreLasts (KnownConflict c.args.statuses.now)) (sym c.deref-2.ensures.value) c.in_ok-seconds.ensures.lasts)
    c.in_ok-shared.ensures.count c.in_ok-shared.ensures.each
