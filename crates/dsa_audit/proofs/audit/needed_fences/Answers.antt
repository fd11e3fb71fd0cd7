use Rattle.std.proofs.lemmas.Result.{IfOk-weaker}
use Rattle.std.proofs.Common.{[]}
use Rattle.dsa_audit.specs.Audits.{IsReduced}
use Rattle.dsa_audit.specs.Members.{PossibleConflict}
use Rattle.dsa_conflicts.specs.Last.{IsLastOf}
use Rattle.dsa_audit.proofs.OuterLasts.{reduced_of}
use Rattle.dsa_audit.proofs.audit.needed_fences.Goals as goal

pub returns : goal.returns
returns c =
    let P = PossibleConflict c.args.members.now in
    let first : IsReduced (IsLastOf c.in_ok-outers.outers.items) c.args.effects.fallible.now c.args.effects.visible.now [] c.args.unaccepted.now c.in_ok-needed.needed.uses.items c.in_ok-needed.needed.fences.items =
    rw (← c.deref.ensures.value) c.in_ok-needed.ensures in
    IfOk-weaker c.drop_needless-2.result _ _ (λ r h. record {
      uses_before = c.in_ok-needed.needed.uses.items;
      stay = c.in_ok-needed.needed.fences.items;
      needed = reduced_of P c.in_ok-outers.outers.items c.args.unaccepted.now c.in_ok-outers.ensures.count c.in_ok-outers.ensures.outers c.args.effects.fallible.now c.args.effects.visible.now []
          c.in_ok-needed.needed.uses.items c.in_ok-needed.needed.fences.items first;
      held = c.in_ok-held.held.items;
      are_held = rw (← c.deref-2.ensures.value) c.in_ok-held.ensures;
      reduced = reduced_of P c.in_ok-outers-2.outers.items c.args.corrected.now c.in_ok-outers-2.ensures.count c.in_ok-outers-2.ensures.outers c.args.effects.fallible.now c.args.effects.visible.now
          c.in_ok-held.held.items r.uses.items r.fences.items (rw (← c.deref-3.ensures.value, ← c.deref-4.ensures.value) h);
    }) c.drop_needless-2.ensures
