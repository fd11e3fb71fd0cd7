use Rattle.std.proofs.Common.{rules}
use Rattle.std.proofs.lemmas.Result.{IfOk-weaker}
use Rattle.dsa_recording.proofs.freed.reduced_under.Goals as goal

pub returns : goal.returns
returns c =
    IfOk-weaker c.needed_fences.result _ _ (λ r h. record {
      fallible = c.in_ok-fallible.fallible.items;
      visible = c.in_ok-visible.visible.items;
      are_fallible = rw (← c.as_slice-members.ensures.value) c.in_ok-fallible.ensures;
      are_visible = search rules;
      reduced = rw (← c.as_slice-members.ensures.value, ← c.deref.ensures.value, ← c.deref-2.ensures.value, ← c.deref-3.ensures.value, ← c.deref-4.ensures.value, ← c.deref-5.ensures.value) h;
    }) c.needed_fences.ensures
