use Rattle.std.proofs.Common.{sym, subst, arith}
use Rattle.dsa_recording.specs.declared.member.Aspect.TheVariants as aspects
use Rattle.dsa_recording.specs.Submissions.{AreMembers}
use Rattle.dsa_recording.proofs.submission.audit_submission.Goals as goal

pub returns : goal.returns
returns c =
    let shared =
    c.in_ok-shared_in.ensures _ _ (subst (AreMembers aspects.Record _ _) (sym c.deref-10.ensures.value) c.in_ok-members.ensures.records)
    (subst (AreMembers aspects.Status _ _) (sym c.deref-11.ensures.value) c.in_ok-members.ensures.statuses) in
    record {
      is_batch = search;
      is_head_fenced = grind arith;
      is_head_misaligned = grind arith;
      fences = grind arith;
      members = grind arith;
      fallible = c.in_ok-fallible.fallible.items;
      visible = c.in_ok-visible.visible.items;
      are_fallible = grind arith;
      are_visible = grind arith;
      actions = grind arith;
      operands = grind arith;
      shared = grind (arith, shared);
      flaws = grind arith;
      audit = grind arith;
    }
