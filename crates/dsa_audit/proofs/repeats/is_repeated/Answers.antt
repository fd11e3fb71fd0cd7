use Rattle.std.proofs.Common.{◌≡◌, true, false, refl, sym, ◌∙◌, arith}
use Rattle.std.proofs.lemmas.Slice.Eq.{slice_eq-Decides}
use Rattle.dsa_audit.specs.declared.member.Member.TheVariants.{Known}
use Rattle.dsa_audit.proofs.LastConflicts.{member_there}
use Rattle.dsa_audit.proofs.Repeated.{span_decides, not_false, not_true, so_not, meet_moves, tested, repeated}
use Rattle.dsa_audit.proofs.repeats.is_repeated.Goals as goal

pub returns-then-ne : goal.returns-then-ne
returns-then-ne c = (
  λ (h : false ≡ true). absurd cc,
  λ r.
      let at_i = member_there c.args.members.now c.args.earlier c.index-members-earlier.result (Known c.in-Known-Known.first) (omega arith) c.index-members-earlier.is c.in-Known-Known.is-0 in
      let at_j = member_there c.args.members.now c.args.later c.index-members-later.result (Known c.in-Known-Known.second) (omega arith) c.index-members-later.is c.in-Known-Known.is-1 in
      let t = tested c.args.actions.now c.args.members.now c.args.earlier c.args.later c.in-Known-Known.first c.in-Known-Known.second at_i at_j r in
      absurd (not_true _ (sym c.if-ne.ensures) ((slice_eq-Decides span_decides c.as_slice.result.now c.as_slice-2.result.now _ refl).1 (c.as_slice.ensures.value ∙ t.1 ∙ sym c.as_slice-2.ensures.value))),
)

pub returns-then-ne-2 : goal.returns-then-ne-2
returns-then-ne-2 c = (
  λ (h : false ≡ true). absurd cc,
  λ r.
      let at_i = member_there c.args.members.now c.args.earlier c.index-members-earlier.result (Known c.in-Known-Known.first) (omega arith) c.index-members-earlier.is c.in-Known-Known.is-0 in
      let at_j = member_there c.args.members.now c.args.later c.index-members-later.result (Known c.in-Known-Known.second) (omega arith) c.index-members-later.is c.in-Known-Known.is-1 in
      let t = tested c.args.actions.now c.args.members.now c.args.earlier c.args.later c.in-Known-Known.first c.in-Known-Known.second at_i at_j r in
      absurd (not_true _ (sym c.if-ne-2.ensures) ((slice_eq-Decides span_decides c.as_slice-3.result.now c.as_slice-4.result.now _ refl).1 (c.as_slice-3.ensures.value ∙ t.2 ∙ sym c.as_slice-4.ensures.value))),
)

pub returns-then-not-act_alike : goal.returns-then-not-act_alike
returns-then-not-act_alike c = (
  λ (h : false ≡ true). absurd cc,
  λ r. let same = c.act_alike.ensures.1 r.action in absurd cc,
)

pub returns-then-not-may_repeat_at : goal.returns-then-not-may_repeat_at
returns-then-not-may_repeat_at c = (
  λ (h : false ≡ true). absurd cc,
  λ r. let may = c.may_repeat_at.ensures ∙ r.may_repeat in absurd cc,
)

pub returns : goal.returns
returns c =
    let at_i = member_there c.args.members.now c.args.earlier c.index-members-earlier.result (Known c.in-Known-Known.first) (omega arith) c.index-members-earlier.is c.in-Known-Known.is-0 in
    let at_j = member_there c.args.members.now c.args.later c.index-members-later.result (Known c.in-Known-Known.second) (omega arith) c.index-members-later.is c.in-Known-Known.is-1 in
    let reads = sym c.as_slice.ensures.value ∙ (slice_eq-Decides span_decides c.as_slice.result.now c.as_slice-2.result.now _ refl).0 (not_false _ (sym c.if-ne.ensures)) ∙ c.as_slice-2.ensures.value in
    let writes = sym c.as_slice-3.ensures.value ∙ (slice_eq-Decides span_decides c.as_slice-3.result.now c.as_slice-4.result.now _ refl).0 (not_false _ (sym c.if-ne-2.ensures)) ∙ c.as_slice-4.ensures.value in (
      λ unmet.
          repeated c.args.actions.now c.args.members.now c.args.earlier c.args.later c.in-Known-Known.first c.in-Known-Known.second at_i at_j
          (c.act_alike.ensures.0 c.if-not-act_alike.false) (sym c.may_repeat_at.ensures ∙ c.if-not-may_repeat_at.false) reads writes
          (λ met. not_true _ unmet (c.some_meet.ensures.1 (meet_moves _ _ c.deref.result.now c.deref-2.result.now (sym c.deref.ensures.0) (sym c.deref-2.ensures.0) met))),
      λ r.
          let t = tested c.args.actions.now c.args.members.now c.args.earlier c.args.later c.in-Known-Known.first c.in-Known-Known.second at_i at_j r in
          so_not _ (λ meet. t.3 (meet_moves c.deref.result.now c.deref-2.result.now _ _ c.deref.ensures.0 c.deref-2.ensures.0 (c.some_meet.ensures.0 meet))),
    )
