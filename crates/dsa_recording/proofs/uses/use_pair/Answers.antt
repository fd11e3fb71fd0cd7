use Rattle.std.proofs.Common.{◌≡◌, true, false, subst, sym, ap, ◌∙◌}
use Rattle.dsa_audit.specs.Members.{AreHazardsBetween}
use Rattle.dsa_recording.specs.EntryKeys.{fence_key}
use Rattle.dsa_recording.specs.Pairs.{has_key}
use Rattle.dsa_recording.specs.Uses.{NeedFence, TakesPairOut}
use Rattle.dsa_recording.proofs.Taking.{pair_apart, pair_taken, pair_with, pair_without}
use Rattle.dsa_recording.proofs.Using.{adds_line, on_ok}
use Rattle.dsa_recording.proofs.uses.use_pair.Goals as goal

pub returns-then-not-need_a_fence : goal.returns-then-not-need_a_fence
returns-then-not-need_a_fence c =
    pair_without c.args.judged.accepted.now c.args.judged.entries.now c.args.judged.audited.now c.args.earlier c.args.later c.args.used.now
    (λ need. let yes = c.need_a_fence.ensures.1 need in let end : true ≡ false = sym yes ∙ c.if-not-need_a_fence.true in absurd cc)

pub returns-then-not-has : goal.returns-then-not-has
returns-then-not-has c =
    let accepted = c.args.judged.accepted.now in
    let es = c.args.judged.entries.now in
    let a = c.args.judged.audited.now in
    let hs = c.hazards_between-hazards.result in
    let are : AreHazardsBetween a.operands.items c.args.earlier c.args.later hs =
    subst (λ l. AreHazardsBetween l c.args.earlier c.args.later hs) c.deref.ensures.value c.hazards_between-hazards.ensures in
    let whole : c.has.result ≡ has_key accepted (fence_key es c.args.earlier c.args.later hs) = c.has.ensures ∙ ap (has_key accepted) (c.deref-2.ensures ∙ c.in_ok-key.ensures) in
    pair_apart accepted es a c.args.earlier c.args.later hs c.args.used.now are (sym whole ∙ c.if-not-has.true)

pub returns : goal.returns
returns c =
    let accepted = c.args.judged.accepted.now in
    let es = c.args.judged.entries.now in
    let a = c.args.judged.audited.now in
    let hs = c.hazards_between-hazards.result in
    let own = fence_key es c.args.earlier c.args.later hs in
    let are : AreHazardsBetween a.operands.items c.args.earlier c.args.later hs =
    subst (λ l. AreHazardsBetween l c.args.earlier c.args.later hs) c.deref.ensures.value c.hazards_between-hazards.ensures in
    let whole : c.has.result ≡ has_key accepted own = c.has.ensures ∙ ap (has_key accepted) (c.deref-2.ensures ∙ c.in_ok-key.ensures) in
    let need : NeedFence a c.args.earlier c.args.later = c.need_a_fence.ensures.0 c.if-not-need_a_fence.false in
    let text : c.deref-3.result.now ≡ own = c.deref-3.ensures ∙ c.in_ok-key.ensures in
    let P = TakesPairOut accepted es a c.args.earlier c.args.later in
    let here : P c.deref-3.result.now = subst P (sym text) (pair_taken accepted es a c.args.earlier c.args.later hs need are (sym whole ∙ c.if-not-has.false)) in
    on_ok c.add.result _ _
    (λ is. pair_with accepted es a c.args.earlier c.args.later hs c.deref-3.result.now c.args.used.now c.add.new.self are text
    (adds_line P c.deref-3.result.now c.args.used.now c.add.new.self is here)) c.add.ensures
