use Rattle.std.proofs.Common.{◌≡◌, ◌++◌, ℕ, List, length, subst, sym, ap, ◌∙◌, arith}
use Rattle.std.specs.Prelude.{string_bytes}
use Rattle.dsa_explain.specs.Waits.{chains_of, waits_lines}
use Rattle.dsa_explain.proofs.Chains.{AreWithin, chains_within, longest_within, whole_text}
use Rattle.dsa_explain.proofs.waits.waits_text.Goals as goal

pub saved_text-requires : goal.saved_text-requires
saved_text-requires c =
    let are : c.deref-5.result.now ≡ chains_of c.args.waits.now.slots.items c.args.waits.now.sets.items (length c.args.waits.now.sets.items) =
    c.deref-5.ensures.value ∙ c.in_ok-chains.ensures ∙ (λ i. chains_of (c.deref-3.ensures.value i) (c.deref-4.ensures.value i) (length (c.deref-4.ensures.value i))) in
    let le = longest_within c.deref-5.result.now (length c.args.waits.now.sets.items)
    (subst (λ (xs : List ℕ). AreWithin xs (length c.args.waits.now.sets.items)) (sym are) (chains_within c.args.waits.now.slots.items c.args.waits.now.sets.items (length c.args.waits.now.sets.items)))
    (length c.deref-5.result.now) in
    omega (arith, le, c.longest.ensures, c.len.ensures)

pub returns : goal.returns
returns c =
    whole_text c.args.waits.now.slots.items c.args.waits.now.sets.items c.deref-5.result.now (string_bytes c.push_waits.new.text) (string_bytes c.push_line.new.text) c.deref-6.result.now c.len.result c.longest.result
    (c.deref-5.ensures.value ∙ c.in_ok-chains.ensures ∙ (λ i. chains_of (c.deref-3.ensures.value i) (c.deref-4.ensures.value i) (length (c.deref-4.ensures.value i))))
    c.longest.ensures (omega (arith, c.len.ensures)) (c.deref-6.ensures ∙ c.in_ok-saved.ensures)
    (c.in_ok-push_waits.ensures ∙ ap (λ (xs : List ℕ). xs ++ waits_lines c.deref.result.now c.deref-2.result.now (length c.deref-2.result.now)) c.new-text.ensures.bytes
    ∙ (λ i. waits_lines (c.deref.ensures.value i) (c.deref-2.ensures.value i) (length (c.deref-2.ensures.value i))))
    c.in_ok-push_line.ensures
