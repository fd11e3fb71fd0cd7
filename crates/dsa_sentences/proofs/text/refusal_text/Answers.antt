use Rattle.std.proofs.Common.{◌≡◌, ℕ, List, ◌++◌, sym, ap, subst, ◌∙◌}
use Rattle.std.specs.Prelude.{codes}
use Rattle.dsa_sentences.specs.Sentences.{said as said_by, sentence}
use Rattle.dsa_sentences.specs.Texts.{filled, with_inner}
use Rattle.dsa_sentences.proofs.TextLemmas.{alone, both, no_bytes, no_text, some_bytes}
use Rattle.dsa_sentences.proofs.text.refusal_text.Goals as goal

pub returns-then-is_empty : goal.returns-then-is_empty
returns-then-is_empty c =
    let said = c.as_bytes-said.result.now in
    let said_is : said ≡ said_by c.args.number c.args.first = c.as_bytes-said.ensures.value ∙ c.said_of.ensures.value ∙ ap (λ (n : ℕ). said_by n c.args.first) c.from.ensures in
    let none = no_bytes said (sym c.is_empty.ensures ∙ c.if-is_empty.true) in
    subst (λ (s : List ℕ). c.new-text.result.items ≡ filled (with_inner s (sentence c.args.inner)) c.args.first c.args.second) said_is
    (c.new-text.ensures ∙ sym (no_text said (sentence c.args.inner) c.args.first c.args.second none))

pub returns-then-is_empty-2 : goal.returns-then-is_empty-2
returns-then-is_empty-2 c =
    let said = c.as_bytes-said.result.now in
    let inner = c.as_bytes-within.result.now in
    let said_is : said ≡ said_by c.args.number c.args.first = c.as_bytes-said.ensures.value ∙ c.said_of.ensures.value ∙ ap (λ (n : ℕ). said_by n c.args.first) c.from.ensures in
    let inner_is : inner ≡ sentence c.args.inner = c.as_bytes-within.ensures.value ∙ c.sentence_of.ensures.value ∙ ap sentence c.from-2.ensures in
    let none = no_bytes inner (sym c.is_empty-2.ensures ∙ c.if-is_empty-2.true) in
    let written : c.push_filled.new.text.items ≡ filled said c.args.first c.args.second = c.push_filled.ensures.value ∙ ap (λ (t : List ℕ). t ++ filled said c.args.first c.args.second) c.new-text.ensures in
    rw (← said_is, ← inner_is) (written ∙ sym (alone said inner c.args.first c.args.second none))

pub returns : goal.returns
returns c =
    let said = c.as_bytes-said.result.now in
    let inner = c.as_bytes-within.result.now in
    let said_is : said ≡ said_by c.args.number c.args.first = c.as_bytes-said.ensures.value ∙ c.said_of.ensures.value ∙ ap (λ (n : ℕ). said_by n c.args.first) c.from.ensures in
    let inner_is : inner ≡ sentence c.args.inner = c.as_bytes-within.ensures.value ∙ c.sentence_of.ensures.value ∙ ap sentence c.from-2.ensures in
    let some = some_bytes said (sym c.is_empty.ensures ∙ c.if-is_empty.false) in
    let more = some_bytes inner (sym c.is_empty-2.ensures ∙ c.if-is_empty-2.false) in
    let first_part : c.push_filled.new.text.items ≡ filled said c.args.first c.args.second = c.push_filled.ensures.value ∙ ap (λ (t : List ℕ). t ++ filled said c.args.first c.args.second) c.new-text.ensures in
    let colon : c.push_filled-2.new.text.items ≡ filled said c.args.first c.args.second ++ filled (codes ": ") c.args.first c.args.second =
    c.push_filled-2.ensures.value ∙ ap (λ (t : List ℕ). t ++ filled c.as_slice.result.now c.args.first c.args.second) first_part
    ∙ ap (λ (b : List ℕ). filled said c.args.first c.args.second ++ filled b c.args.first c.args.second) c.as_slice.ensures in
    let written : c.push_filled-3.new.text.items ≡ (filled said c.args.first c.args.second ++ filled (codes ": ") c.args.first c.args.second) ++ filled inner c.args.first c.args.second =
    c.push_filled-3.ensures.value ∙ ap (λ (t : List ℕ). t ++ filled inner c.args.first c.args.second) colon in
    rw (← said_is, ← inner_is) (written ∙ sym (both said inner c.args.first c.args.second some more))
