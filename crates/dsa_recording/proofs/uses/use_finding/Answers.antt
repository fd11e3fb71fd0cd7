use Rattle.std.proofs.Common.{◌≡◌, ℕ, List, true, false, ap, subst, refl, sym, ◌∙◌}
use Rattle.dsa_recording.specs.Keys.{key_words}
use Rattle.dsa_recording.specs.Pairs.{has_key}
use Rattle.dsa_recording.specs.Reports.{reported_by}
use Rattle.dsa_recording.specs.Uses.{Excuses}
use Rattle.dsa_recording.specs.Words.{is_error, severity_of}
use Rattle.dsa_recording.proofs.Using.{adds_line, adds_none, adds_same, excuses_one, on_ok}
use Rattle.dsa_recording.proofs.uses.use_finding.Goals as goal

pub returns-then-not-has : goal.returns-then-not-has
returns-then-not-has c =
    let accepted = c.args.options.accepted.now in
    let r = reported_by c.args.report.now in
    let own = key_words c.args.all.now c.in-Some.detail in
    let whole : c.has.result ≡ has_key accepted own = c.has.ensures ∙ ap (has_key accepted) (c.deref.ensures ∙ c.in_ok-key.ensures) in
    adds_none (λ key. (has_key accepted key ≡ true) × Excuses c.args.options c.args.all.now r c.args.finding key) c.args.used.now
    (λ key p.
    let same : key ≡ own = excuses_one c.args.options c.args.all.now r c.args.finding c.in-Some.detail key c.in-Some.ensures p.1 in
    let has : c.has.result ≡ true = whole ∙ (ap (has_key accepted) (sym same) ∙ p.0) in
    let no : false ≡ true = sym c.if-not-has.true ∙ has in
    absurd cc)

pub returns : goal.returns
returns c =
    let accepted = c.args.options.accepted.now in
    let r = reported_by c.args.report.now in
    let own = key_words c.args.all.now c.in-Some.detail in
    let P : List ℕ → Type 0 = λ key. (has_key accepted key ≡ true) × Excuses c.args.options c.args.all.now r c.args.finding key in
    let whole : c.has.result ≡ has_key accepted own = c.has.ensures ∙ ap (has_key accepted) (c.deref.ensures ∙ c.in_ok-key.ensures) in
    let harmful : is_error (severity_of c.args.options.denied c.args.finding.kind) ≡ true = sym (c.is_error.ensures ∙ ap is_error c.severity_of.ensures) ∙ c.if-not-is_error.false in
    let text : c.deref-2.result.now ≡ own = c.deref-2.ensures ∙ c.in_ok-key.ensures in
    let here : P c.deref-2.result.now = subst P (sym text) (sym whole ∙ c.if-not-has.false, (harmful, (c.in-Some.detail, c.in-Some.ensures, refl))) in
    on_ok c.add.result _ _
    (λ is. adds_same (λ key. (key ≡ c.deref-2.result.now) × P key) P c.args.used.now c.add.new.self
    (λ key. (λ b. b.1, λ p. (excuses_one c.args.options c.args.all.now r c.args.finding c.in-Some.detail key c.in-Some.ensures p.1 ∙ sym text, p)))
    (adds_line P c.deref-2.result.now c.args.used.now c.add.new.self is here)) c.add.ensures
