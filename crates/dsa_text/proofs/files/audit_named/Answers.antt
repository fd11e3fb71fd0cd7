use Rattle.std.proofs.Common.{◌≡◌, ◌≢◌, ℕ, List, length, ap, subst, ◌∙◌}
use Rattle.dsa_recording.specs.Inputs.{AnswersInput}
use Rattle.dsa_text.specs.Files.{AreFileAnswers, greatest}
use Rattle.dsa_text.specs.Stale.{FindsStale, stale_status}
use Rattle.dsa_text.proofs.Together.{with_lines, without_lines}
use Rattle.dsa_text.proofs.files.audit_named.Goals as goal

pub returns-in-Some-stale : goal.returns-in-Some-stale
returns-in-Some-stale c =
    let are : AreFileAnswers (AnswersInput c.args.options) (length c.args.names.now) c.in-Some.statuses.items c.in-Some.used = rw c.in-Some.is at c.in_ok-statuses.ensures in
    let finds : greatest c.in-Some.statuses.items ≢ 2 → FindsStale c.args.matches.now c.args.options.accepted.now c.in-Some.used c.in_ok-stale.stale =
    subst (λ (xs : List ℕ). greatest xs ≢ 2 → FindsStale c.args.matches.now c.args.options.accepted.now c.in-Some.used c.in_ok-stale.stale) c.deref.ensures.value c.in_ok-stale.ensures in
    let most : c.greatest.result ≡ greatest c.in-Some.statuses.items = c.greatest.ensures ∙ ap greatest c.deref-in-Some-stale.ensures.value in
    with_lines c.args.matches.now c.args.options.accepted.now c.in-Some.used (AnswersInput c.args.options) (length c.args.names.now) c.status.result c.in-Some.statuses.items c.in_ok-stale.stale
    c.in-Some-stale.stale are finds c.in-Some-stale.is
    (c.status.ensures ∙ ap (λ (k : ℕ). stale_status c.in-Some-stale.stale.is_denied c.in-Some-stale.stale.numbers.items k) most)

pub returns : goal.returns
returns c =
    let are : AreFileAnswers (AnswersInput c.args.options) (length c.args.names.now) c.in-Some.statuses.items c.in-Some.used = rw c.in-Some.is at c.in_ok-statuses.ensures in
    let finds : greatest c.in-Some.statuses.items ≢ 2 → FindsStale c.args.matches.now c.args.options.accepted.now c.in-Some.used c.in_ok-stale.stale =
    subst (λ (xs : List ℕ). greatest xs ≢ 2 → FindsStale c.args.matches.now c.args.options.accepted.now c.in-Some.used c.in_ok-stale.stale) c.deref.ensures.value c.in_ok-stale.ensures in
    let most : c.greatest-in-None.result ≡ greatest c.in-Some.statuses.items = c.greatest-in-None.ensures ∙ ap greatest c.deref-in-None.ensures.value in
    without_lines c.args.matches.now c.args.options.accepted.now c.in-Some.used (AnswersInput c.args.options) (length c.args.names.now) c.greatest-in-None.result c.in-Some.statuses.items
    c.in_ok-stale.stale are finds c.in-None.is most
