use Rattle.std.proofs.Common.{◌≡◌, ap, sym, ◌∙◌}
use Rattle.dsa_recording.specs.Pairs.{has_key}
use Rattle.dsa_recording.specs.Keys.{key_words}
use Rattle.dsa_recording.specs.Reports.{reported_by}
use Rattle.dsa_recording.proofs.Keyed.{one_key}
use Rattle.dsa_recording.proofs.accepted.is_accepted.Goals as goal

pub returns-in_ok-key-in-Some : goal.returns-in_ok-key-in-Some
returns-in_ok-key-in-Some c =
    let bytes : c.deref.result.now ≡ key_words c.args.all.now c.in-Some.detail = c.deref.ensures ∙ c.in_ok-key-in-Some.ensures in
    let whole : c.has.result ≡ has_key c.args.accepted.now (key_words c.args.all.now c.in-Some.detail) =
    c.has.ensures ∙ ap (has_key c.args.accepted.now) bytes in (
      λ yes. (c.in-Some.detail, c.in-Some.ensures, sym whole ∙ yes),
      λ (d, is, has). whole ∙ (ap (has_key c.args.accepted.now)
          (one_key c.args.all.now (reported_by c.args.report.now) c.args.finding c.in-Some.detail d c.in-Some.ensures is) ∙ has),
    )

pub returns-in-None : goal.returns-in-None
returns-in-None c = (λ yes. absurd cc, λ accepted. absurd (c.in-None.ensures c.requires))
