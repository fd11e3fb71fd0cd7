use Rattle.std.proofs.Common.{Some, ap, codes, refl, sym, ◌∙◌}
use Rattle.serde_json.specs.Find.{get}
use Rattle.serde_json.specs.View.{view}
use Rattle.dsa_plan.specs.Certificate.{Contents}
use Rattle.dsa_cert.specs.Document.{document_fields}
use Rattle.dsa_cert.proofs.Objects.{object_spelled}
use Rattle.dsa_cert.proofs.OneDocument.{one_document}
use Rattle.dsa_cert.proofs.document.read_json.Goals as goal

pub returns-in_default-number_at-clause-only : goal.returns-in_default-number_at-clause-only
returns-in_default-number_at-clause-only c = λ other e. absurd (c.in_default-number_at.ensures other.version (ap (get (codes "version")) e.0))

pub returns-clause-found : goal.returns-clause-found
returns-clause-found c =
    let prices = rw c.in-Some-2.is at c.in_ok-prices.ensures in
    let pairs = rw c.in-Some-3.is at c.in_ok-pairs.ensures in
    let read : Contents = record { version = c.in-Some.version; prices = c.in-Some-2.prices.items; pairs = c.in-Some-3.pairs.items } in (
      object_spelled (view c.args.value.now) (document_fields read) (c.has_names.ensures.0 c.if-not-has_names.false) refl
          (sym c.in-Some-Some.ensures ∙ ap Some pairs.0, (sym c.in-Some-Some.ensures' ∙ ap Some prices, (c.in-Some.ensures, tt))),
      pairs.1,
    )

pub returns-clause-only : goal.returns-clause-only
returns-clause-only c = λ other e. one_document _ other (sym (returns-clause-found c).0 ∙ e.0)
