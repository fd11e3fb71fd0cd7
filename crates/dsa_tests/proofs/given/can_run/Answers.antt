use Rattle.std.proofs.Common.{◌∙◌, refl, sym}
use Rattle.dsa_tests.proofs.given.can_run.Goals as goal

pub returns : goal.returns
returns c = λ t. record {
  few = c.if-not-is_ready.ensures.few refl;
  legal = c.if-not-is_ready.ensures.legal refl;
  in_image = c.holds_all.ensures.ok.0 (sym c.is_ok.ensures.value ∙ t);
  some_engine = c.if-not-is_ready.ensures.some_engine refl;
  few_engines = c.if-not-is_ready.ensures.few_engines refl;
}
