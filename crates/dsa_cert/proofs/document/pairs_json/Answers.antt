use Rattle.std.proofs.Common.{◌≤◌, length, map, ap, arith}
use Rattle.std.specs.Prelude.{None}
use Rattle.std.proofs.lemmas.List.{take_all}
use Rattle.std.proofs.lemmas.List.Elements.{All-more}
use Rattle.serde_json.specs.View.{view}
use Rattle.dsa_cert.specs.Document.{PairFits, pair_value}
use Rattle.dsa_cert.proofs.Spelled.{all_written, written_more}
use Rattle.dsa_cert.proofs.document.pairs_json.Goals as goal

pub loop-pair-init : goal.loop-pair-init
loop-pair-init c = record { spelled = ap (map view) c.in_ok-values.ensures.items; fit = λ k d lt. absurd (omega (arith, lt)) }

pub loop-pair-preserved : goal.loop-pair-preserved
loop-pair-preserved c =
    let pairs = c.args.pairs.now in
    let i = c.loop-pair.pair-index in
    record {
      spelled = rw c.in_ok-push.ensures.items (written_more pair_value c.loop-pair.values.items pairs i c.in_ok-pair_json.field-0 None c.loop-pair-test.true c.loop-pair.invariant.spelled c.in_ok-pair_json.ensures.0);
      fit = All-more PairFits pairs i None c.loop-pair-test.true c.loop-pair.invariant.fit c.in_ok-pair_json.ensures.1;
    }

pub returns : goal.returns
returns c =
    let pairs = c.args.pairs.now in
    let at_end : length pairs ≤ c.loop-pair.pair-index = omega arith in (
      all_written pair_value c.loop-pair.values pairs c.loop-pair.pair-index at_end c.loop-pair.invariant.spelled,
      rw (take_all c.loop-pair.pair-index pairs at_end) at c.loop-pair.invariant.fit,
    )
