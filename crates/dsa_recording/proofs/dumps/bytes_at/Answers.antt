use Rattle.std.proofs.Common.{List, [], Some, None, ℕ, Bor, sym, ◌∙◌, arith}
use Rattle.std.proofs.Math.Dec.{eqb}
use Rattle.std.proofs.lemmas.Bool.{cond-true, cond-false, eq-eqb, ne_eqb}
use Rattle.dsa_recording.proofs.StreamOf.{found_here, found_later, found_nowhere}
use Rattle.dsa_recording.proofs.dumps.bytes_at.Goals as goal

pub returns-then-is_some : goal.returns-then-is_some
returns-then-is_some c =
    found_here (λ (part : Bor (List ℕ)). part.now) c.part_of-part.result c.args.dumps.now c.loop-dump.dump-index c.dump-item.result c.args.at c.args.size
    c.loop-dump-test.true c.dump-item.is c.loop-dump.invariant c.part_of-part.ensures (sym c.is_some.ensures ∙ c.if-is_some.true)

pub loop-dump-preserved : goal.loop-dump-preserved
loop-dump-preserved c =
    found_later (λ (part : Bor (List ℕ)). part.now) c.part_of-part.result c.args.dumps.now c.loop-dump.dump-index c.dump-item.result c.args.at c.args.size
    c.loop-dump-test.true c.dump-item.is c.loop-dump.invariant c.part_of-part.ensures (sym c.is_some.ensures ∙ c.if-is_some.false)

pub returns-then-size-eq0 : goal.returns-then-size-eq0
returns-then-size-eq0 c =
    let nowhere = found_nowhere c.args.dumps.now c.loop-dump.dump-index c.args.at c.args.size (omega (arith, c.loop-dump-test.false)) c.loop-dump.invariant in
    sym (cond-true (eqb c.args.size 0) (Some []) None (eq-eqb c.args.size 0 c.if-size-eq0.true)) ∙ nowhere

pub returns-else-size-eq0 : goal.returns-else-size-eq0
returns-else-size-eq0 c =
    let nowhere = found_nowhere c.args.dumps.now c.loop-dump.dump-index c.args.at c.args.size (omega (arith, c.loop-dump-test.false)) c.loop-dump.invariant in
    sym (cond-false (eqb c.args.size 0) (Some []) None (ne_eqb c.args.size 0 c.if-size-eq0.false)) ∙ nowhere
