use Rattle.std.proofs.Common.{◌≡◌, ℕ, ◌<◌, inl, List, Some, length, sym, ap, subst, ◌∙◌, arith}
use Rattle.std.proofs.lemmas.Bool.{eqb-false}
use Rattle.dsa_lines.specs.Texts.{before}
use Rattle.dsa_waits.specs.declared.lines.Line.{Line}
use Rattle.dsa_waits.specs.Lines.{SpellsUpTo, after, first_part, line_of}
use Rattle.dsa_waits.proofs.Parts.{before_within, part_length, spelled_more}
use Rattle.dsa_waits.proofs.lines.read_lines.Goals as goal

pub returns-then-text-rest-clause-err : goal.returns-then-text-rest-clause-err
returns-then-text-rest-clause-err c =
    record {
      lines = c.loop-rest.lines.items;
      count = sym (c.len.ensures ∙ c.loop-rest.lines.ok.0);
      left = c.loop-rest.rest.now;
      spelled = c.loop-rest.invariant;
      more =
          let unlike : length c.loop-rest.rest.now ≡ 0 → ⊥ = eqb-false _ _ (sym c.is_empty.ensures ∙ c.loop-rest-test.true) in
          omega (arith, unlike);
      bad = inl (sym (part_length 10 c.loop-rest.rest.now) ∙ ap length (sym c.parted.ensures.first) ∙ c.if-text-rest.true);
    }

pub loop-rest-preserved : goal.loop-rest-preserved
loop-rest-preserved c =
    let is : line_of (first_part 10 c.loop-rest.rest.now) ≡ Some c.in-Some.line =
    ap line_of (sym c.parted.ensures.first) ∙ sym c.line_of.ensures ∙ c.in-Some.is in
    let low : before 10 c.loop-rest.rest.now < length c.loop-rest.rest.now =
    omega (arith, before_within 10 c.loop-rest.rest.now, part_length 10 c.loop-rest.rest.now, ap length c.parted.ensures.first, c.if-text-rest.false) in
    subst (λ (left : List ℕ). SpellsUpTo c.args.text.now c.push.new.self.items left) (sym c.parted.ensures.rest)
    (subst (λ (lines : List Line). SpellsUpTo c.args.text.now lines (after 10 c.loop-rest.rest.now)) (sym c.in_ok-push.ensures.items)
    (spelled_more c.args.text.now c.loop-rest.rest.now c.loop-rest.lines.items c.in-Some.line c.loop-rest.invariant low is))
