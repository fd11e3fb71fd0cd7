use Rattle.std.proofs.Common.{◌≡◌, inl, inr, sym, ap, ◌∙◌, subst, set, arith}
use Rattle.std.proofs.lemmas.Bool.{cases_eq}
use Rattle.dsa_tracker.specs.declared.slots.Slots.{Slots}
use Rattle.dsa_tracker.specs.Sets.{Has}
use Rattle.dsa_tracker.specs.State.{waits_of}
use Rattle.dsa_tracker.specs.Table.{IsWithout}
use Rattle.dsa_tracker.proofs.Showing.{waits_set_here, waits_set_other}
use Rattle.dsa_tracker.proofs.board.forget.Goals as goal

pub loop-other-preserved : goal.loop-other-preserved
loop-other-preserved c =
    let taken = c.in-Some.ensures in
    let inside = c.requires.within c.in-Some.other (c.loop-other.invariant.rest c.in-Some.other taken.1) in
    record {
      forgets = λ k in_it gone. elim (cases_eq k c.in-Some.other) [
        | inl same ↦
            let now : waits_of (set c.loop-other.waits c.in-Some.other c.without.result.0) k ≡ c.without.result =
            ap (λ n. waits_of (set c.loop-other.waits c.in-Some.other c.without.result.0) n) same ∙ waits_set_here c.loop-other.waits c.in-Some.other c.without.result (omega (arith, inside, c.loop-other.auto.waits)) in
            let was : waits_of c.loop-other.waits c.in-Some.other ≡ waits_of c.args.waits.now k =
            c.loop-other.invariant.others c.in-Some.other (inr taken.1) ∙ ap (λ n. waits_of c.args.waits.now n) (sym same) in
            subst (λ (w : Slots). IsWithout w c.args.slot (waits_of (set c.loop-other.waits c.in-Some.other c.without.result.0) k)) was
            (subst (λ (w : Slots). IsWithout (waits_of c.loop-other.waits c.in-Some.other) c.args.slot w) (sym now) c.without.ensures)
        | inr apart ↦
            subst (λ (w : Slots). IsWithout (waits_of c.args.waits.now k) c.args.slot w) (sym (waits_set_other c.loop-other.waits c.in-Some.other k c.without.result.0 apart))
            (c.loop-other.invariant.forgets k in_it (λ left. gone ((taken.2 k).1 (left, apart))))
      ];
      others = λ k h. elim (cases_eq k c.in-Some.other) [
        | inl same ↦ elim h [
          | inl out ↦ absurd (out (c.loop-other.invariant.rest k (subst (λ n. Has c.loop-other.rest n) (sym same) taken.1)))
          | inr left ↦ absurd (((taken.2 k).0 left).1 same)
        ]
        | inr apart ↦
            waits_set_other c.loop-other.waits c.in-Some.other k c.without.result.0 apart
            ∙ c.loop-other.invariant.others k (elim h [ inl out ↦ inl out | inr left ↦ inr ((taken.2 k).0 left).0 ])
      ];
      rest = λ k h. c.loop-other.invariant.rest k ((taken.2 k).0 h).0;
    }
