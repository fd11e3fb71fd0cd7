use Rattle.std.proofs.Common.{◌≡◌, ◌↔◌, ◌/◌, ◌^◌, ◌*◌, ◌+◌, ◌<◌, ◌≤◌, ◌⊎◌, ℕ, Bool, Option, IfSome, inl, inr, true, sym, subst, arith, slice_index}
use Rattle.std.proofs.lemmas.Bool.{cases_eq}
use Rattle.std.specs.Int.{bit_at}
use Rattle.dsa_tracker.specs.Finding.{AreCovered, ConflictsHere}
use Rattle.dsa_tracker.specs.Rows.{IsSought}
use Rattle.dsa_tracker.specs.Sets.{Has}
use Rattle.dsa_tracker.specs.declared.slots.Slots.{Slots}
use Rattle.dsa_tracker.proofs.Noting.{ConflictsBelow, all_low, conflicts_below, covered_still, first_of, found_enough, found_more, has, may_conflict, noted_below, second_of}
use Rattle.dsa_tracker.proofs.RowBits.{noted_still}
use Rattle.dsa_tracker.proofs.marking.note_store.Goals as goal
use Rattle.dsa_tracker.proofs.marking.note_store.Goals.{then-not-is_empty, else-not-is_empty}

pub loop-index-preserved : goal.loop-index-preserved
loop-index-preserved c =
    record {
      found = λ covered k. elim c.if-not-is_empty.branch [
        | then-not-is_empty w ↦
            subst (λ (s : Slots). Has s k ↔ (Has c.args.others.among k × ConflictsBelow c.args.shape.width c.args.stores.now c.args.is_written c.args.store.now (c.loop-index.index + 1) k)) (sym w.found-is)
            (found_more (Has c.args.others.among k) (Has c.loop-index.found k) (Has w.union-found.result k) (Has c.candidates.result k) (C k) c.loop-index.index
            (has c.loop-index.found k) (c.loop-index.invariant.found covered k) (λ h. ((c.candidates.ensures k).0 h).0) (complete covered k) (more k w.slots_in_conflict-here.result w.union-found.result w.slots_in_conflict-here.ensures w.union-found.ensures))
        | else-not-is_empty w ↦
            subst (λ (s : Slots). Has s k ↔ (Has c.args.others.among k × ConflictsBelow c.args.shape.width c.args.stores.now c.args.is_written c.args.store.now (c.loop-index.index + 1) k)) (sym w.found-is)
            (found_enough (Has c.args.others.among k) (Has c.loop-index.found k) (Has c.loop-index.found k) (Has c.candidates.result k) (C k) c.loop-index.index
            (has c.loop-index.found k) (c.loop-index.invariant.found covered k) (complete covered k) (λ h. c.is_empty.ensures.0 w.if-not-is_empty.false k ((c.minus-sought.ensures k).1 h)))
      ];
      noted = λ all i a below from to. elim (cases_eq i c.loop-index.index) [
        | inl here ↦
            c.note_units-noted.ensures.noted (subst (λ (b : Bool). b ≡ true) c.is_some-is_whole.ensures (second_of c.loop-index.is_whole c.is_some-is_whole.result all)) a
            (subst (λ (n : ℕ). slice_index c.args.store.now (2 * n + 1) ≤ a) here from) (subst (λ (n : ℕ). a ≤ slice_index c.args.store.now (2 * n + 2)) here to)
        | inr earlier ↦
            noted_still c.args.shape.grid c.loop-index.rows c.note_units-noted.new.rows c.args.is_written (a / 2 ^ c.args.shape.grid.log2_unit) c.args.slot
            (λ r. c.note_units-noted.ensures.kept r c.args.slot c.requires.few)
            (c.loop-index.invariant.noted (first_of c.loop-index.is_whole c.is_some-is_whole.result all) i a (omega (arith, below, earlier)) from to)
      ];
      kept = λ k s low was. c.note_units-noted.ensures.kept k s low (c.loop-index.invariant.kept k s low was);
    }
  where
    C : ℕ → ℕ → Type 0
    C k i = ConflictsHere c.args.shape.width c.args.stores.now c.args.is_written (slice_index c.args.store.now (2 * i + 1)) (slice_index c.args.store.now (2 * i + 2)) k

    IsFound : ℕ → Type 0
    IsFound n =
        (a s : ℕ) → s < 64 → slice_index c.args.store.now (2 * c.loop-index.index + 1) ≤ a → a ≤ slice_index c.args.store.now (2 * c.loop-index.index + 2) →
        IsSought c.args.shape.grid c.loop-index.rows c.args.is_written (a / 2 ^ c.args.shape.grid.log2_unit) s → 0 < bit_at n s

    complete : AreCovered c.args.shape.width c.args.stores.now c.args.shape.grid c.args.rows.now c.args.others.wide c.args.others.among → (k : ℕ) → Has c.args.others.among k → ConflictsHere c.args.shape.width c.args.stores.now c.args.is_written (slice_index c.args.store.now (2 * c.loop-index.index + 1)) (slice_index c.args.store.now (2 * c.loop-index.index + 2)) k → Has c.candidates.result k
    complete covered k in_it h =
        let low = all_low c.args.others.among (omega arith) k in_it in
        (c.candidates.ensures k).1 (
          in_it,
          may_conflict c.args.shape.width c.args.stores.now c.args.shape.grid c.loop-index.rows c.args.others.wide c.args.is_written
              (slice_index c.args.store.now (2 * c.loop-index.index + 1)) (slice_index c.args.store.now (2 * c.loop-index.index + 2)) k c.note_units-noted.result
              (λ n is a from to sought. subst (λ (o : Option ℕ). IfSome o IsFound) is c.note_units-noted.ensures.found a k low from to sought)
              (covered_still c.args.shape.width c.args.stores.now c.args.shape.grid c.args.rows.now c.loop-index.rows c.args.others.wide c.args.others.wide c.args.others.among c.args.others.among covered
              (λ n h'. h') (λ n h' w. w) (λ r n h'. c.loop-index.invariant.kept r n (all_low c.args.others.among (omega arith) n h')) k in_it)
              h,
        )

    more : (k : ℕ) (here with : Slots) → ((s : ℕ) → Has here s ↔ (Has c.minus-sought.result s × ConflictsHere c.args.shape.width c.args.stores.now c.args.is_written (slice_index c.args.store.now (2 * c.loop-index.index + 1)) (slice_index c.args.store.now (2 * c.loop-index.index + 2)) s)) →
        ((s : ℕ) → Has with s ↔ (Has c.loop-index.found s ⊎ Has here s)) →
        Has with k ↔ (Has c.loop-index.found k ⊎ ((Has c.candidates.result k × (¬ Has c.loop-index.found k)) × ConflictsHere c.args.shape.width c.args.stores.now c.args.is_written (slice_index c.args.store.now (2 * c.loop-index.index + 1)) (slice_index c.args.store.now (2 * c.loop-index.index + 2)) k))
    more k here with exact union = (
      λ h. elim ((union k).0 h) [ inl f ↦ inl f | inr g ↦ let e = (exact k).0 g in inr ((c.minus-sought.ensures k).0 e.0, e.1) ],
      λ h. elim h [ inl f ↦ (union k).1 (inl f) | inr g ↦ (union k).1 (inr ((exact k).1 ((c.minus-sought.ensures k).1 g.0, g.1))) ],
    )

pub returns-clause-found : goal.returns-clause-found
returns-clause-found c = λ covered k.
    let at = c.loop-index.invariant.found covered k in
    let all = conflicts_below c.args.store.now c.loop-index.index (omega (arith, c.count-index-end.ensures, c.loop-index-test.false, c.loop-index.auto.index-end)) c.args.shape.width c.args.stores.now c.args.is_written k in
    (λ h. let was = at.0 h in (was.0, all.0 was.1), λ h. at.1 (h.0, all.1 h.1))

pub returns-clause-noted : goal.returns-clause-noted
returns-clause-noted c = λ whole.
    noted_below c.args.store.now c.loop-index.index (omega (arith, c.count-index-end.ensures, c.loop-index-test.false, c.loop-index.auto.index-end)) c.args.shape.grid c.loop-index.rows c.args.is_written c.args.slot (c.loop-index.invariant.noted whole)
