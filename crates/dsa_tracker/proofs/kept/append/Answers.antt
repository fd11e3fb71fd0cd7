use Rattle.std.proofs.Common.{◌↔◌, ◌⊎◌, inl, inr, refl, subst, arith}
use Rattle.std.proofs.lemmas.List.{take_all}
use Rattle.std.proofs.lemmas.Option.{slice_get-get_or}
use Rattle.dsa_descriptor.specs.Spans.{InSome, span}
use Rattle.dsa_tracker.specs.Kept.{InFirst, kept}
use Rattle.dsa_tracker.proofs.Stored.{count_is, counted, in_kept, in_taken, then_same}
use Rattle.dsa_tracker.proofs.kept.append.Goals as goal

pub loop-span-init : goal.loop-span-init
loop-span-init c =
    record {
      spans = λ a.
          let same = in_kept c.args.store.now _ a (count_is c.args.store.now _ refl (omega (arith, c.requires.room))) in
          (λ h. inl (same.1 h), λ h. elim h [ inl before ↦ same.0 before | inr none ↦ absurd none ]);
      count = omega arith;
    }

pub put-count-requires-clause-room : goal.put-count-requires-clause-room
put-count-requires-clause-room c = omega (arith, c.requires.room, c.loop-span.invariant.count, c.loop-span-test.true, c.loop-span.auto.store)

pub put-count-requires-clause-addressable : goal.put-count-requires-clause-addressable
put-count-requires-clause-addressable c = c.requires.addressable c.loop-span.span-index _ (slice_get-get_or c.args.spans.now c.loop-span.span-index (span 0 0) c.loop-span-test.true)

pub loop-span-preserved : goal.loop-span-preserved
loop-span-preserved c =
    record {
      spans = λ a.
          let so_far = c.loop-span.invariant.spans a in
          let here = c.put-count.ensures.spans a in
          let more = in_taken c.args.spans.now c.loop-span.span-index (span 0 0) a c.loop-span-test.true in (
            λ h. elim (here.0 h) [
              | inl before ↦ elim (so_far.0 before) [ inl first ↦ inl first | inr earlier ↦ inr (more.1 (inl earlier)) ]
              | inr now ↦ inr (more.1 (inr now))
            ],
            λ h. elim h [
              | inl first ↦ here.1 (inl (so_far.1 (inl first)))
              | inr some ↦ elim (more.0 some) [ inl earlier ↦ here.1 (inl (so_far.1 (inr earlier))) | inr now ↦ here.1 (inr now) ]
            ],
          );
      count = omega (arith, c.loop-span.invariant.count, c.put-count.ensures.count);
    }

pub returns-clause-spans : goal.returns-clause-spans
returns-clause-spans c = λ a.
    then_same (counted c.loop-span.store c.loop-span.count (omega (arith, c.requires.room, c.loop-span.invariant.count, c.loop-span.auto.store, c.loop-span.auto.span-index-end)) a)
    (subst (λ xs. InFirst c.loop-span.store c.loop-span.count a ↔ (InSome (kept c.args.store.now) a ⊎ InSome xs a)) (take_all c.loop-span.span-index c.args.spans.now c.loop-span-test.false) (c.loop-span.invariant.spans a))
