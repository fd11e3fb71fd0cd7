use Rattle.std.proofs.Common.{◌≡◌, ◌+◌, ◌/◌, ℕ, ◌<◌, List, length, refl, sym, ap, subst, ◌∙◌, arith}
use Rattle.std.proofs.Math.ListN.{length-set}
use Rattle.std.specs.Prelude.{slice_index, slice_set}
use Rattle.std.specs.Vec.{with_items}
use Rattle.std.proofs.lemmas.List.{with_items_is}
use Rattle.dsa_conflicts.specs.Stamps.{Covered, covers_at, join}
use Rattle.dsa_conflicts.proofs.Levels.{at_most_covered, set_covered, sums_most, sums_set}
use Rattle.dsa_conflicts.proofs.stamps.Stamps.stamp.Goals as goal
use Rattle.dsa_conflicts.proofs.stamps.Stamps.stamp.Goals.{After-self-5-1}

-- each level as it is put back is what the call left
places_is : (c : After-self-5-1) → (with_items c.args.self.now.covers.places c.cover_levels.new.places).items ≡ c.cover_levels.new.places
places_is c = with_items_is c.args.self.now.covers.places c.cover_levels.new.places (c.cover_levels.auto.places ∙ c.deref_mut.ensures.len)

blocks_is : (c : After-self-5-1) → (with_items c.args.self.now.covers.blocks c.cover_levels.new.blocks).items ≡ c.cover_levels.new.blocks
blocks_is c = with_items_is c.args.self.now.covers.blocks c.cover_levels.new.blocks (c.cover_levels.auto.blocks ∙ c.deref_mut-2.ensures.len)

tops_is : (c : After-self-5-1) → (with_items c.args.self.now.covers.tops c.cover_levels.new.tops).items ≡ c.cover_levels.new.tops
tops_is c = with_items_is c.args.self.now.covers.tops c.cover_levels.new.tops (c.cover_levels.auto.tops ∙ c.deref_mut-3.ensures.len)

abbrev after : After-self-5-1 → ℕ → ℕ
after c = join (slice_index (with_items c.args.self.now.covers.places c.cover_levels.new.places).items)
    (join (slice_index (with_items c.args.self.now.covers.blocks c.cover_levels.new.blocks).items) (slice_index (with_items c.args.self.now.covers.tops c.cover_levels.new.tops).items))

covers : (c : After-self-5-1) → Covered (covers_at c.args.self.now) (after c) c.args.range.from c.args.range.to c.args.stamp
covers c =
    let P : List ℕ → List ℕ → List ℕ → Type 0 = λ xs ys zs. Covered (covers_at c.args.self.now) (join (slice_index xs) (join (slice_index ys) (slice_index zs))) c.args.range.from c.args.range.to c.args.stamp in
    let new = c.cover_levels.new in
    let called : P new.places new.blocks new.tops = rw (c.deref_mut.ensures.value, c.deref_mut-2.ensures.value, c.deref_mut-3.ensures.value) at c.cover_levels.ensures in
    let ws = (with_items c.args.self.now.covers.blocks new.blocks).items in
    let vs = (with_items c.args.self.now.covers.tops new.tops).items in
    subst (λ (xs : List ℕ). P xs ws vs) (sym (places_is c))
    (subst (λ (ys : List ℕ). P new.places ys vs) (sym (blocks_is c)) (subst (λ (zs : List ℕ). P new.places new.blocks zs) (sym (tops_is c)) called))

pub returns-clause-stamps : goal.returns-clause-stamps
returns-clause-stamps c =
    let points = c.args.self.now.points in
    let i = c.args.range.from in
    let fit = c.requires.stamps.points_fit in
    let covers_fit = c.requires.stamps.covers_fit in
    let in_places : i < length points.places.items = omega (arith, c.requires.order, c.requires.bound) in
    let in_blocks : i / 64 < length points.blocks.items = omega (arith, fit.blocks) in
    let in_tops : i / 64 / 64 < length points.tops.items = omega (arith, fit.tops) in
    let at_places = set_covered points.places.items i c.args.stamp in_places in
    let at_blocks = set_covered points.blocks.items (i / 64) c.args.stamp in_blocks in
    let at_tops = set_covered points.tops.items (i / 64 / 64) c.args.stamp in_tops in
    let most = sums_most (slice_index points.places.items) (slice_index points.blocks.items) c.requires.stamps.blocks c.args.stamp c.requires.most.points in
    record {
      points_fit = record { places = refl; blocks = omega (arith, length-set {A = ℕ}, fit.blocks); tops = omega (arith, length-set {A = ℕ}, fit.tops) };
      covers_fit = record {
        places = omega (arith, length-set {A = ℕ}, covers_fit.places, ap length (places_is c), c.cover_levels.auto.places, ap length c.deref_mut.ensures.value);
        blocks = omega (arith, covers_fit.blocks, ap length (places_is c), c.cover_levels.auto.places, ap length c.deref_mut.ensures.value, ap length (blocks_is c), c.cover_levels.auto.blocks, ap length c.deref_mut-2.ensures.value);
        tops = omega (arith, covers_fit.tops, ap length (tops_is c), c.cover_levels.auto.tops, ap length c.deref_mut-3.ensures.value, ap length (blocks_is c), c.cover_levels.auto.blocks, ap length c.deref_mut-2.ensures.value);
      };
      blocks = sums_set (slice_index points.places.items) (slice_index points.blocks.items) c.requires.stamps.blocks c.args.stamp c.requires.most.points
          (slice_index (slice_set points.places.items i c.args.stamp)) (slice_index (slice_set points.blocks.items (i / 64) c.args.stamp)) i at_places at_blocks;
      tops = sums_set (slice_index points.blocks.items) (slice_index points.tops.items) c.requires.stamps.tops c.args.stamp most
          (slice_index (slice_set points.blocks.items (i / 64) c.args.stamp)) (slice_index (slice_set points.tops.items (i / 64 / 64) c.args.stamp)) (i / 64) at_blocks at_tops;
    }

pub returns-clause-most : goal.returns-clause-most
returns-clause-most c =
    let points = c.args.self.now.points in
    let i = c.args.range.from in
    let in_places : i < length points.places.items = omega (arith, c.requires.order, c.requires.bound) in
    record {
      points = at_most_covered (slice_index points.places.items) (slice_index (slice_set points.places.items i c.args.stamp)) i (i + 1) c.args.stamp c.requires.most.points (set_covered points.places.items i c.args.stamp in_places);
      covers = at_most_covered (covers_at c.args.self.now) (after c) c.args.range.from c.args.range.to c.args.stamp c.requires.most.covers (covers c);
    }

pub returns-clause-covers : goal.returns-clause-covers
returns-clause-covers c = covers c

pub cover_levels-requires-clause-most : goal.cover_levels-requires-clause-most
cover_levels-requires-clause-most c = rw (c.deref_mut.ensures.value, c.deref_mut-2.ensures.value, c.deref_mut-3.ensures.value) c.requires.most.covers

pub returns-clause-points : goal.returns-clause-points
returns-clause-points c =
    let in_places : c.args.range.from < length c.args.self.now.points.places.items = omega (arith, c.requires.order, c.requires.bound) in
    set_covered c.args.self.now.points.places.items c.args.range.from c.args.stamp in_places
