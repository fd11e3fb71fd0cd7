use Rattle.std.proofs.Common.{◌≡◌, ℕ, ◌<◌, ◌/◌, length, max, sym, ap, subst, ◌∙◌, arith}
use Rattle.std.specs.Prelude.{slice_index}
use Rattle.std.proofs.lemmas.Grind.{get_or_default_zero}
use Rattle.dsa_conflicts.specs.Stamps.{IsLatest, IsMost, covers_at, points_at}
use Rattle.dsa_conflicts.proofs.Levels.{latest_from_most}
use Rattle.dsa_conflicts.proofs.stamps.Stamps.latest.Goals as goal

pub most_in_levels-within-requires-clause-sums : goal.most_in_levels-within-requires-clause-sums
most_in_levels-within-requires-clause-sums c = rw (c.deref.ensures.value, c.deref-2.ensures.value) c.requires.stamps.blocks

pub most_in_levels-within-requires-clause-tops_sum : goal.most_in_levels-within-requires-clause-tops_sum
most_in_levels-within-requires-clause-tops_sum c = rw (c.deref-2.ensures.value, c.deref-3.ensures.value) c.requires.stamps.tops

pub returns : goal.returns
returns c =
    let m = c.args.self.now in
    let i = c.args.range.from in
    let fit = c.requires.stamps.covers_fit in
    let places = m.covers.places.items in
    let blocks = m.covers.blocks.items in
    let tops = m.covers.tops.items in
    let in_places : i < length places = omega (arith, c.requires.order, c.requires.bound, fit.places) in
    let in_blocks : i / 64 < length blocks = omega (arith, fit.blocks) in
    let in_tops : i / 64 / 64 < length tops = omega (arith, fit.tops) in
    let place = c.index-place.ensures ∙ get_or_default_zero places i c.index-place.result.now in_places in
    let block = c.index.ensures ∙ get_or_default_zero blocks (i / 64) c.index.result.now in_blocks in
    let top = c.index-2.ensures ∙ get_or_default_zero tops (i / 64 / 64) c.index-2.result.now in_tops in
    let above = c.max-above.ensures ∙ ap (λ (n : ℕ). max n c.index-2.result.now) block ∙ ap (max (slice_index blocks (i / 64))) top in
    let covering : c.max.result ≡ covers_at m i = c.max.ensures ∙ ap (λ (n : ℕ). max n c.max-above.result) place ∙ ap (max (slice_index places i)) above in
    let most : IsMost (points_at m) i c.args.range.to c.most_in_levels-within.result = rw c.deref.ensures.value at c.most_in_levels-within.ensures in
    subst (IsLatest (points_at m) (covers_at m) i c.args.range.to) (sym (c.max-2.ensures ∙ ap (max c.most_in_levels-within.result) covering))
    (latest_from_most (points_at m) (covers_at m) i c.args.range.to c.most_in_levels-within.result most)
