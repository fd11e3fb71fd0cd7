use Rattle.std.proofs.Common.{◌≡◌, ◌<◌, ℕ, List, length, rules, refl, sym, subst, ap, ◌∙◌}
use Rattle.std.specs.Prelude.{All, Option, None}
use Rattle.std.proofs.Math.ListN.{replicate}
use Rattle.std.proofs.lemmas.List.{with_items_is}
use Rattle.dsa_ranges.specs.Pieces.{PieceConflictAt}
use Rattle.dsa_conflicts.specs.declared.touches.Touch.{Touch}
use Rattle.dsa_conflicts.specs.Last.{HasLastsBy}
use Rattle.dsa_conflicts.specs.Overlaps.{ClashAmong, Notes, last_at}
use Rattle.dsa_conflicts.proofs.Overlapped.{none_at, overlaps_are_lasts, touches_within}
use Rattle.dsa_conflicts.proofs.last.lasts_by_overlaps.Goals as goal

pub note_all-requires-clause-known : goal.note_all-requires-clause-known
note_all-requires-clause-known g c =
    let touches = c.args.touches.now in
    let ps = c.args.pieces.now in
    let within : All (λ (t : Touch). t.piece < length ps) touches = touches_within g.T.Touching.reads g.T.Touching.writes ps touches c.requires.known in
    let fit : length c.deref_mut.result.now ≡ length ps = c.deref_mut.ensures.len ∙ c.in_ok-lasts.ensures.len in
    subst (λ (n : ℕ). All (λ (t : Touch). t.piece < n) touches) (sym fit) within

pub returns : goal.returns
returns g c =
    let reads = g.T.Touching.reads in
    let writes = g.T.Touching.writes in
    let ps = c.args.pieces.now in
    let touches = c.args.touches.now in
    let old = c.deref_mut.result.now in
    let new = c.note_all.new.lasts in
    let fit : length old ≡ length ps = c.deref_mut.ensures.len ∙ c.in_ok-lasts.ensures.len in
    let notes : Notes (ClashAmong touches c.args.window (length touches)) old new = c.if-not-note_all.ensures refl in
    let items : c.in_ok-lasts.lasts.items ≡ replicate (length ps) None = search rules in
    let none : (b : ℕ) → last_at old b ≡ None = λ b. ap (λ (xs : List (Option ℕ)). last_at xs b) (c.deref_mut.ensures.value ∙ items) ∙ none_at (length ps) b in
    let lasts = overlaps_are_lasts reads writes ps touches c.requires.known c.args.window c.requires.sorted c.requires.all old new none notes fit in
    subst (λ (xs : List (Option ℕ)). HasLastsBy (PieceConflictAt reads writes ps) (length ps) c.args.window xs) (sym (with_items_is c.in_ok-lasts.lasts new (notes.count ∙ c.deref_mut.ensures.len))) lasts
