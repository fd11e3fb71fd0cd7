use Rattle.std.proofs.Common.{◌≡◌, ◌+◌, ◌*◌, ◌%◌, ◌≤◌, ◌&&◌, Bool, length, take, eqb, not, true, false, sym, ap, ◌∙◌, arith, below_more, vec_len, vec_capacity}
use Rattle.std.specs.Prelude.{IfSome}
use Rattle.std.specs.List.{flat_map}
use Rattle.std.proofs.lemmas.Bool.{eqb-true, eqb-false}
use Rattle.dsa_descriptor.specs.Fences.{seen_list}
use Rattle.dsa_descriptor.proofs.Seen.{fenced_all, noted_more, seen_all, seen_field, seen_length, seen_mixed, seen_sound, seen_sound_all, seen_spelt}
use Rattle.dsa_descriptor.proofs.reading_entries.read_seen_entries.Given.{Over}
use Rattle.dsa_descriptor.proofs.reading_entries.read_seen_entries.Goals as goal
use Rattle.dsa_descriptor.proofs.reading_entries.read_seen_entries.Goals.{After-has_fence_too-fenced, in-Some, in_default}

pub returns-then-not-is_empty-clause-err : goal.returns-then-not-is_empty-clause-err
returns-then-not-is_empty-clause-err g c =
    let some = eqb-false _ _ (sym c.is_empty.ensures ∙ c.if-not-is_empty.true) in
    seen_length _ _ _ c.are_entries.ensures (not (eqb g.row.FENCED 0)) c.args.bytes.now (λ e. some (c.as_chunks.ensures.back_len ∙ e))

pub returns-in-Err-clause-err : goal.returns-in-Err-clause-err
returns-in-Err-clause-err g c =
    let whole : length c.args.bytes.now % 64 ≡ 0 = sym c.as_chunks.ensures.back_len ∙ eqb-true _ _ (sym c.is_empty.ensures ∙ c.if-not-is_empty.false) in
    seen_field _ _ _ c.are_entries.ensures (not (eqb g.row.FENCED 0)) c.args.bytes.now c.as_chunks.result.0.now c.as_chunks.ensures.front c.loop-index.index c.loop-index-test.true
    c.in-Err.fault whole c.loop-index.invariant.sound c.in-Err.ensures.fault

pub returns-then-not-agree_on_owner-clause-err : goal.returns-then-not-agree_on_owner-clause-err
returns-then-not-agree_on_owner-clause-err g c =
    let whole : length c.args.bytes.now % 64 ≡ 0 = sym c.as_chunks.ensures.back_len ∙ eqb-true _ _ (sym c.is_empty.ensures ∙ c.if-not-is_empty.false) in
    seen_mixed _ _ _ c.are_entries.ensures (not (eqb g.row.FENCED 0)) c.args.bytes.now c.as_chunks.result.0.now c.as_chunks.ensures.front c.loop-index.index c.loop-index-test.true
    c.in-Ok.read c.in-Ok.ensures.found whole c.loop-index.invariant.sound
    (λ agree. let no : false ≡ true = sym c.if-not-agree_on_owner.true ∙ c.agree_on_owner.ensures.1 agree in absurd cc)

spelt_next : (g : Over) (c : After-has_fence_too-fenced g) → IfSome c.match-list-3.list (λ list. flat_map g.E.Entry.spelling list.items ≡ take (64 * (c.loop-index.index + 1)) (seen_list (not (eqb g.row.FENCED 0)) c.args.bytes.now))
spelt_next g c =
    let bytes = c.args.bytes.now in
    let t = (not (eqb g.row.FENCED 0)) in
    let i = c.loop-index.index in
    elim c.match-list-3.branch [
      | in-Some w ↦
          let so_far : flat_map g.E.Entry.spelling w.in-Some.list.items ≡ take (64 * i) (seen_list t bytes) = rw w.in-Some.is at c.loop-index.invariant.spelt in
          rw w.list-is (
          ap (flat_map g.E.Entry.spelling) w.push_reserved.ensures.items
          ∙ seen_spelt _ _ _ c.are_entries.ensures t bytes c.as_chunks.result.0.now c.as_chunks.ensures.front i c.loop-index-test.true c.in-Ok.read c.in-Ok.ensures.found w.in-Some.list.items so_far
          )
      | in_default w ↦ rw (w.list-is, w.in_default.is) tt
    ]

room_next : (g : Over) (c : After-has_fence_too-fenced g) → IfSome c.match-list-3.list (λ list. (vec_len list ≡ c.loop-index.index + 1) × (vec_capacity list ≡ length c.as_chunks.result.0.now))
room_next g c = elim c.match-list-3.branch [
  | in-Some w ↦
      let room : (vec_len w.in-Some.list ≡ c.loop-index.index) × (vec_capacity w.in-Some.list ≡ length c.as_chunks.result.0.now) = rw w.in-Some.is at c.loop-index.invariant.room in
      rw w.list-is (omega (arith, room.0, w.push_reserved.ensures.len), w.push_reserved.ensures.capacity ∙ room.1)
  | in_default w ↦ rw (w.list-is, w.in_default.is) tt
]

pub loop-index-preserved : goal.loop-index-preserved
loop-index-preserved g c = record {
  sound = below_more _ _ c.loop-index.invariant.sound
      (seen_sound _ _ _ c.are_entries.ensures (not (eqb g.row.FENCED 0)) c.args.bytes.now c.as_chunks.result.0.now c.as_chunks.ensures.front c.loop-index.index c.loop-index-test.true
      c.in-Ok.read c.in-Ok.ensures.found (c.agree_on_owner.ensures.0 c.if-not-agree_on_owner.false));
  spelt = spelt_next g c;
  noted = c.has_fence_too-fenced.ensures
      ∙ noted_more (not (eqb g.row.FENCED 0)) c.as_chunks.result.0.now c.loop-index.index c.loop-index.fenced c.loop-index-test.true c.loop-index.invariant.noted;
  room = room_next g c;
}

pub returns-in-Some-list-clause-ok : goal.returns-in-Some-list-clause-ok
returns-in-Some-list-clause-ok g c =
    let whole : length c.args.bytes.now % 64 ≡ 0 = sym c.as_chunks.ensures.back_len ∙ eqb-true _ _ (sym c.is_empty.ensures ∙ c.if-not-is_empty.false) in
    let end : length c.as_chunks.result.0.now ≤ c.loop-index.index = omega (arith, c.loop-index-test.false) in
    let spelt : flat_map g.E.Entry.spelling c.in-Some-list.entries.items ≡ take (64 * c.loop-index.index) (seen_list (not (eqb g.row.FENCED 0)) c.args.bytes.now) = rw c.in-Some-list.is at c.loop-index.invariant.spelt in (
      seen_all _ _ _ c.are_entries.ensures (not (eqb g.row.FENCED 0)) c.args.bytes.now (length c.as_chunks.result.0.now) c.loop-index.index c.in-Some-list.entries.items whole c.as_chunks.ensures.front_len end spelt,
      seen_sound_all _ _ _ c.are_entries.ensures (not (eqb g.row.FENCED 0)) c.args.bytes.now (length c.as_chunks.result.0.now) c.loop-index.index whole c.as_chunks.ensures.front_len end c.loop-index.invariant.sound,
    )

pub returns-in-Some-list-clause-fenced : goal.returns-in-Some-list-clause-fenced
returns-in-Some-list-clause-fenced g c =
    c.loop-index.invariant.noted
    ∙ ap (λ (any : Bool). not (eqb g.row.FENCED 0) && any) (fenced_all c.args.bytes.now c.as_chunks.result.0.now c.loop-index.index c.as_chunks.ensures.front (omega (arith, c.loop-index-test.false)))

pub returns-in-None-clause-err : goal.returns-in-None-clause-err
returns-in-None-clause-err g c =
    let whole : length c.args.bytes.now % 64 ≡ 0 = sym c.as_chunks.ensures.back_len ∙ eqb-true _ _ (sym c.is_empty.ensures ∙ c.if-not-is_empty.false) in
    seen_sound_all _ _ _ c.are_entries.ensures (not (eqb g.row.FENCED 0)) c.args.bytes.now (length c.as_chunks.result.0.now) c.loop-index.index whole c.as_chunks.ensures.front_len (omega (arith, c.loop-index-test.false)) c.loop-index.invariant.sound
