use Rattle.std.proofs.Common.{get_or, refl, arith}
use Rattle.std.proofs.lemmas.Option.{slice_get-get_or}
use Rattle.dsa_conflicts.specs.declared.access.Access.TheVariants.{Read}
use Rattle.dsa_conflicts.specs.declared.touches.Touch.{Touch}
use Rattle.dsa_conflicts.proofs.Overlapping.{notes_last, notes_next}
use Rattle.dsa_conflicts.proofs.overlaps.note_from.Goals as goal

abbrev none : Touch
none = record { span = record { first = 0; len = 0 }; piece = 0; access = Read }

pub returns-then-not-begins_in : goal.returns-then-not-begins_in
returns-then-not-begins_in c =
    let touches = c.args.touches.now in
    let p = c.args.place in
    let q = c.loop-next.next in
    let t : Touch = get_or touches p none in
    let u : Touch = get_or touches q none in
    let at = slice_get-get_or touches p none c.requires.bound in
    let at_u = slice_get-get_or touches q none c.loop-next-test.true in
    notes_last touches c.args.window p t at c.args.lasts.now c.requires.sorted q u (omega (arith, c.loop-next.auto.next)) at_u (λ w. let no = c.if-not-begins_in.ensures.1 w in absurd cc) c.loop-next.lasts c.loop-next.invariant

pub loop-next-preserved : goal.loop-next-preserved
loop-next-preserved c =
    let touches = c.args.touches.now in
    let p = c.args.place in
    let q = c.loop-next.next in
    let t : Touch = get_or touches p none in
    let u : Touch = get_or touches q none in
    let at = slice_get-get_or touches p none c.requires.bound in
    let at_u = slice_get-get_or touches q none c.loop-next-test.true in
    notes_next touches c.args.window p t at c.args.lasts.now q u (omega (arith, c.loop-next.auto.next)) at_u (c.if-not-begins_in.ensures.0 refl) c.loop-next.lasts c.note.new.lasts c.loop-next.invariant c.note.ensures
