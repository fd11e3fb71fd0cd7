use Rattle.std.proofs.Common.{◌≡◌, ℕ, Bool, List, Option, false, get_or, refl, ap, subst, ◌∙◌, filter}
use Rattle.std.specs.Prelude.{not}
use Rattle.std.proofs.lemmas.List.{get_or_read}
use Rattle.dsa_waits.specs.declared.event.Event.{Event}
use Rattle.dsa_waits.specs.declared.event.Event.TheVariants.{Submitted}
use Rattle.dsa_waits.specs.declared.course.Told.{Told}
use Rattle.dsa_waits.specs.Steps.{Marks}
use Rattle.dsa_waits.specs.Waits.{ended_by, event_at, has_ended, is_made, is_told, told_by}
use Rattle.dsa_waits.proofs.Courses.{told, told_same}
use Rattle.dsa_waits.proofs.search.Flying.follow.Goals as goal

pub returns : goal.returns
returns c =
    let at : c.index-event.result.now ≡ event_at c.args.course.now c.args.k = get_or_read c.args.course.now.events.items c.args.k c.index-event.result.now c.requires.within c.index-event.ensures Submitted in
    let flags : ℕ → Bool = λ n. get_or c.deref.result.now n false in
    let tells = c.told_by-told.ensures ∙ ap (told_by c.args.course.now flags) at
    ∙ told_same c.args.course.now flags (has_ended c.args.course.now c.args.k) (event_at c.args.course.now c.args.k) (c.requires.course.fit c.args.k c.requires.within)
    (λ n lt. ap (λ (xs : List Bool). get_or xs n false) c.deref.ensures.value ∙ c.requires.sofar.ended n lt) in
    told c.args.keyed.accepted.now c.args.keyed.all.now c.args.keyed.submissions.now c.args.course.now c.args.k c.args.self.now c.requires.course c.requires.within c.requires.sofar
    (record { number = c.args.self.now.number; outstanding = c.drop_told.new.outstanding; waits = c.args.self.now.waits; used = c.args.self.now.used; ended = c.mark.new.flags })
    (λ is. c.if-made_by-eq1.false (c.made_by.ensures ∙ ap is_made at ∙ is)) refl refl
    (subst (λ (t : Told). c.drop_told.new.outstanding.items ≡ filter (λ e. not (is_told c.args.course.now t e)) c.args.self.now.outstanding.items)
    tells c.drop_told.ensures)
    (subst (λ (v : Event). Marks (ended_by v) c.args.self.now.ended.items c.mark.new.flags.items) at
    (subst (λ (o : Option ℕ). Marks o c.args.self.now.ended.items c.mark.new.flags.items) c.ended_number.ensures c.mark.ensures)) refl
