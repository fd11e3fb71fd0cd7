use Rattle.std.proofs.Common.{◌≡◌, ℕ, ◌+◌, List, length, refl, sym, ap, subst, ◌∙◌, arith}
use Rattle.dsa_waits.specs.declared.course.Made.{Made}
use Rattle.dsa_waits.specs.Waits.{made_at}
use Rattle.dsa_waits.specs.Steps.{AreBelow, AreOutstanding, HasSubmission, UsesBetween, WithRange}
use Rattle.dsa_recording.specs.Uses.{AddsKeys}
use Rattle.dsa_waits.proofs.Courses.{begun, ends_within, number_within, outstanding_now, own, submitted}
use Rattle.dsa_waits.proofs.search.Flying.submit.Goals as goal

pub push_waits-requires-clause-below : goal.push_waits-requires-clause-below
push_waits-requires-clause-below c =
    subst (AreBelow (length c.args.self.now.waits.items)) (sym c.deref-2.ensures.value) (λ x there. c.requires.sofar.inside x there)

pub push_waits-requires-clause-exact : goal.push_waits-requires-clause-exact
push_waits-requires-clause-exact c =
    subst (AreOutstanding c.args.course.now c.args.self.now.number) (sym c.deref-2.ensures.value)
    (outstanding_now c.args.keyed.accepted.now c.args.keyed.all.now c.args.keyed.submissions.now c.args.course.now c.args.k c.args.self.now c.requires.course c.requires.within c.requires.sofar c.requires.event)

pub push_waits-requires-clause-begun : goal.push_waits-requires-clause-begun
push_waits-requires-clause-begun c =
    let E : c.made_at-end.result.end ≡ (made_at c.args.course.now.made.items c.args.self.now.number).end =
    ap (λ m. m.end) c.made_at-end.ensures ∙ ap (λ (made : List Made). (made_at made c.args.self.now.number).end) c.deref.ensures.value in
    omega (arith, E, begun c.args.keyed.accepted.now c.args.keyed.all.now c.args.keyed.submissions.now c.args.course.now c.args.k c.args.self.now c.requires.course c.requires.within c.requires.sofar c.requires.event)

pub push_waits-requires-clause-within : goal.push_waits-requires-clause-within
push_waits-requires-clause-within c =
    let E : c.made_at-end.result.end ≡ (made_at c.args.course.now.made.items c.args.self.now.number).end =
    ap (λ m. m.end) c.made_at-end.ensures ∙ ap (λ (made : List Made). (made_at made c.args.self.now.number).end) c.deref.ensures.value in
    omega (arith, E, ends_within c.args.keyed.accepted.now c.args.keyed.all.now c.args.keyed.submissions.now c.args.course.now c.args.k c.args.self.now c.requires.course c.requires.within c.requires.sofar c.requires.event)

pub push_waits-requires-clause-own : goal.push_waits-requires-clause-own
push_waits-requires-clause-own c =
    let E : c.made_at-end.result.end ≡ (made_at c.args.course.now.made.items c.args.self.now.number).end =
    ap (λ m. m.end) c.made_at-end.ensures ∙ ap (λ (made : List Made). (made_at made c.args.self.now.number).end) c.deref.ensures.value in
    subst (HasSubmission c.args.course.now c.args.self.now.number (length c.args.self.now.waits.items)) (sym E)
    (own c.args.keyed.accepted.now c.args.keyed.all.now c.args.keyed.submissions.now c.args.course.now c.args.k c.args.self.now c.requires.course c.requires.within c.requires.sofar c.requires.event)

pub push_entries-requires-clause-below : goal.push_entries-requires-clause-below
push_entries-requires-clause-below c x there = omega (arith, c.requires.sofar.inside x there, c.len-from.ensures)

pub push_entries-requires-clause-begun : goal.push_entries-requires-clause-begun
push_entries-requires-clause-begun c =
    let E : c.made_at-end.result.end ≡ (made_at c.args.course.now.made.items c.args.self.now.number).end =
    ap (λ m. m.end) c.made_at-end.ensures ∙ ap (λ (made : List Made). (made_at made c.args.self.now.number).end) c.deref.ensures.value in
    omega (arith, c.len-from.ensures, E, begun c.args.keyed.accepted.now c.args.keyed.all.now c.args.keyed.submissions.now c.args.course.now c.args.k c.args.self.now c.requires.course c.requires.within c.requires.sofar c.requires.event)

pub overflow_add-self : goal.overflow_add-self
overflow_add-self c = omega (arith, number_within c.args.keyed.accepted.now c.args.keyed.all.now c.args.keyed.submissions.now c.args.course.now c.args.k c.args.self.now c.requires.course c.requires.within c.requires.sofar c.requires.event, c.args.course.now.made.ok, c.args.course.now.made.small)

pub returns : goal.returns
returns c =
    let E : c.made_at-end.result.end ≡ (made_at c.args.course.now.made.items c.args.self.now.number).end =
    ap (λ m. m.end) c.made_at-end.ensures ∙ ap (λ (made : List Made). (made_at made c.args.self.now.number).end) c.deref.ensures.value in
    submitted c.args.keyed.accepted.now c.args.keyed.all.now c.args.keyed.submissions.now c.args.course.now c.args.k c.args.self.now c.requires.course c.requires.within c.requires.sofar
    (record { number = c.args.self.now.number + 1; outstanding = c.push_entries.new.outstanding; waits = c.push_waits.new.waits; used = c.use_all_waits.new.used; ended = c.args.self.now.ended }) c.requires.event refl
    (c.in_ok-push_waits.ensures.count ∙ E) c.in_ok-push_waits.ensures.waits
    (subst (λ (n : ℕ). WithRange c.args.self.now.outstanding.items (length c.args.self.now.waits.items) n c.push_entries.new.outstanding.items) E
    (subst (λ (n : ℕ). WithRange c.args.self.now.outstanding.items n c.made_at-end.result.end c.push_entries.new.outstanding.items) (c.len-from.ensures ∙ c.args.self.now.waits.ok.0)
    c.in_ok-push_entries.ensures)) refl
    (subst (λ (n : ℕ). AddsKeys (UsesBetween c.args.keyed.accepted.now c.args.keyed.all.now c.args.keyed.submissions.now c.args.course.now c.args.self.now.outstanding.items (length c.args.self.now.waits.items) n) c.args.self.now.used c.use_all_waits.new.used) E
    (subst (λ (n : ℕ). AddsKeys (UsesBetween c.args.keyed.accepted.now c.args.keyed.all.now c.args.keyed.submissions.now c.args.course.now c.args.self.now.outstanding.items n c.made_at-end.result.end) c.args.self.now.used c.use_all_waits.new.used)
    (c.len-from.ensures ∙ c.args.self.now.waits.ok.0)
    (subst (λ (xs : List ℕ). AddsKeys (UsesBetween c.args.keyed.accepted.now c.args.keyed.all.now c.args.keyed.submissions.now c.args.course.now xs c.len-from.result c.made_at-end.result.end) c.args.self.now.used c.use_all_waits.new.used)
    c.deref-3.ensures.value c.in_ok-use_all_waits.ensures)))

pub use_all_waits-requires : goal.use_all_waits-requires
use_all_waits-requires c =
    let E : c.made_at-end.result.end ≡ (made_at c.args.course.now.made.items c.args.self.now.number).end =
    ap (λ m. m.end) c.made_at-end.ensures ∙ ap (λ (made : List Made). (made_at made c.args.self.now.number).end) c.deref.ensures.value in
    omega (arith, c.len-from.ensures, E, begun c.args.keyed.accepted.now c.args.keyed.all.now c.args.keyed.submissions.now c.args.course.now c.args.k c.args.self.now c.requires.course c.requires.within c.requires.sofar c.requires.event)
