use Rattle.std.proofs.Common.{sym, subst, refl, ◌∙◌}
use Rattle.std.specs.List.{Contains}
use Rattle.dsa_audit.specs.Members.{AreHazardsBetween}
use Rattle.dsa_waits.specs.Keys.{key_between}
use Rattle.dsa_waits.specs.Steps.{IsKnown, looked_up}
use Rattle.dsa_waits.proofs.Alike.{accepted_if, found_if, known_answer, remembered}
use Rattle.dsa_waits.proofs.known.is_accepted.Goals as goal

pub returns-in-Some-clause-accepted : goal.returns-in-Some-clause-accepted
returns-in-Some-clause-accepted c =
    let accepted = c.args.keyed.accepted.now in
    let es = c.args.keyed.all.now in
    let ss = c.args.keyed.submissions.now in
    let course = c.args.course.now in
    let hs = c.hazards_between-hazards.result in
    let are : AreHazardsBetween course.members.items c.args.earlier c.args.later hs =
    subst (λ l. AreHazardsBetween l c.args.earlier c.args.later hs) c.deref.ensures.value c.hazards_between-hazards.ensures in
    let found = rw c.in-Some.is at c.known_of.ensures in
    accepted_if es ss course accepted c.args.earlier c.args.later hs c.in-Some.one.is_accepted c.requires.before c.requires.conflict are
    (known_answer es ss course accepted c.args.known.now.items c.in-Some.one c.args.earlier c.args.later hs c.requires.known (subst (λ l. Contains l c.in-Some.one) c.deref-2.ensures.value found.0) found.1)

pub returns-in_ok-found-in-None-clause-accepted : goal.returns-in_ok-found-in-None-clause-accepted
returns-in_ok-found-in-None-clause-accepted c =
    let accepted = c.args.keyed.accepted.now in
    let es = c.args.keyed.all.now in
    let ss = c.args.keyed.submissions.now in
    let course = c.args.course.now in
    let hs = c.hazards_between-hazards.result in
    let are : AreHazardsBetween course.members.items c.args.earlier c.args.later hs =
    subst (λ l. AreHazardsBetween l c.args.earlier c.args.later hs) c.deref.ensures.value c.hazards_between-hazards.ensures in
    accepted_if es ss course accepted c.args.earlier c.args.later hs c.is_some.result c.requires.before c.requires.conflict are
    (found_if accepted (key_between es ss course c.args.earlier c.args.later hs) c.in_ok-found-in-None.found c.in_ok-found-in-None.ensures.key ∙ sym c.is_some.ensures)

pub returns-in_ok-found-in-None-clause-known : goal.returns-in_ok-found-in-None-clause-known
returns-in_ok-found-in-None-clause-known c =
    let accepted = c.args.keyed.accepted.now in
    let es = c.args.keyed.all.now in
    let ss = c.args.keyed.submissions.now in
    let course = c.args.course.now in
    remembered (IsKnown accepted es ss course c.args.later) (looked_up accepted es ss course c.args.earlier c.args.later c.hazards_between-hazards.result)
    c.args.known.now.items c.look_up.new.known.items c.in_ok-found-in-None.ensures.known c.requires.known refl
