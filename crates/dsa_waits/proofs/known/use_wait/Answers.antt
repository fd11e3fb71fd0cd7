use Rattle.std.proofs.Common.{◌≡◌, true, false, Option, String, Global, sym, subst, ◌∙◌}
use Rattle.std.specs.List.{Contains}
use Rattle.dsa_audit.specs.Members.{AreHazardsBetween}
use Rattle.dsa_recording.proofs.Using.{on_ok}
use Rattle.dsa_waits.specs.Keys.{key_between}
use Rattle.dsa_waits.specs.Steps.{IsAcceptedKey}
use Rattle.dsa_waits.proofs.Alike.{adds_accepted, adds_unaccepted, settled_more, used_already, used_pair}
use Rattle.dsa_waits.proofs.UsedWaits.{pair_without}
use Rattle.dsa_waits.proofs.known.use_wait.Goals as goal

pub returns-then-not-conflict_in_order-clause-used : goal.returns-then-not-conflict_in_order-clause-used
returns-then-not-conflict_in_order-clause-used c =
    pair_without c.args.keyed.accepted.now c.args.keyed.all.now c.args.keyed.submissions.now c.args.course.now c.args.earlier c.args.later c.args.used.now
    (λ key is.
    let yes = c.conflict_in_order.ensures.1 (is.0, is.1) in
    let end : true ≡ false = sym yes ∙ c.if-not-conflict_in_order.true in
    absurd cc)

pub returns-in-Some-clause-used : goal.returns-in-Some-clause-used
returns-in-Some-clause-used c =
    let course = c.args.course.now in
    let hs = c.hazards_between-hazards.result in
    let both = c.conflict_in_order.ensures.0 c.if-not-conflict_in_order.false in
    let are : AreHazardsBetween course.members.items c.args.earlier c.args.later hs =
    subst (λ l. AreHazardsBetween l c.args.earlier c.args.later hs) c.deref.ensures.value c.hazards_between-hazards.ensures in
    let found = rw c.in-Some.is at c.known_of.ensures in
    used_already c.args.keyed.all.now c.args.keyed.submissions.now course c.args.keyed.accepted.now c.args.used.now c.args.known.now.items c.in-Some.field-0 c.args.earlier c.args.later hs both.0 both.1 are
    c.requires.known (subst (λ l. Contains l c.in-Some.field-0) c.deref-2.ensures.value found.0) found.1

pub returns-in-Some-2-clause-used : goal.returns-in-Some-2-clause-used
returns-in-Some-2-clause-used c =
    let es = c.args.keyed.all.now in
    let ss = c.args.keyed.submissions.now in
    let course = c.args.course.now in
    let accepted = c.args.keyed.accepted.now in
    let hs = c.hazards_between-hazards.result in
    let key = key_between es ss course c.args.earlier c.args.later hs in
    let both = c.conflict_in_order.ensures.0 c.if-not-conflict_in_order.false in
    let are : AreHazardsBetween course.members.items c.args.earlier c.args.later hs =
    subst (λ l. AreHazardsBetween l c.args.earlier c.args.later hs) c.deref.ensures.value c.hazards_between-hazards.ensures in
    let is = subst (λ (o : Option (String Global)). IsAcceptedKey accepted key o) c.in-Some-2.is c.in_ok-key-in-None.ensures.key in
    on_ok c.add.result _ _
    (λ added. used_pair es ss course accepted c.args.used.now c.add.new.self c.args.earlier c.args.later hs both.0 both.1 are
    (adds_accepted accepted c.args.used.now c.add.new.self key c.deref-in-Some-2.result.now is.0 (c.deref-in-Some-2.ensures ∙ is.1) added)) c.add.ensures

pub returns-in-Some-2-clause-known : goal.returns-in-Some-2-clause-known
returns-in-Some-2-clause-known c =
    let es = c.args.keyed.all.now in
    let ss = c.args.keyed.submissions.now in
    let course = c.args.course.now in
    let accepted = c.args.keyed.accepted.now in
    let hs = c.hazards_between-hazards.result in
    let key = key_between es ss course c.args.earlier c.args.later hs in
    let is = subst (λ (o : Option (String Global)). IsAcceptedKey accepted key o) c.in-Some-2.is c.in_ok-key-in-None.ensures.key in
    on_ok c.add.result _ _
    (λ added. settled_more es ss course accepted c.args.used.now c.add.new.self c.args.earlier c.args.later hs c.args.known.now.items c.look_up.new.known.items c.in_ok-key-in-None.ensures.known
    (adds_accepted accepted c.args.used.now c.add.new.self key c.deref-in-Some-2.result.now is.0 (c.deref-in-Some-2.ensures ∙ is.1) added) c.requires.known) c.add.ensures

pub returns-in-None-2-clause-used : goal.returns-in-None-2-clause-used
returns-in-None-2-clause-used c =
    let es = c.args.keyed.all.now in
    let ss = c.args.keyed.submissions.now in
    let course = c.args.course.now in
    let accepted = c.args.keyed.accepted.now in
    let hs = c.hazards_between-hazards.result in
    let key = key_between es ss course c.args.earlier c.args.later hs in
    let both = c.conflict_in_order.ensures.0 c.if-not-conflict_in_order.false in
    let are : AreHazardsBetween course.members.items c.args.earlier c.args.later hs =
    subst (λ l. AreHazardsBetween l c.args.earlier c.args.later hs) c.deref.ensures.value c.hazards_between-hazards.ensures in
    let is = subst (λ (o : Option (String Global)). IsAcceptedKey accepted key o) c.in-None-2.is c.in_ok-key-in-None.ensures.key in
    used_pair es ss course accepted c.args.used.now c.args.used.now c.args.earlier c.args.later hs both.0 both.1 are (adds_unaccepted accepted c.args.used.now key is)

pub returns-in-None-2-clause-known : goal.returns-in-None-2-clause-known
returns-in-None-2-clause-known c =
    let es = c.args.keyed.all.now in
    let ss = c.args.keyed.submissions.now in
    let course = c.args.course.now in
    let accepted = c.args.keyed.accepted.now in
    let hs = c.hazards_between-hazards.result in
    let key = key_between es ss course c.args.earlier c.args.later hs in
    let is = subst (λ (o : Option (String Global)). IsAcceptedKey accepted key o) c.in-None-2.is c.in_ok-key-in-None.ensures.key in
    settled_more es ss course accepted c.args.used.now c.args.used.now c.args.earlier c.args.later hs c.args.known.now.items c.look_up.new.known.items c.in_ok-key-in-None.ensures.known
    (adds_unaccepted accepted c.args.used.now key is) c.requires.known
