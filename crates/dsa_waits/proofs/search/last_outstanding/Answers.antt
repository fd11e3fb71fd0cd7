use Rattle.std.proofs.Common.{◌≡◌, ◌-◌, ◌<◌, false, true, length, get_or, None, sym, subst, ◌∙◌, arith}
use Rattle.dsa_audit.specs.Members.{KnownConflict}
use Rattle.dsa_conflicts.specs.Access.{IsGreatest}
use Rattle.dsa_waits.specs.Keys.{IsLeftConflict}
use Rattle.dsa_waits.proofs.Rising.{apart_more, below_at, is_last, none_of}
use Rattle.dsa_waits.proofs.search.last_outstanding.Goals as goal

pub returns-in_default : goal.returns-in_default
returns-in_default c other (there, left) =
    let none : IsGreatest (λ a. (a < c.args.entry) × KnownConflict c.args.course.now.members.items a c.args.entry) None =
    subst (IsGreatest (λ a. (a < c.args.entry) × KnownConflict c.args.course.now.members.items a c.args.entry)) c.in_default.is c.requires.last in
    none other (c.requires.below other there, left.0)

pub is_left-requires-clause-before : goal.is_left-requires-clause-before
is_left-requires-clause-before c = below_at c.args.entry c.args.outstanding.now (c.loop-i.i - 1) 0 c.requires.below (omega arith)

pub is_left-requires-clause-last : goal.is_left-requires-clause-last
is_left-requires-clause-last c =
    subst (IsGreatest (λ a. (a < c.args.entry) × KnownConflict c.args.course.now.members.items a c.args.entry)) c.in-Some.is c.requires.last

pub returns-then-branch : goal.returns-then-branch
returns-then-branch c =
    is_last (λ a. IsLeftConflict c.args.keyed.accepted.now c.args.keyed.all.now c.args.keyed.submissions.now c.args.course.now a c.args.entry) c.args.outstanding.now
    (c.loop-i.i - 1) 0 c.requires.rising (omega arith) (c.in_ok-is_left.ensures.left.0 c.if-branch.true) (λ x later within. c.loop-i.invariant.apart x (omega arith) within)

pub loop-i-preserved : goal.loop-i-preserved
loop-i-preserved c =
    record {
      within = omega (arith, c.loop-i.invariant.within);
      apart =
          apart_more
          (λ x. IsLeftConflict c.args.keyed.accepted.now c.args.keyed.all.now c.args.keyed.submissions.now c.args.course.now (get_or c.args.outstanding.now x 0) c.args.entry)
          c.loop-i.i (length c.args.outstanding.now) c.loop-i.invariant.apart
          (λ left. let no : false ≡ true = sym c.if-branch.false ∙ c.in_ok-is_left.ensures.left.1 left in cc);
      known = c.in_ok-is_left.ensures.known;
    }

pub returns : goal.returns
returns c =
    none_of (λ a. IsLeftConflict c.args.keyed.accepted.now c.args.keyed.all.now c.args.keyed.submissions.now c.args.course.now a c.args.entry) c.args.outstanding.now 0
    (λ x within. c.loop-i.invariant.apart x (omega arith) within)
