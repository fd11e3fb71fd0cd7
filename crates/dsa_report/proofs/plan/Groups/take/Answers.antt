use Rattle.std.proofs.Common.{◌<◌, ◌≤◌, Bool, List, [], ◌∷◌, ◌++◌, length, refl, sym, ap, ◌∙◌, arith}
use Rattle.std.proofs.lemmas.Grind.{common_steps}
use Rattle.dsa_report.specs.Plan.{most_groups}
use Rattle.dsa_report.proofs.KeptPlans.{added_flags, no_flags, no_rest, one_first, one_later}
use Rattle.dsa_report.proofs.plan.Groups.take.Goals as goal

pub returns-then-not-branch : goal.returns-then-not-branch
returns-then-not-branch c =
    let is = c.in_ok-first.ensures.ok in
    let read = rw c.if-not-branch.true at c.in_ok-array_into.ensures in
    (read.0, rw is read.1, no_flags c.args.self.now.rest.items c.array_into.new.found.items read.0 read.2, rw is read.3)

pub returns-in_ok-push : goal.returns-in_ok-push
returns-in_ok-push c =
    let old = c.args.self.now in
    let is = c.in_ok-first.ensures.ok in
    let read = rw c.if-not-branch.false at c.in_ok-array_into.ensures in
    let (flags, spelled, added) = added_flags old.rest.items c.array_into.new.found.items read.0 read.2 in
    let few : length old.first.items < most_groups = grind (arith, common_steps, c.len.ensures, c.if-len-lt-MOST_GROUPS.true) in (
      read.0,
      rw is read.1,
      (
        flags,
        spelled,
        λ plan are.
            let none = no_rest old plan are few in
            let own = ap (λ v. v.items) c.replace-fences.ensures.value ∙ added ∙ ap (λ (l : List Bool). l ++ flags) none in
            one_first old _ plan flags are few (c.in_ok-push.ensures.items ∙ ap (λ (g : List Bool). old.first.items ++ g ∷ []) (c.new-then-len-lt-MOST_GROUPS.ensures ∙ own))
            (ap (λ v. v.items) c.replace-fences.ensures.after ∙ c.new.ensures.items ∙ sym none) refl,
      ),
      rw is read.3,
    )

pub returns-else-len-lt-MOST_GROUPS : goal.returns-else-len-lt-MOST_GROUPS
returns-else-len-lt-MOST_GROUPS c =
    let old = c.args.self.now in
    let is = c.in_ok-first.ensures.ok in
    let read = rw c.if-not-branch.false at c.in_ok-array_into.ensures in
    let (flags, spelled, added) = added_flags old.rest.items c.array_into.new.found.items read.0 read.2 in
    let full : most_groups ≤ length old.first.items = grind (arith, common_steps, c.len.ensures, c.if-len-lt-MOST_GROUPS.false) in
    (read.0, rw is read.1, (flags, spelled, λ plan are. one_later old _ plan flags are full refl added refl), rw is read.3)
