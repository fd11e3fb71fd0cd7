use Rattle.std.proofs.Common.{arith}
use Rattle.std.proofs.lemmas.Option.{slice_get_within}
use Rattle.dsa_waits.proofs.keys.conflict_in_order.Goals as goal

pub returns-then-later-len : goal.returns-then-later-len
returns-then-later-len c = (
  (λ f. absurd cc),
  (λ both.
      let within = slice_get_within c.args.course.now.members.items c.args.later both.1.1 both.1.3 in
      absurd (omega (arith, within))),
)
