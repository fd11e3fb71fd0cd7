use Rattle.std.proofs.Common.{◌≡◌, refl, arith}
use Rattle.dsa_settings.proofs.Equal.{same_lists}
use Rattle.dsa_settings.proofs.same.same_groups.Goals as goal

pub returns : goal.returns
returns c =
    let same : c.args.a.now ≡ c.args.b.now = same_lists c.args.a.now c.args.b.now (omega arith) (λ k lt. c.loop-i.invariant k (omega arith)) in
    (λ t. same, λ e. refl)
