use Rattle.std.proofs.Common.{ℕ, List, Option, subst}
use Rattle.dsa_resume.specs.Shared.{FindsFirst}
use Rattle.dsa_resume.proofs.Sharing.{found}
use Rattle.dsa_resume.proofs.shared.first_shared.Goals as goal

pub returns : goal.returns
returns g c =
    let lasts : List (Option ℕ) = c.in_ok-lasts.lasts.items in
    let first : FindsFirst lasts c.first_pair.result = subst (λ (l : List (Option ℕ)). FindsFirst l c.first_pair.result) c.deref.ensures.value c.first_pair.ensures in
    found g.P.Touching.writes c.args.pieces.now lasts c.in_ok-lasts.ensures c.first_pair.result first
