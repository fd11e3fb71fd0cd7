use Rattle.std.proofs.Common.{List, Option, ℕ, length, subst}
use Rattle.dsa_conflicts.specs.Last.{HasLastsBy}
use Rattle.dsa_resume.specs.declared.shared.Written.{Written}
use Rattle.dsa_resume.specs.Shared.{WrittenConflictAt}
use Rattle.dsa_resume.proofs.Sharing.{lasts_shared}
use Rattle.dsa_resume.proofs.shared.last_shared.Goals as goal

pub returns : goal.returns
returns g c =
    let all : List Written = c.in_ok-all.all.items in
    let lasts : List (Option ℕ) = c.in_ok-lasts.lasts.items in
    let has : HasLastsBy (WrittenConflictAt all) (length all) 65536 lasts =
    subst (λ (ws : List Written). HasLastsBy (WrittenConflictAt ws) (length ws) 65536 lasts) c.deref.ensures.value c.in_ok-lasts.ensures in
    lasts_shared g.P.Touching.writes c.args.pieces.now all c.in_ok-all.ensures c.requires lasts has
