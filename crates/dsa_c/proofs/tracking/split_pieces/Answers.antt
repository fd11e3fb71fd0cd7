use Rattle.std.proofs.Common.{subst}
use Rattle.dsa_settings.specs.Settings.{Limits}
use Rattle.dsa_lists.specs.AnyLists.{ArePiecesOfList}
use Rattle.dsa_c.proofs.Refusing.{refuses_any_list}
use Rattle.dsa_c.proofs.tracking.split_pieces.Goals as goal

pub returns-in-Ok : goal.returns-in-Ok
returns-in-Ok c = (c.in-Some.ensures.1, subst (λ (l : Limits). ArePiecesOfList c.args.list.now l c.in-Ok.pieces) c.in-Some.ensures.0 c.in-Ok.ensures.found)

pub returns-in-Err : goal.returns-in-Err
returns-in-Err c = (
  c.refusal.ensures.some,
  refuses_any_list c.args.settings.now c.args.table.now c.args.list.now c.in-Some.checked c.in-Err.fault c.refusal.result c.in-Some.ensures.0 c.in-Some.ensures.1 c.in-Err.ensures.fault c.refusal.ensures.value,
)
