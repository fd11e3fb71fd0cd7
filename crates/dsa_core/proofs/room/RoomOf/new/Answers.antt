use Rattle.std.proofs.Common.{◌∙◌, ap, arith, length, refl}
use Rattle.dsa_core.proofs.NewRooms.{copies_fit, copies_cover, copies_begin, new_sound, made_is_short, refused_is_short, memory_is_a_fault}
use Rattle.dsa_core.proofs.room.RoomOf.new.Goals as goal

pub new-requires-clause-fitting : goal.new-requires-clause-fitting
new-requires-clause-fitting g c =
    copies_fit g.P.Workable.work c.work_fits.ensures c.args.plan.now c.args.pieces.now c.args.engines c.args.image.now c.requires
    c.in_ok-own.own c.in_ok-all.all.items c.in_ok-now.now c.in_ok-own.ensures c.in_ok-all.ensures.items c.in_ok-now.ensures

pub new-requires-clause-covers : goal.new-requires-clause-covers
new-requires-clause-covers g c =
    copies_cover g.P.Workable.work c.work_fits.ensures c.args.plan.now c.args.pieces.now c.args.engines c.args.image.now c.requires
    c.in_ok-own.own c.in_ok-all.all.items c.in_ok-now.now c.in_ok-own.ensures c.in_ok-all.ensures.items c.in_ok-now.ensures

pub invariant_of-result : goal.invariant_of-result
invariant_of-result g c =
    new_sound g.P.Workable.work c.work_fits.ensures c.args.plan.now c.args.pieces.now c.args.engines c.args.image.now c.requires
    _
    (c.in_ok-board.ensures
    ∙ copies_begin g.P.Workable.work c.work_fits.ensures c.args.plan.now c.args.pieces.now c.args.engines c.args.image.now c.requires
    c.in_ok-own.own c.in_ok-all.all.items c.in_ok-now.now c.in_ok-own.ensures c.in_ok-all.ensures.items c.in_ok-now.ensures)
    c.in_ok-start.ensures c.in_ok-history.ensures.items refl
    (omega (arith, c.in_ok-history.ensures.exact, c.in-Some.ensures)) c.in_ok-records.ensures.items
    (let groups = ap length c.groups.ensures in omega (arith, c.in_ok-records.ensures.exact, groups))

pub returns-in_err-history-clause-too_long : goal.returns-in_err-history-clause-too_long
returns-in_err-history-clause-too_long g c = refused_is_short g.P.Workable.work c.work_fits.ensures c.args.pieces.now c.in-Some.events c.in-Some.ensures c.from_residual.result c.from_residual.ensures.1

pub returns-in_err-history-clause-faults : goal.returns-in_err-history-clause-faults
returns-in_err-history-clause-faults g c = memory_is_a_fault c.from_residual.result c.from_residual.ensures.1

pub returns-in_err-records-clause-too_long : goal.returns-in_err-records-clause-too_long
returns-in_err-records-clause-too_long g c = refused_is_short g.P.Workable.work c.work_fits.ensures c.args.pieces.now c.in-Some.events c.in-Some.ensures c.from_residual-in_err-records.result c.from_residual-in_err-records.ensures.1

pub returns-in_err-records-clause-faults : goal.returns-in_err-records-clause-faults
returns-in_err-records-clause-faults g c = memory_is_a_fault c.from_residual-in_err-records.result c.from_residual-in_err-records.ensures.1

pub returns-in_err-start-clause-too_long : goal.returns-in_err-start-clause-too_long
returns-in_err-start-clause-too_long g c = refused_is_short g.P.Workable.work c.work_fits.ensures c.args.pieces.now c.in-Some.events c.in-Some.ensures c.from_residual-in_err-start.result c.from_residual-in_err-start.ensures.1

pub returns-in_err-start-clause-faults : goal.returns-in_err-start-clause-faults
returns-in_err-start-clause-faults g c = memory_is_a_fault c.from_residual-in_err-start.result c.from_residual-in_err-start.ensures.1

pub returns-in_err-now-clause-too_long : goal.returns-in_err-now-clause-too_long
returns-in_err-now-clause-too_long g c = refused_is_short g.P.Workable.work c.work_fits.ensures c.args.pieces.now c.in-Some.events c.in-Some.ensures c.from_residual-in_err-now.result c.from_residual-in_err-now.ensures.1

pub returns-in_err-now-clause-faults : goal.returns-in_err-now-clause-faults
returns-in_err-now-clause-faults g c = memory_is_a_fault c.from_residual-in_err-now.result c.from_residual-in_err-now.ensures.1

pub returns-in_err-own-clause-too_long : goal.returns-in_err-own-clause-too_long
returns-in_err-own-clause-too_long g c = refused_is_short g.P.Workable.work c.work_fits.ensures c.args.pieces.now c.in-Some.events c.in-Some.ensures c.from_residual-in_err-own.result c.from_residual-in_err-own.ensures.1

pub returns-in_err-own-clause-faults : goal.returns-in_err-own-clause-faults
returns-in_err-own-clause-faults g c = memory_is_a_fault c.from_residual-in_err-own.result c.from_residual-in_err-own.ensures.1

pub returns-in_err-all-clause-too_long : goal.returns-in_err-all-clause-too_long
returns-in_err-all-clause-too_long g c = refused_is_short g.P.Workable.work c.work_fits.ensures c.args.pieces.now c.in-Some.events c.in-Some.ensures c.from_residual-in_err-all.result c.from_residual-in_err-all.ensures.1

pub returns-in_err-all-clause-faults : goal.returns-in_err-all-clause-faults
returns-in_err-all-clause-faults g c = memory_is_a_fault c.from_residual-in_err-all.result c.from_residual-in_err-all.ensures.1

pub returns-in_err-board-clause-too_long : goal.returns-in_err-board-clause-too_long
returns-in_err-board-clause-too_long g c = refused_is_short g.P.Workable.work c.work_fits.ensures c.args.pieces.now c.in-Some.events c.in-Some.ensures c.from_residual-in_err-board.result c.from_residual-in_err-board.ensures.1

pub returns-in_err-board-clause-faults : goal.returns-in_err-board-clause-faults
returns-in_err-board-clause-faults g c = memory_is_a_fault c.from_residual-in_err-board.result c.from_residual-in_err-board.ensures.1

pub returns-clause-too_long : goal.returns-clause-too_long
returns-clause-too_long g c = made_is_short g.P.Workable.work c.work_fits.ensures c.args.pieces.now c.in-Some.events c.in-Some.ensures _
