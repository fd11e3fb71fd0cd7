use Rattle.std.proofs.Common.{None, get_or}
use Rattle.std.proofs.lemmas.Option.{slice_get-get_or}
use Rattle.dsa_audit.specs.declared.looks.Look.{Look}
use Rattle.dsa_audit.proofs.LastConflicts.{look_of}
use Rattle.dsa_audit.proofs.looks.found_in.Goals as goal

pub returns : goal.returns
returns c ms are =
    let none : Look = record { before = 0; later = 0; last = None } in
    let look : Look = get_or c.args.looks.now c.partition_point-place.result none in
    look_of ms look c.args.before c.args.later c.if-look-before.false c.if-look-later.false
    (are c.partition_point-place.result look (slice_get-get_or c.args.looks.now c.partition_point-place.result none c.if-place-looks.false))
