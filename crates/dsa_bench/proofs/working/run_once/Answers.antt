use Rattle.std.proofs.Common.{sym}
use Rattle.dsa_bench.proofs.working.run_once.Goals as goal

pub execute_list-requires : goal.execute_list-requires
execute_list-requires c = c.holds_all.ensures.ok.0 (sym c.if-is_ok.ensures.value)
