use Rattle.std.proofs.Common.{ap}
use Rattle.std.specs.Result.{is_ok}
use Rattle.dsa_tests.proofs.image.run_list.Goals as goal

pub execute_list-requires : goal.execute_list-requires
execute_list-requires c = c.holds_all.ensures.ok.0 (ap is_ok c.in-Ok.is)
