use Rattle.std.proofs.Common.{[], ap}
use Rattle.std.specs.Result.{is_ok}
use Rattle.std.proofs.lemmas.List.Elements.{All-head}
use Rattle.dsa_descriptor.specs.Descriptors.{fields}
use Rattle.dsa_image.specs.Memory.{HoldsRanges}
use Rattle.dsa_tests.proofs.splitter.run_unsplit.Goals as goal

pub execute-requires : goal.execute-requires
execute-requires c = All-head (HoldsRanges c.args.image.now) (fields c.args.d.now) [] (c.holds_all.ensures.ok.0 (ap is_ok c.in-Ok.is))
