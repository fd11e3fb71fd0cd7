use Rattle.dsa_tests.proofs.image.run.Goals as goal

pub execute-requires : goal.execute-requires
execute-requires c = c.holds_ranges.ensures.0 c.if-not-holds_ranges.false
