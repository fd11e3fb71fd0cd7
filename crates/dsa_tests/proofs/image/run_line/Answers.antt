use Rattle.dsa_tests.proofs.image.run_line.Goals as goal

pub line-requires-clause-inside : goal.line-requires-clause-inside
line-requires-clause-inside c = c.holds_ranges.ensures.0 c.if-not-holds_ranges.false
