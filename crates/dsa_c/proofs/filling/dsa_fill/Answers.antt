use Rattle.dsa_c.proofs.filling.dsa_fill.Goals as goal

pub returns-in-Ok-clause-planned : goal.returns-in-Ok-clause-planned
returns-in-Ok-clause-planned c = λ list s ds prepared none. c.in-Ok.ensures.planned list s ds prepared
