use Rattle.dsa_text.proofs.files.summary_text.Goals as goal

pub returns : goal.returns
returns c = rw (← c.times_of-faulty.ensures, ← c.times_of-refused.ensures) c.format.ensures.ok
