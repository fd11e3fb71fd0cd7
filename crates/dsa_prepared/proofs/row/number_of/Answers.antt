use Rattle.std.proofs.lemmas.Nat.{le_bytes_8}
use Rattle.dsa_prepared.proofs.row.number_of.Goals as goal

pub returns-clause-read : goal.returns-clause-read
returns-clause-read c = le_bytes_8 c.args.bytes.now c.from_le_bytes.result c.told-bytes c.fits-bytes c.from_le_bytes.ensures
