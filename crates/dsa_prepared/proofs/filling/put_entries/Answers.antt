use Rattle.dsa_prepared.specs.Rows.{entry_in}
use Rattle.dsa_prepared.specs.Sound.{HasValues}
use Rattle.dsa_prepared.proofs.RowChecks.{one_read}
use Rattle.dsa_prepared.proofs.filling.put_entries.Goals as goal

pub origins-origins-requires : goal.origins-origins-requires
origins-origins-requires c = one_read (HasValues c.args.bases.now c.args.staging) entry_in c.args.entries.now c.loop-k.k c.requires.values c.loop-k-test.true
