use Rattle.std.proofs.Common.{◌≡◌, refl, arith, get_or, length, ap}
use Rattle.dsa_prepared.proofs.Put.{byte_more}
use Rattle.dsa_prepared.proofs.row.put.Goals as goal

pub loop-k-preserved : goal.loop-k-preserved
loop-k-preserved c =
    let eight : length c.to_le_bytes-bytes.result ≡ 8 = ap length c.to_le_bytes-bytes.ensures in
    byte_more c.args.buffer.now c.to_le_bytes-bytes.result c.loop-k.buffer c.args.place c.loop-k.k (get_or c.to_le_bytes-bytes.result c.loop-k.k 0)
    c.loop-k.invariant (omega (arith, c.loop-k-test.true, eight)) (omega (arith, c.loop-k-test.true, c.requires)) refl
