use Rattle.std.proofs.Common.{refl}
use Rattle.dsa_report.proofs.bytes.bytes_if.Goals as goal

pub returns-in_ok-bytes_from_hex-in-Some : goal.returns-in_ok-bytes_from_hex-in-Some
returns-in_ok-bytes_from_hex-in-Some c = rw c.in-Some.is (c.in_ok-bytes_from_hex-in-Some.field-0, refl, c.in_ok-bytes_from_hex-in-Some.ensures)
