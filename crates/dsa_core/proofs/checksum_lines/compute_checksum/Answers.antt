use Rattle.std.proofs.Common.{arith}
use Rattle.dsa_core.proofs.ChecksumHeld.{copy_fits}
use Rattle.dsa_core.proofs.checksum_lines.compute_checksum.Goals as goal

pub overflow_mul-outputs : goal.overflow_mul-outputs
overflow_mul-outputs c =
    let i = c.args.inputs.now in
    let fits = copy_fits i.checksum.op c.in-CopyCrc.src c.in-CopyCrc.dst i.checksum.size i.line c.in-CopyCrc.seed c.in-CopyCrc.is i.checksum.listed.data_addressable i.place in
    omega arith

pub overflow_add-outputs : goal.overflow_add-outputs
overflow_add-outputs c =
    let i = c.args.inputs.now in
    let fits = copy_fits i.checksum.op c.in-CopyCrc.src c.in-CopyCrc.dst i.checksum.size i.line c.in-CopyCrc.seed c.in-CopyCrc.is i.checksum.listed.data_addressable i.place in
    omega arith
