use Rattle.dsa_core.proofs.Local as laws
use Rattle.dsa_execution.proofs.laws.every_checksum_is_local.Goals as goal

pub returns : goal.returns
returns c =
    record {
      line = laws.line_inside;
      finish = laws.finish_inside;
      writes = laws.line_writes_same;
      finds = laws.line_finds_same;
      within = laws.checksum_local;
    }
