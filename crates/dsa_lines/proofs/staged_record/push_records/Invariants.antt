use Rattle.std.proofs.Common.{◌≡◌, ◌++◌, take}
use Rattle.std.specs.Prelude.{string_bytes}
use Rattle.dsa_lines.specs.Stagings.{records_text}
use Rattle.dsa_lines.proofs.staged_record.push_records.Given as goal

-- the lines so far
abbrev pub invariant-loop-batch : goal.invariant-loop-batch
invariant-loop-batch l = string_bytes l.text ≡ string_bytes l.initial.text ++ records_text 0 l.first (take l.batch l.all)
