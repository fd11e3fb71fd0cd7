use Rattle.std.proofs.Common.{◌≡◌, ◌++◌, ℕ, List, IsTrue}
use Rattle.std.specs.Io.KnownBytes.{Consumes, IsAtEnd}
use Rattle.dsa_recording.specs.Parts.{IsSoFar}
use Rattle.dsa_recording.proofs.reading.audit_parts.Given as goal

-- what was read are the parts so far and the buffer
abbrev pub invariant-loop : goal.invariant-loop
invariant-loop g l = record {
  read :
      (bytes : List ℕ) × (more : List ℕ) × Consumes (g.R.Read.remaining l.initial.reader) (g.R.Read.remaining l.reader) more
      × (l.fn.first.items ++ more ≡ bytes ++ l.buffer.items) × IsSoFar l.options bytes l.parts;
  end : IsTrue l.ended → IsAtEnd (g.R.Read.remaining l.reader);
}
