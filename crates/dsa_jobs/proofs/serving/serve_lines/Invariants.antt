use Rattle.std.proofs.Common.{ℕ, List}
use Rattle.std.specs.Io.KnownBytes.{Consumes}
use Rattle.dsa_jobs.specs.Held.{HasServed}
use Rattle.dsa_jobs.proofs.serving.serve_lines.Given as goal

abbrev pub invariant-loop : goal.invariant-loop
invariant-loop g l =
    let remaining = g.R.Read.remaining in
    let contents = g.W.Write.contents in
    (seen : List ℕ) × Consumes (remaining l.initial.reader) (remaining l.reader) seen × HasServed seen l.line (contents l.initial.writer) (contents l.writer)
