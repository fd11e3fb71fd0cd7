use Rattle.std.proofs.Common.{ℕ, List, ◌++◌, take}
use Rattle.std.proofs.KnownBytes.{Consumes-trans, Consumes-kept}
use Rattle.dsa_jobs.specs.Jobs.{jobs_of}
use Rattle.dsa_jobs.specs.Writes.{WritesPart}
use Rattle.dsa_jobs.proofs.Chunks.{text_read}
use Rattle.dsa_jobs.proofs.Steps.{ended_served}
use Rattle.dsa_jobs.proofs.serving.serve_lines.Goals as goal

pub returns-then-not-serve_chunk-clause-write_fault : goal.returns-then-not-serve_chunk-clause-write_fault
returns-then-not-serve_chunk-clause-write_fault g c =
    let (seen, taken, served) = c.loop.invariant in
    let contents = g.W.Write.contents in
    λ is.
    text_read _ _ (seen ++ take c.in-Ok.count c.read.new.buf) (λ (text : List ℕ). WritesPart (jobs_of text) (contents c.args.writer.now) (contents c.serve_chunk.new.writer))
    (Consumes-trans _ _ _ seen (take c.in-Ok.count c.read.new.buf) taken c.in-Ok.ensures.bytes.0) (c.if-not-serve_chunk.ensures.part seen _ served)

pub returns-in-Err-clause-read_fault : goal.returns-in-Err-clause-read_fault
returns-in-Err-clause-read_fault g c =
    let (seen, taken, served) = c.loop.invariant in
    λ is. (seen, Consumes-kept _ _ _ seen taken c.in-Err.ensures.bytes, ended_served seen c.loop.line _ _ served)

pub loop-preserved : goal.loop-preserved
loop-preserved g c =
    let (seen, taken, served) = c.loop.invariant in (
      seen ++ take c.in-Ok.count c.read.new.buf,
      Consumes-trans _ _ _ seen (take c.in-Ok.count c.read.new.buf) taken c.in-Ok.ensures.bytes.0,
      c.if-not-serve_chunk.ensures.whole seen _ served,
    )

pub returns-clause-read_fault : goal.returns-clause-read_fault
returns-clause-read_fault g c =
    let (seen, taken, served) = c.loop.invariant in
    λ is. (seen, taken, ended_served seen c.loop.line _ _ served)
