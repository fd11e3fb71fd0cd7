use Rattle.std.proofs.Common.{ℕ, List, [], ◌∷◌, ◌++◌, take, refl}
use Rattle.dsa_jobs.proofs.Chunks.{slice_end, chunk_left, line_answered, line_part, rest_read}
use Rattle.dsa_jobs.proofs.serving.serve_chunk.Goals as goal

pub returns-then-not-answer-clause-part : goal.returns-then-not-answer-clause-part
returns-then-not-answer-clause-part g c =
    let rest = c.loop-end.rest.now in
    let end = c.in-Some.end in
    let (part, joined, served) = c.loop-end.invariant in
    λ seen start so_far more.
    line_part seen part rest c.args.chunk.now _ end c.loop-end.line c.add.new.self start _ _ c.in-Some.ensures refl joined (served seen start so_far) c.add.ensures c.if-not-answer.ensures.prefix more

pub loop-end-preserved : goal.loop-end-preserved
loop-end-preserved g c =
    let rest = c.loop-end.rest.now in
    let end = c.in-Some.end in
    let (part, joined, served) = c.loop-end.invariant in (
      part ++ (take end rest ++ (10 ∷ [])),
      chunk_left part rest c.args.chunk.now _ end c.in-Some.ensures joined (slice_end rest _),
      λ seen start so_far.
          line_answered seen part rest _ end c.loop-end.line c.add.new.self c.clear.new.self start _ _ c.in-Some.ensures refl (served seen start so_far) c.add.ensures c.if-not-answer.ensures.whole c.clear.ensures,
    )

pub returns-clause-whole : goal.returns-clause-whole
returns-clause-whole g c =
    let (part, joined, served) = c.loop-end.invariant in
    λ seen start so_far. rest_read seen part c.loop-end.rest.now c.args.chunk.now c.loop-end.line c.add-2.new.self start _ c.in_default.ensures joined (served seen start so_far) c.add-2.ensures
