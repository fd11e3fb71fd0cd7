use Rattle.std.proofs.Common.{◌≡◌, ℕ, List, ◌++◌, length, Option}
use Rattle.dsa_jobs.specs.Held.{HasServed}
use Rattle.dsa_jobs.proofs.serving.serve_chunk.Given as goal

abbrev pub invariant-loop-end : goal.invariant-loop-end
invariant-loop-end g l =
    let contents = g.W.Write.contents in
    (part : List ℕ) × (part ++ l.rest ≡ l.chunk)
    × ((seen : List ℕ) (start : Option (List ℕ)) → HasServed seen l.initial.line start (contents l.initial.writer) → HasServed (seen ++ part) l.line start (contents l.writer))

abbrev pub decreases-loop-end : goal.decreases-loop-end
decreases-loop-end g l = length l.rest
