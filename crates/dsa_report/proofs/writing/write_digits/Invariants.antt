use Rattle.std.proofs.Common.{◌≡◌, ◌++◌, List, ℕ}
use Rattle.std.specs.Slice.Iter.{chunks_rest, chunks_size}
use Rattle.std.specs.Io.KnownBytes.{Appends}
use Rattle.hex.specs.Hex.{encode_lower}
use Rattle.dsa_report.proofs.writing.write_digits.Given as goal

abbrev pub invariant-loop-chunk : goal.invariant-loop-chunk
invariant-loop-chunk g l =
    (goal.iterator-loop-chunk g).can_next l.chunk-iterator
    × (goal.iterator-loop-chunk g).is_finite l.chunk-iterator
    × (chunks_size l.chunk-iterator ≡ 4096)
    × ((seen : List ℕ) × Appends (g.W.Write.contents l.initial.writer) (g.W.Write.contents l.writer) (encode_lower seen) × (seen ++ chunks_rest l.chunk-iterator ≡ l.bytes))
