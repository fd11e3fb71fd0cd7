use Rattle.std.proofs.Common.{◌≡◌, List, [], ℕ, ◌++◌, sym, ap, ◌∙◌, subst, arith, append_assoc}
use Rattle.std.proofs.KnownBytes.{Appends-nil, Appends-trans}
use Rattle.std.specs.Io.KnownBytes.{Appends}
use Rattle.std.specs.Slice.Iter.{chunks_rest, chunks_size}
use Rattle.hex.specs.Hex.{encode_lower}
use Rattle.dsa_report.proofs.Digits.{digits-append, digits-nil}
use Rattle.dsa_report.proofs.Written.{WritesPart, part_between}
use Rattle.dsa_report.proofs.writing.write_digits.Goals as goal

pub loop-chunk-init : goal.loop-chunk-init
loop-chunk-init g c =
    let same = c.into_iter-chunk-iterator.ensures.into_iter_gives in
    let made = c.chunks-chunk-items.ensures in
    let size = ap chunks_size same ∙ made.size in
    let contents = g.W.Write.contents c.args.writer.now in (
      omega (arith, size),
      tt,
      size,
      ([], subst (Appends contents contents) (sym digits-nil) (Appends-nil contents), ap chunks_rest same ∙ made.rest),
    )

pub loop-chunk-preserved : goal.loop-chunk-preserved
loop-chunk-preserved g c =
    let contents = g.W.Write.contents in
    let steps = c.in-Some.ensures.steps in
    let before = c.loop-chunk.invariant in
    let size = steps.0 ∙ before.2 in
    let chunk = c.in-Some.chunk.now in
    let rest = chunks_rest c.next.new.self in
    let (seen, written, joined) = before.3 in (
      omega (arith, size),
      tt,
      size,
      (
        seen ++ chunk,
        subst (Appends (contents c.args.writer.now) (contents c.write_chunk.new.writer)) (sym (digits-append seen chunk))
            (Appends-trans (contents c.args.writer.now) (contents c.loop-chunk.writer) (contents c.write_chunk.new.writer) (encode_lower seen) (encode_lower chunk) written c.if-not-write_chunk.ensures.whole),
        append_assoc seen chunk rest ∙ ap (λ (t : List ℕ). seen ++ t) (sym steps.1.0) ∙ joined,
      ),
    )

pub returns-then-not-write_chunk-clause-prefix : goal.returns-then-not-write_chunk-clause-prefix
returns-then-not-write_chunk-clause-prefix g c =
    let contents = g.W.Write.contents in
    let steps = c.in-Some.ensures.steps in
    let chunk = c.in-Some.chunk.now in
    let rest = chunks_rest c.next.new.self in
    let (seen, written, joined) = c.loop-chunk.invariant.3 in
    let all : encode_lower seen ++ (encode_lower chunk ++ encode_lower rest) ≡ encode_lower c.args.bytes.now =
    ap (λ (t : List ℕ). encode_lower seen ++ t) (sym (digits-append chunk rest)) ∙ sym (digits-append seen (chunk ++ rest))
    ∙ ap encode_lower (ap (λ (t : List ℕ). seen ++ t) (sym steps.1.0) ∙ joined) in
    subst (WritesPart (contents c.args.writer.now) (contents c.write_chunk.new.writer)) all
    (part_between (contents c.args.writer.now) (contents c.loop-chunk.writer) (contents c.write_chunk.new.writer) (encode_lower seen) (encode_lower chunk) (encode_lower rest) written c.if-not-write_chunk.ensures.prefix)
