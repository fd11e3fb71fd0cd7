use Rattle.std.proofs.Common.{◌≡◌, ◌<◌, ◌++◌, List, [], ◌∷◌, None, map, take, drop, length, length-take, set, ap, sym, ◌∙◌, ◌+◌, arith}
use Rattle.std.proofs.lemmas.List.{length-map, map_more}
use Rattle.dsa_c.specs.declared.certificate.RawPair.{RawPair}
use Rattle.dsa_c.specs.Certificates.{raw_pair_of}
use Rattle.dsa_c.proofs.Putting.{put_more}
use Rattle.dsa_c.proofs.certificate.put_pairs.Goals as goal

pub loop-index-preserved : goal.loop-index-preserved
loop-index-preserved c =
    let i = c.loop-index.index in
    let pairs = c.args.pairs.now in
    let r = c.raw_pair_of.result in
    let inside : i < length pairs = omega (arith, c.loop-index-test.true) in
    let room : i < length c.args.buffer.now = omega (arith, inside, c.requires) in
    let front = map raw_pair_of (take i pairs) in
    let long : length front ≡ i = omega (arith, length-map (take i pairs) raw_pair_of, length-take i pairs) in
    ap (λ (b : List RawPair). set b i r) c.loop-index.invariant
    ∙ put_more front c.args.buffer.now i r long room
    ∙ ap (λ (l : List RawPair). l ++ drop (i + 1) c.args.buffer.now) (ap (λ (x : RawPair). front ++ (x ∷ [])) c.raw_pair_of.ensures ∙ sym (map_more raw_pair_of pairs i None inside))
