use Rattle.std.proofs.Common.{◌≡◌, ◌+◌, ◌++◌, List, ℕ, [], take, drop, get_or, refl, sym, ap, ◌∙◌, arith}
use Rattle.std.specs.Int.{w64, to_le_bytes}
use Rattle.std.proofs.lemmas.List.{take-append-drop}
use Rattle.dsa_prepared.proofs.Put.{word_counts, word_more}
use Rattle.dsa_prepared.proofs.row.Row.fill.Goals as goal

pub returns : goal.returns
returns c =
    let old : List ℕ = c.args.buffer.now in
    let place : ℕ = c.args.place in
    let words : List ℕ = c.args.self.now.words in
    let here : place ≡ place + 0 = omega arith in
    let none : old ≡ take place old ++ ([] ++ drop (place + 0) old) = sym (take-append-drop place old) ∙ ap (λ (n : ℕ). take place old ++ drop n old) here in
    let part0 : List ℕ = to_le_bytes w64 (get_or words 0 0) in
    let part1 : List ℕ = to_le_bytes w64 (c.args.origins.now.completion.origin + get_or words 3 0) in
    let part2 : List ℕ = to_le_bytes w64 (c.args.origins.now.first.origin + get_or words 5 0) in
    let part3 : List ℕ = to_le_bytes w64 (c.args.origins.now.second.origin + get_or words 7 0) in
    let part4 : List ℕ = to_le_bytes w64 (get_or words 1 0) in
    let part5 : List ℕ = to_le_bytes w64 c.own_in-own.result.first in
    let part6 : List ℕ = to_le_bytes w64 c.own_in-own.result.second in
    let part7 : List ℕ = to_le_bytes w64 0 in
    let completion = sym (word_counts c.args.bases.now c.args.staging (get_or words 2 0) c.args.origins.now.completion.kind c.args.origins.now.completion.origin (get_or words 3 0) c.requires.origins.completion c.requires.kinds.completion c.requires.values.completion) in
    let first = sym (word_counts c.args.bases.now c.args.staging (get_or words 4 0) c.args.origins.now.first.kind c.args.origins.now.first.origin (get_or words 5 0) c.requires.origins.first c.requires.kinds.first c.requires.values.first) in
    let second = sym (word_counts c.args.bases.now c.args.staging (get_or words 6 0) c.args.origins.now.second.kind c.args.origins.now.second.origin (get_or words 7 0) c.requires.origins.second c.requires.kinds.second c.requires.values.second) in
    let done0 : List ℕ = [] in
    let done1 : List ℕ = done0 ++ part0 in
    let done2 : List ℕ = done1 ++ part1 in
    let done3 : List ℕ = done2 ++ part2 in
    let done4 : List ℕ = done3 ++ part3 in
    let done5 : List ℕ = done4 ++ part4 in
    let done6 : List ℕ = done5 ++ part5 in
    let done7 : List ℕ = done6 ++ part6 in
    let one : c.put.new.buffer ≡ take place old ++ ((done0 ++ part0) ++ drop (place + 8) old) = word_more old old c.put.new.buffer done0 part0 place 0 place none refl here (omega (arith, c.requires.room)) c.put.ensures in
    let two : c.put-2.new.buffer ≡ take place old ++ ((done1 ++ part1) ++ drop (place + 16) old) = word_more old c.put.new.buffer c.put-2.new.buffer done1 part1 place 8 (place + 8) one refl refl (omega (arith, c.requires.room)) c.put-2.ensures in
    let three : c.put-3.new.buffer ≡ take place old ++ ((done2 ++ part2) ++ drop (place + 24) old) = word_more old c.put-2.new.buffer c.put-3.new.buffer done2 part2 place 16 (place + 16) two refl refl (omega (arith, c.requires.room)) c.put-3.ensures in
    let four : c.put-4.new.buffer ≡ take place old ++ ((done3 ++ part3) ++ drop (place + 32) old) = word_more old c.put-3.new.buffer c.put-4.new.buffer done3 part3 place 24 (place + 24) three refl refl (omega (arith, c.requires.room)) c.put-4.ensures in
    let five : c.put-5.new.buffer ≡ take place old ++ ((done4 ++ part4) ++ drop (place + 40) old) = word_more old c.put-4.new.buffer c.put-5.new.buffer done4 part4 place 32 (place + 32) four refl refl (omega (arith, c.requires.room)) c.put-5.ensures in
    let six : c.put-6.new.buffer ≡ take place old ++ ((done5 ++ part5) ++ drop (place + 48) old) = word_more old c.put-5.new.buffer c.put-6.new.buffer done5 part5 place 40 (place + 40) five refl refl (omega (arith, c.requires.room)) c.put-6.ensures in
    let seven : c.put-7.new.buffer ≡ take place old ++ ((done6 ++ part6) ++ drop (place + 56) old) = word_more old c.put-6.new.buffer c.put-7.new.buffer done6 part6 place 48 (place + 48) six refl refl (omega (arith, c.requires.room)) c.put-7.ensures in
    let eight : c.put-8.new.buffer ≡ take place old ++ ((done7 ++ part7) ++ drop (place + 64) old) = word_more old c.put-7.new.buffer c.put-8.new.buffer done7 part7 place 56 (place + 56) seven refl refl (omega (arith, c.requires.room)) c.put-8.ensures in
    eight ∙ (λ i. take place old ++ ((part0 ++ (to_le_bytes w64 (completion i) ++ (to_le_bytes w64 (first i) ++ (to_le_bytes w64 (second i)
    ++ (part4 ++ (c.own_in-own.ensures i ++ part7)))))) ++ drop (place + 64) old))
