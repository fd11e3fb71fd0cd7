use Rattle.std.proofs.Common.{◌≡◌, [], ◌∷◌, codes, Some, true, refl}
use Rattle.dsa_tokens.specs.Said.{Holds}
use Rattle.dsa_tokens.proofs.Kept.{none_named}
use Rattle.dsa_tokens.proofs.Read.{answers_as}
use Rattle.dsa_cert.specs.Held.{SaysPairs, SaysPrices, SaysVersion}
use Rattle.dsa_cert.proofs.Documents.{put_pairs, put_prices, put_version, put_other}
use Rattle.dsa_cert.proofs.reading.HeldFields.take.Goals as goal

pub returns-in-pairs : goal.returns-in-pairs
returns-in-pairs c =
    let r = c.read_into in
    answers_as (λ d done. Holds SaysPairs (Some d) r.new.slot) _ c.args.depth c.args.reader.now r.new.reader r.result
    (λ d done held ms are. rw c.in-pairs.is (put_pairs c.args.self.now d ms are r.new.slot held)) r.ensures

pub returns-in-prices : goal.returns-in-prices
returns-in-prices c =
    let r = c.read_into-in-prices in
    answers_as (λ d done. Holds SaysPrices (Some d) r.new.slot) _ c.args.depth c.args.reader.now r.new.reader r.result
    (λ d done held ms are. rw c.in-prices.is (put_prices c.args.self.now d ms are r.new.slot held)) r.ensures

pub returns-in-version : goal.returns-in-version
returns-in-version c =
    let r = c.read_into-in-version in
    answers_as (λ d done. Holds SaysVersion (Some d) r.new.slot) _ c.args.depth c.args.reader.now r.new.reader r.result
    (λ d done held ms are. rw c.in-version.is (put_version c.args.self.now d ms are r.new.slot held)) r.ensures

pub returns-in_default : goal.returns-in_default
returns-in_default c =
    let key = c.args.key.now in
    let r = c.pass_member in
    let version = none_named key (codes "version") [] c.in_default.not-version refl in
    let prices = none_named key (codes "prices") (codes "version" ∷ []) c.in_default.not-prices version in
    let pairs = none_named key (codes "pairs") (codes "prices" ∷ codes "version" ∷ []) c.in_default.not-pairs prices in
    answers_as (λ d done. r.new.has_others ≡ true) _ c.args.depth c.args.reader.now r.new.reader r.result
    (λ d done other ms are. rw other (put_other c.args.self.now d ms are key pairs)) r.ensures
