use Rattle.std.proofs.Common.{◌≡◌, [], ◌∷◌, codes, Some, true, refl}
use Rattle.dsa_tokens.specs.Said.{Holds}
use Rattle.dsa_tokens.proofs.Kept.{none_named}
use Rattle.dsa_tokens.proofs.Read.{answers_as}
use Rattle.dsa_report.specs.Held.{SaysBytes, SaysNumber}
use Rattle.dsa_report.proofs.PutImage.{put_base, put_bytes, put_other}
use Rattle.dsa_report.proofs.image.HeldImageFields.take.Goals as goal

pub returns-in-base : goal.returns-in-base
returns-in-base c =
    let r = c.read_into in
    answers_as (λ d done. Holds SaysNumber (Some d) r.new.slot) _ c.args.depth c.args.reader.now r.new.reader r.result
    (λ d done held ms are. rw c.in-base.is (put_base c.args.self.now d ms are r.new.slot held)) r.ensures

pub returns-in-bytes : goal.returns-in-bytes
returns-in-bytes c =
    let r = c.read_into-in-bytes in
    answers_as (λ d done. Holds SaysBytes (Some d) r.new.slot) _ c.args.depth c.args.reader.now r.new.reader r.result
    (λ d done held ms are. rw c.in-bytes.is (put_bytes c.args.self.now d ms are r.new.slot held)) r.ensures

pub returns-in_default : goal.returns-in_default
returns-in_default c =
    let key = c.args.key.now in
    let r = c.pass_member in
    let n1 = none_named key (codes "bytes") [] c.in_default.not-bytes refl in
    let n0 = none_named key (codes "base") (codes "bytes" ∷ []) c.in_default.not-base n1 in
    answers_as (λ d done. r.new.has_others ≡ true) _ c.args.depth c.args.reader.now r.new.reader r.result
    (λ d done other ms are. rw other (put_other c.args.self.now d ms are key n0)) r.ensures
