use Rattle.std.proofs.Common.{◌≡◌, [], ◌∷◌, codes, Some, true, refl}
use Rattle.dsa_tokens.specs.Said.{Holds}
use Rattle.dsa_tokens.proofs.Kept.{none_named}
use Rattle.dsa_tokens.proofs.Read.{answers_as}
use Rattle.dsa_report.specs.Held.{SaysBatch, SaysNumber}
use Rattle.dsa_report.proofs.PutSettings.{put_batch, put_fence, put_greatest_batch, put_greatest_transfer, put_lone, put_staging, put_version, put_other}
use Rattle.dsa_report.proofs.settings.HeldFields.take.Goals as goal

pub returns-in-batch : goal.returns-in-batch
returns-in-batch c =
    let r = c.read_into in
    answers_as (λ d done. Holds SaysBatch (Some d) r.new.slot) _ c.args.depth c.args.reader.now r.new.reader r.result
    (λ d done held ms are. rw c.in-batch.is (put_batch c.args.self.now d ms are r.new.slot held)) r.ensures

pub returns-in-fence : goal.returns-in-fence
returns-in-fence c =
    let r = c.read_into-in-fence in
    answers_as (λ d done. Holds SaysNumber (Some d) r.new.slot) _ c.args.depth c.args.reader.now r.new.reader r.result
    (λ d done held ms are. rw c.in-fence.is (put_fence c.args.self.now d ms are r.new.slot held)) r.ensures

pub returns-in-greatest_batch : goal.returns-in-greatest_batch
returns-in-greatest_batch c =
    let r = c.read_into-in-greatest_batch in
    answers_as (λ d done. Holds SaysNumber (Some d) r.new.slot) _ c.args.depth c.args.reader.now r.new.reader r.result
    (λ d done held ms are. rw c.in-greatest_batch.is (put_greatest_batch c.args.self.now d ms are r.new.slot held)) r.ensures

pub returns-in-greatest_transfer : goal.returns-in-greatest_transfer
returns-in-greatest_transfer c =
    let r = c.read_into-in-greatest_transfer in
    answers_as (λ d done. Holds SaysNumber (Some d) r.new.slot) _ c.args.depth c.args.reader.now r.new.reader r.result
    (λ d done held ms are. rw c.in-greatest_transfer.is (put_greatest_transfer c.args.self.now d ms are r.new.slot held)) r.ensures

pub returns-in-lone : goal.returns-in-lone
returns-in-lone c =
    let r = c.read_into-in-lone in
    answers_as (λ d done. Holds SaysNumber (Some d) r.new.slot) _ c.args.depth c.args.reader.now r.new.reader r.result
    (λ d done held ms are. rw c.in-lone.is (put_lone c.args.self.now d ms are r.new.slot held)) r.ensures

pub returns-in-staging : goal.returns-in-staging
returns-in-staging c =
    let r = c.read_into-in-staging in
    answers_as (λ d done. Holds SaysNumber (Some d) r.new.slot) _ c.args.depth c.args.reader.now r.new.reader r.result
    (λ d done held ms are. rw c.in-staging.is (put_staging c.args.self.now d ms are r.new.slot held)) r.ensures

pub returns-in-version : goal.returns-in-version
returns-in-version c =
    let r = c.read_into-in-version in
    answers_as (λ d done. Holds SaysNumber (Some d) r.new.slot) _ c.args.depth c.args.reader.now r.new.reader r.result
    (λ d done held ms are. rw c.in-version.is (put_version c.args.self.now d ms are r.new.slot held)) r.ensures

pub returns-in_default : goal.returns-in_default
returns-in_default c =
    let key = c.args.key.now in
    let r = c.pass_member in
    let n6 = none_named key (codes "version") [] c.in_default.not-version refl in
    let n5 = none_named key (codes "staging") (codes "version" ∷ []) c.in_default.not-staging n6 in
    let n4 = none_named key (codes "lone") (codes "staging" ∷ codes "version" ∷ []) c.in_default.not-lone n5 in
    let n3 = none_named key (codes "greatest_transfer") (codes "lone" ∷ codes "staging" ∷ codes "version" ∷ []) c.in_default.not-greatest_transfer n4 in
    let n2 = none_named key (codes "greatest_batch") (codes "greatest_transfer" ∷ codes "lone" ∷ codes "staging" ∷ codes "version" ∷ []) c.in_default.not-greatest_batch n3 in
    let n1 = none_named key (codes "fence") (codes "greatest_batch" ∷ codes "greatest_transfer" ∷ codes "lone" ∷ codes "staging" ∷ codes "version" ∷ []) c.in_default.not-fence n2 in
    let n0 = none_named key (codes "batch") (codes "fence" ∷ codes "greatest_batch" ∷ codes "greatest_transfer" ∷ codes "lone" ∷ codes "staging" ∷ codes "version" ∷ []) c.in_default.not-batch n1 in
    answers_as (λ d done. r.new.has_others ≡ true) _ c.args.depth c.args.reader.now r.new.reader r.result
    (λ d done other ms are. rw other (put_other c.args.self.now d ms are key n0)) r.ensures
