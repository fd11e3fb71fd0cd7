use Rattle.std.proofs.Common.{◌≡◌, [], ◌∷◌, codes, Some, true, refl}
use Rattle.dsa_tokens.specs.Said.{Holds}
use Rattle.dsa_tokens.proofs.Kept.{none_named}
use Rattle.dsa_tokens.proofs.Read.{answers_as}
use Rattle.dsa_cert.specs.Document.{ReadsDocument}
use Rattle.dsa_report.specs.Fields.{SaysImage, SaysPlan, SaysSettings, SaysText, SaysTrace, SaysWhole}
use Rattle.dsa_report.proofs.PutJob.{put_certificate, put_name, put_engines, put_image, put_list, put_plan, put_portal, put_settings, put_staging, put_trace, put_other}
use Rattle.dsa_report.proofs.fields.SlotsFields.take.Goals as goal

pub returns-in-certificate : goal.returns-in-certificate
returns-in-certificate c =
    let r = c.read_into in
    answers_as (λ d done. Holds ReadsDocument (Some d) r.new.slot) _ c.args.depth c.args.reader.now r.new.reader r.result
    (λ d done held ms are. rw c.in-certificate.is (put_certificate c.args.self.now d ms are r.new.slot held)) r.ensures

pub returns-in-do : goal.returns-in-do
returns-in-do c =
    let r = c.read_into-in-do in
    answers_as (λ d done. Holds SaysText (Some d) r.new.slot) _ c.args.depth c.args.reader.now r.new.reader r.result
    (λ d done held ms are. rw c.in-do.is (put_name c.args.self.now d ms are r.new.slot held)) r.ensures

pub returns-in-engines : goal.returns-in-engines
returns-in-engines c =
    let r = c.read_into-in-engines in
    answers_as (λ d done. Holds SaysWhole (Some d) r.new.slot) _ c.args.depth c.args.reader.now r.new.reader r.result
    (λ d done held ms are. rw c.in-engines.is (put_engines c.args.self.now d ms are r.new.slot held)) r.ensures

pub returns-in-image : goal.returns-in-image
returns-in-image c =
    let r = c.read_into-in-image in
    answers_as (λ d done. Holds SaysImage (Some d) r.new.slot) _ c.args.depth c.args.reader.now r.new.reader r.result
    (λ d done held ms are. rw c.in-image.is (put_image c.args.self.now d ms are r.new.slot held)) r.ensures

pub returns-in-list : goal.returns-in-list
returns-in-list c =
    let r = c.read_into-in-list in
    answers_as (λ d done. Holds SaysText (Some d) r.new.slot) _ c.args.depth c.args.reader.now r.new.reader r.result
    (λ d done held ms are. rw c.in-list.is (put_list c.args.self.now d ms are r.new.slot held)) r.ensures

pub returns-in-plan : goal.returns-in-plan
returns-in-plan c =
    let r = c.read_into-in-plan in
    answers_as (λ d done. Holds SaysPlan (Some d) r.new.slot) _ c.args.depth c.args.reader.now r.new.reader r.result
    (λ d done held ms are. rw c.in-plan.is (put_plan c.args.self.now d ms are r.new.slot held)) r.ensures

pub returns-in-portal : goal.returns-in-portal
returns-in-portal c =
    let r = c.read_into-in-portal in
    answers_as (λ d done. Holds SaysText (Some d) r.new.slot) _ c.args.depth c.args.reader.now r.new.reader r.result
    (λ d done held ms are. rw c.in-portal.is (put_portal c.args.self.now d ms are r.new.slot held)) r.ensures

pub returns-in-settings : goal.returns-in-settings
returns-in-settings c =
    let r = c.read_into-in-settings in
    answers_as (λ d done. Holds SaysSettings (Some d) r.new.slot) _ c.args.depth c.args.reader.now r.new.reader r.result
    (λ d done held ms are. rw c.in-settings.is (put_settings c.args.self.now d ms are r.new.slot held)) r.ensures

pub returns-in-staging : goal.returns-in-staging
returns-in-staging c =
    let r = c.read_into-in-staging in
    answers_as (λ d done. Holds SaysText (Some d) r.new.slot) _ c.args.depth c.args.reader.now r.new.reader r.result
    (λ d done held ms are. rw c.in-staging.is (put_staging c.args.self.now d ms are r.new.slot held)) r.ensures

pub returns-in-trace : goal.returns-in-trace
returns-in-trace c =
    let r = c.read_into-in-trace in
    answers_as (λ d done. Holds SaysTrace (Some d) r.new.slot) _ c.args.depth c.args.reader.now r.new.reader r.result
    (λ d done held ms are. rw c.in-trace.is (put_trace c.args.self.now d ms are r.new.slot held)) r.ensures

pub returns-in_default : goal.returns-in_default
returns-in_default c =
    let key = c.args.key.now in
    let r = c.pass_member in
    let n9 = none_named key (codes "trace") [] c.in_default.not-trace refl in
    let n8 = none_named key (codes "staging") (codes "trace" ∷ []) c.in_default.not-staging n9 in
    let n7 = none_named key (codes "settings") (codes "staging" ∷ codes "trace" ∷ []) c.in_default.not-settings n8 in
    let n6 = none_named key (codes "portal") (codes "settings" ∷ codes "staging" ∷ codes "trace" ∷ []) c.in_default.not-portal n7 in
    let n5 = none_named key (codes "plan") (codes "portal" ∷ codes "settings" ∷ codes "staging" ∷ codes "trace" ∷ []) c.in_default.not-plan n6 in
    let n4 = none_named key (codes "list") (codes "plan" ∷ codes "portal" ∷ codes "settings" ∷ codes "staging" ∷ codes "trace" ∷ []) c.in_default.not-list n5 in
    let n3 = none_named key (codes "image") (codes "list" ∷ codes "plan" ∷ codes "portal" ∷ codes "settings" ∷ codes "staging" ∷ codes "trace" ∷ []) c.in_default.not-image n4 in
    let n2 = none_named key (codes "engines") (codes "image" ∷ codes "list" ∷ codes "plan" ∷ codes "portal" ∷ codes "settings" ∷ codes "staging" ∷ codes "trace" ∷ []) c.in_default.not-engines n3 in
    let n1 = none_named key (codes "do") (codes "engines" ∷ codes "image" ∷ codes "list" ∷ codes "plan" ∷ codes "portal" ∷ codes "settings" ∷ codes "staging" ∷ codes "trace" ∷ []) c.in_default.not-do n2 in
    let n0 = none_named key (codes "certificate") (codes "do" ∷ codes "engines" ∷ codes "image" ∷ codes "list" ∷ codes "plan" ∷ codes "portal" ∷ codes "settings" ∷ codes "staging" ∷ codes "trace" ∷ []) c.in_default.not-certificate n1 in
    answers_as (λ d done. r.new.has_others ≡ true) _ c.args.depth c.args.reader.now r.new.reader r.result
    (λ d done other ms are. rw other (put_other c.args.self.now d ms are key n0)) r.ensures
