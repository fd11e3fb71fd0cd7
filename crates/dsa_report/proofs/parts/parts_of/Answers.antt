use Rattle.std.proofs.Common.{inr, sym}
use Rattle.std.proofs.lemmas.Result.{err_from_is_err_and}
use Rattle.dsa_report.proofs.Refusals.{no_other, members_refused, settings_refused}
use Rattle.dsa_report.proofs.Made.{no_events, right, list_refused, portal_refused, staging_refused, no_image_made, no_certificate_made, parts_made}
use Rattle.dsa_report.proofs.parts.parts_of.Goals as goal

pub returns-in_default : goal.returns-in_default
returns-in_default c = λ d is named.
    let name = c.args.name in
    inr (members_refused d (name, named) (no_other d name named (c.in_default.ensures d is named)))

pub returns-in_default-into_held : goal.returns-in_default-into_held
returns-in_default-into_held c = λ d is named.
    inr (no_events d c.args.name c.in-Some.members (c.in-Some.ensures d is named) (sym c.in_default-into_held.ensures))

pub returns-in_err-settings : goal.returns-in_err-settings
returns-in_err-settings c = λ d is named.
    let read = c.in-Some.ensures d is named in
    let p = err_from_is_err_and c.from_residual.result c.from_residual.ensures.1 in
    rw (p.1, p.2) (settings_refused d (c.args.name, read.0) read.1 (right d c.args.name c.in-Some.members read c.in-Some-into_held.trace (sym c.in-Some-into_held.ensures)) c.in_err-settings.field-0.0 (c.in_err-settings.ensures read.0.settings read.2.settings))

pub returns-in_err-list : goal.returns-in_err-list
returns-in_err-list c = λ d is named.
    let read = c.in-Some.ensures d is named in
    let p = err_from_is_err_and c.from_residual-in_err-list.result c.from_residual-in_err-list.ensures.1 in
    rw (p.1, p.2) (list_refused d c.args.name c.in-Some.members read c.in-Some-into_held.trace (sym c.in-Some-into_held.ensures) (c.in_ok-settings.ensures read.0.settings read.2.settings).1 c.in_err-list.field-0.0 c.in_err-list.ensures)

pub returns-in_err-portal : goal.returns-in_err-portal
returns-in_err-portal c = λ d is named.
    let read = c.in-Some.ensures d is named in
    let p = err_from_is_err_and c.from_residual-in_err-portal.result c.from_residual-in_err-portal.ensures.1 in
    rw (p.1, p.2) (portal_refused d c.args.name c.in-Some.members read c.in-Some-into_held.trace (sym c.in-Some-into_held.ensures) (c.in_ok-settings.ensures read.0.settings read.2.settings).1 c.in_err-portal.field-0.0 c.in_err-portal.ensures)

pub returns-in_err-staging : goal.returns-in_err-staging
returns-in_err-staging c = λ d is named.
    let read = c.in-Some.ensures d is named in
    let p = err_from_is_err_and c.from_residual-in_err-staging.result c.from_residual-in_err-staging.ensures.1 in
    rw (p.1, p.2) (staging_refused d c.args.name c.in-Some.members read c.in-Some-into_held.trace (sym c.in-Some-into_held.ensures) (c.in_ok-settings.ensures read.0.settings read.2.settings).1 c.in_err-staging.field-0.0 c.in_err-staging.ensures)

pub returns-in_err-image : goal.returns-in_err-image
returns-in_err-image c = λ d is named.
    let read = c.in-Some.ensures d is named in
    let p = err_from_is_err_and c.from_residual-in_err-image.result c.from_residual-in_err-image.ensures.1 in
    rw (p.1, p.2) (no_image_made d c.args.name c.in-Some.members read c.in-Some-into_held.trace (sym c.in-Some-into_held.ensures) (c.in_ok-settings.ensures read.0.settings read.2.settings).1 c.in_ok-list.list c.in_ok-portal.portal c.in_ok-staging.staging c.in_ok-list.ensures c.in_ok-portal.ensures c.in_ok-staging.ensures c.in_err-image.field-0.0 c.in_err-image.ensures)

pub returns-in_default-into_held-2 : goal.returns-in_default-into_held-2
returns-in_default-into_held-2 c = λ d is named.
    let read = c.in-Some.ensures d is named in
    inr (no_certificate_made d c.args.name c.in-Some.members read c.in-Some-into_held.trace (sym c.in-Some-into_held.ensures) (c.in_ok-settings.ensures read.0.settings read.2.settings).1 c.in_ok-list.list c.in_ok-portal.portal c.in_ok-staging.staging c.in_ok-list.ensures c.in_ok-portal.ensures c.in_ok-staging.ensures c.in_ok-image.image c.in_ok-image.ensures (sym c.in_default-into_held-2.ensures))

pub returns : goal.returns
returns c = λ d is named.
    let read = c.in-Some.ensures d is named in
    let settings = c.in_ok-settings.ensures read.0.settings read.2.settings in
    parts_made d c.args.name c.in-Some.members read c.in-Some-into_held.trace (sym c.in-Some-into_held.ensures) settings.1 c.in_ok-list.list c.in_ok-portal.portal c.in_ok-staging.staging c.in_ok-list.ensures c.in_ok-portal.ensures c.in_ok-staging.ensures c.in_ok-image.image c.in_ok-image.ensures c.in-Some-into_held-2.certificate c.in_ok-settings.settings (sym c.in-Some-into_held-2.ensures) settings.0
