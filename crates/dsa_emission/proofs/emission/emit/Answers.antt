use Rattle.std.proofs.Common.{ℕ, ◌≡◌, ◌∙◌, List, subst}
use Rattle.std.specs.Prelude.{IfOk}
use Rattle.std.proofs.lemmas.List.{length-map}
use Rattle.dsa_descriptor.specs.Descriptors.{fields}
use Rattle.dsa_descriptor.specs.Spelling.{spelling}
use Rattle.dsa_descriptor.proofs.Listed.{spelt_owner}
use Rattle.dsa_emission.proofs.Places.{portal_map, staging_map}
use Rattle.dsa_emission.proofs.emission.emit.Goals as goal

pub emit_entries-requires-clause-covers : goal.emit_entries-requires-clause-covers
emit_entries-requires-clause-covers c = c.requires.covers ∙ length-map c.args.pieces.now fields

pub emit_entries-requires-clause-owner : goal.emit_entries-requires-clause-owner
emit_entries-requires-clause-owner c = spelt_owner c.args.pieces.now c.requires.one_owner

pub returns-clause-portal : goal.returns-clause-portal
returns-clause-portal c =
    subst (λ (bytes : List ℕ). IfOk c.emit_entries.result (λ e. e.portal.items ≡ bytes))
    (portal_map _ _ spelling fields c.args.settings.now c.args.plan.now c.args.pieces.now) c.emit_entries.ensures.portal

pub returns-clause-staging : goal.returns-clause-staging
returns-clause-staging c =
    subst (λ (bytes : List ℕ). IfOk c.emit_entries.result (λ e. e.staging.items ≡ bytes))
    (staging_map _ _ spelling fields c.args.plan.now c.args.pieces.now) c.emit_entries.ensures.staging
