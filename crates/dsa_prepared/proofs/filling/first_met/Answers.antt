use Rattle.std.proofs.Common.{◌⊎◌, ◌≤◌, ◌+◌, refl, map, subst}
use Rattle.dsa_descriptor.specs.declared.span.Span.{Span}
use Rattle.dsa_prepared.specs.Filling.{new_region}
use Rattle.dsa_prepared.specs.Rows.{region_in}
use Rattle.dsa_prepared.proofs.Put.{beside_apart}
use Rattle.dsa_prepared.proofs.filling.first_met.Goals as goal

pub returns-then-is_beside : goal.returns-then-is_beside
returns-then-is_beside c = λ j lt.
    let rs = map region_in c.args.regions.now in
    let beside = subst (λ (s : Span). (c.args.top ≤ s.first) ⊎ (s.first + s.len ≤ c.args.bottom)) c.new_region.ensures (c.if-is_beside.ensures.0 refl) in
    let lies = c.requires.between j lt in
    beside_apart (new_region rs c.args.bases.now c.args.region) (new_region rs c.args.bases.now j) c.args.bottom c.args.top beside lies.0 lies.1
