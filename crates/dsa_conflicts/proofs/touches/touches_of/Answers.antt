use Rattle.std.proofs.Common.{rules}
use Rattle.std.specs.Prelude.{length}
use Rattle.std.specs.List.{Contains}
use Rattle.std.proofs.lemmas.List.Sorted.{All-permutation, Contains-permutation, IsNonDecreasingBy-from_sort_by_key}
use Rattle.dsa_conflicts.specs.declared.touches.Touch.{Touch}
use Rattle.dsa_conflicts.specs.declared.touches.Kind.{Kind}
use Rattle.dsa_conflicts.specs.declared.touches.Kind.TheVariants.{Source, Record, Target}
use Rattle.dsa_conflicts.specs.declared.access.Access.TheVariants.{Read, Write}
use Rattle.dsa_conflicts.specs.Touches.{HasKind, IsTouchOf, touch}
use Rattle.dsa_conflicts.proofs.Touching.{each_kind, has_kinds}
use Rattle.dsa_conflicts.proofs.touches.touches_of.Goals as goal

pub push_kind-requires-3-clause-known : goal.push_kind-requires-3-clause-known
push_kind-requires-3-clause-known g c = All-permutation (IsTouchOf g.T.Touching.reads g.T.Touching.writes c.args.pieces.now) c.push_kind-2.new.touches.items c.sort_by_key.new.self.items c.sort_by_key.ensures.permutation c.in_ok-push_kind-2.ensures.known

pub returns-clause-sorted : goal.returns-clause-sorted
returns-clause-sorted g c = IsNonDecreasingBy-from_sort_by_key (λ (t : Touch). t.span.first) _ c.in_ok-sort_by_key-2.ensures.sorted (λ a r q k. search rules)

pub returns-clause-known : goal.returns-clause-known
returns-clause-known g c = All-permutation (IsTouchOf g.T.Touching.reads g.T.Touching.writes c.args.pieces.now) c.push_kind-3.new.touches.items c.sort_by_key-2.new.self.items c.sort_by_key-2.ensures.permutation c.in_ok-push_kind-3.ensures.known

pub returns-clause-all : goal.returns-clause-all
returns-clause-all g c =
    let reads = g.T.Touching.reads in
    let writes = g.T.Touching.writes in
    let ps = c.args.pieces.now in
    let n = length c.args.pieces.now in
    let sorted = c.sort_by_key-2.new.self.items in
    let moved : (t : Touch) → Contains c.push_kind-3.new.touches.items t → Contains sorted t = λ t h. Contains-permutation c.push_kind-3.new.touches.items sorted t c.sort_by_key-2.ensures.permutation h in
    let kept : (t : Touch) → Contains c.push_kind-2.new.touches.items t → Contains sorted t =
    λ t h. moved t (c.in_ok-push_kind-3.ensures.kept t (Contains-permutation c.push_kind-2.new.touches.items c.sort_by_key.new.self.items t c.sort_by_key.ensures.permutation h)) in
    let sources : HasKind reads writes Source sorted ps n = λ i f k s lt at e. kept (touch i Read s) (c.in_ok-push_kind-2.ensures.kept (touch i Read s) (c.in_ok-push_kind.ensures.all i f k s lt at e)) in
    let records : HasKind reads writes Record sorted ps n = λ i f k s lt at e. moved (touch i Write s) (c.in_ok-push_kind-3.ensures.all i f k s lt at e) in
    let targets : HasKind reads writes Target sorted ps n = λ i f k s lt at e. kept (touch i Write s) (c.in_ok-push_kind-2.ensures.all i f k s lt at e) in
    has_kinds reads writes ps sorted n (each_kind (λ (kind : Kind). HasKind reads writes kind sorted ps n) sources records targets)
