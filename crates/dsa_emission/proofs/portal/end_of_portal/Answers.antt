use Rattle.std.proofs.Common.{ℕ, ◌≡◌, ◌≤◌, List, length, subst, sym, arith}
use Rattle.dsa_emission.specs.declared.place.Place.{Place}
use Rattle.dsa_emission.specs.EmissionFaults.{place_at_end}
use Rattle.dsa_emission.proofs.Shapes.{few_batches, batched_within}
use Rattle.dsa_emission.proofs.portal.end_of_portal.Goals as goal

-- the end of so few entries is small
small : (es : List (List ℕ)) (place : Place) → place ≡ place_at_end es → place.start ≤ 65536 → (place.batched ≤ 65536) × (place.batches ≤ length es)
small es place e few = subst (λ (p : Place). p.start ≤ 65536 → (p.batched ≤ 65536) × (p.batches ≤ length es)) (sym e) (λ few. (omega (arith, batched_within es), few_batches es)) few

pub overflow_mul-end : goal.overflow_mul-end
overflow_mul-end c =
    let few : c.in-Some.end.batched ≤ 65536 = (small c.as_chunks.result.0.now c.in-Some.end c.in-Some.ensures.0 c.in-Some.ensures.1).0 in
    omega arith

pub overflow_add-end : goal.overflow_add-end
overflow_add-end c =
    let both = small c.as_chunks.result.0.now c.in-Some.end c.in-Some.ensures.0 c.in-Some.ensures.1 in
    omega (arith, both.0, both.1, c.as_chunks.ensures.front_len)
