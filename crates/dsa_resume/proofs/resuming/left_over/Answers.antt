use Rattle.std.proofs.Common.{◌≡◌, ℕ, List, length, sym, ap, ◌∙◌, subst}
use Rattle.dsa_resume.specs.declared.status.Ended.{Ended}
use Rattle.dsa_resume.specs.Barriers.{IsFront, NonePassed}
use Rattle.dsa_resume.specs.Ended.{ends_of}
use Rattle.dsa_resume.specs.Rest.{IsRest, remainder_of}
use Rattle.dsa_resume.proofs.Found.{length-ends}
use Rattle.dsa_resume.proofs.resuming.left_over.Goals as goal

counted : {P : Type 0} (completions : List (List ℕ)) (given_up : List ℕ) (ends : List Ended) (ps : List P) → ends ≡ ends_of completions given_up → length completions ≡ length ps
    → length ends ≡ length ps
counted completions given_up ends ps is count = ap length is ∙ length-ends completions given_up ∙ count

pub front_of-front-requires : goal.front_of-front-requires
front_of-front-requires g c some =
    c.requires.marked some ∙ sym (ap length c.deref.ensures.value ∙ counted c.args.completions.now c.args.given_up.now c.in-Ok.ends.items c.args.pieces.now c.in-Ok.ensures c.requires.count)

pub rest_of-requires-clause-count : goal.rest_of-requires-clause-count
rest_of-requires-clause-count g c = ap length c.deref-3.ensures.value ∙ counted c.args.completions.now c.args.given_up.now c.in-Ok.ends.items c.args.pieces.now c.in-Ok.ensures c.requires.count

pub returns-in-Ok-rest_of : goal.returns-in-Ok-rest_of
returns-in-Ok-rest_of g c =
    let bs = c.args.barriers.now in
    record {
      front = c.front_of-front.result.end;
      none_passed = subst (λ (es : List Ended). NonePassed bs es) (c.deref-2.ensures.value ∙ c.in-Ok.ensures) c.in_default.ensures;
      is_front = subst (λ (es : List Ended). IsFront bs es c.front_of-front.result.end) (c.deref.ensures.value ∙ c.in-Ok.ensures) c.front_of-front.ensures.front;
      is_rest = subst (λ (es : List Ended). IsRest c.args.order c.args.pieces.now bs es c.front_of-front.result.end (remainder_of c.in-Ok-rest_of.rest))
          (c.deref-3.ensures.value ∙ c.in-Ok.ensures) c.in-Ok-rest_of.ensures;
    }
