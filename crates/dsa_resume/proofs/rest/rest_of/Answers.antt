use Rattle.std.proofs.Common.{◌≡◌, ◌≢◌, ◌-◌, ℕ, List, length, sym, ap, ◌∙◌, take, arith}
use Rattle.std.specs.Prelude.{Some}
use Rattle.std.proofs.lemmas.Bool.{eqb-false}
use Rattle.std.proofs.lemmas.List.{length-drop}
use Rattle.dsa_resume.specs.Left.{left_of}
use Rattle.dsa_resume.specs.declared.left.LeftOrder.{LeftOrder}
use Rattle.dsa_resume.specs.declared.status.Ended.{Ended}
use Rattle.dsa_resume.specs.Rest.{left_before, stops_there}
use Rattle.dsa_resume.proofs.rest.rest_of.Goals as goal

-- the pieces before the front that are left
kept : {P : Type 0} (order : LeftOrder) (ps before found : List P) (ends : List Ended) (front : ℕ) → found ≡ left_of order before (take front ends) → before ≡ take front ps
    → found ≡ left_before order ps ends front
kept {P} order ps before found ends front is same = is ∙ ap (λ (xs : List P). left_of order xs (take front ends)) same

pub returns-in-Some : goal.returns-in-Some
returns-in-Some g c =
    let count : length c.split_at.result.1.now ≡ length c.args.pieces.now - c.args.front = ap length c.split_at.ensures.back ∙ length-drop c.args.front c.args.pieces.now in
    let some : length c.split_at.result.1.now ≢ 0 = eqb-false (length c.split_at.result.1.now) 0 (sym c.if-is_empty.ensures) in
    let pieces = kept c.args.order c.args.pieces.now c.split_at.result.0.now c.in_ok-left_pieces.field-0.items c.args.ends.now c.args.front c.in_ok-left_pieces.ensures c.split_at.ensures.front in
    stops_there c.in-Some.stopped_by (omega (arith, count, some)) c.in-Some.ensures
    (λ i. record {
      pieces = pieces i;
      barriers = c.new.ensures.items i;
      left_out = Some (record { pieces = count i; stopped_by = c.in-Some.stopped_by });
    })
