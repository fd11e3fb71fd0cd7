use Rattle.std.proofs.Common.{◌≡◌, ◌<◌, ℕ, rules, inl, inr, length, ap, subst, ◌∙◌, arith}
use Rattle.dsa_settings.specs.Settings.{Limits}
use Rattle.dsa_prepared.specs.Preparing.{IsAnyCostedOf, IsFirstAnyPrepareFault}
use Rattle.dsa_prepared.specs.Rows.{rows_of}
use Rattle.dsa_prepared.specs.Templates.{Template}
use Rattle.dsa_c.specs.Preparing.{IsPreparedFor, prepare_refusal_of, refusal_at}
use Rattle.dsa_c.proofs.preparing.prepare_under.Goals as goal

pub returns-then-rows-room : goal.returns-then-rows-room
returns-then-rows-room c = λ raw table is are.
    let t : Template = c.in-Ok.costed.prepared in
    let cost : ℕ = c.in-Ok.costed.cost in
    let found = c.in-Ok.ensures.prepared in
    let costed = subst (λ (l : Limits). IsAnyCostedOf c.args.list.now l c.args.regions.now found.0 t cost) is found.1 in
    let long = ap length c.as_rows-rows.ensures.value in
    (record { settings = are; operations = found.0; prepared = costed }, omega (arith, c.if-rows-room.true, long))

pub returns-else-rows-room : goal.returns-else-rows-room
returns-else-rows-room c = λ raw table is are.
    let t : Template = c.in-Ok.costed.prepared in
    let cost : ℕ = c.in-Ok.costed.cost in
    let found = c.in-Ok.ensures.prepared in
    let costed = subst (λ (l : Limits). IsAnyCostedOf c.args.list.now l c.args.regions.now found.0 t cost) is found.1 in
    let for : IsPreparedFor raw table c.args.list.now c.args.regions.now t cost = record { settings = are; operations = found.0; prepared = costed } in
    let long : length c.as_rows-rows.result.now ≡ length (rows_of t) = ap length c.as_rows-rows.ensures.value in
    let short : c.args.room < length (rows_of t) = omega (arith, c.if-rows-room.false, long) in
    (search rules, inr (inr (inr (t, cost, for, short, c.refusal_at.ensures ∙ ap (λ (n : ℕ). refusal_at 92 n 0) long))))

pub returns-in-Err : goal.returns-in-Err
returns-in-Err c = λ raw table is are. (
  c.prepare_refusal.ensures.some,
  elim c.in-Err.ensures.fault [
    | inl memory ↦ inr (inl (c.prepare_refusal.ensures.value ∙ ap prepare_refusal_of memory, are))
    | inr first ↦
        let first' = subst (λ (l : Limits). IsFirstAnyPrepareFault c.args.list.now l c.args.regions.now c.in-Err.fault) is first in
        inr (inr (inl (c.in-Err.fault, are, first', c.prepare_refusal.ensures.value)))
  ],
)
