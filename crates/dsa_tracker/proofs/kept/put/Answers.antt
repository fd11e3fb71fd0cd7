use Rattle.std.proofs.Common.{◌+◌, ◌-◌, inl, inr, arith}
use Rattle.dsa_tracker.proofs.Stored.{added, joined_at, range_is, second_way}
use Rattle.dsa_tracker.proofs.kept.put.Goals as goal

pub returns-then-span-eq0-clause-spans : goal.returns-then-span-eq0-clause-spans
returns-then-span-eq0-clause-spans c = λ a. (
  λ h. inl h,
  λ h. elim h [ inl before ↦ before | inr here ↦ let le = here.0 in let lt = here.1 in absurd (omega (arith, le, lt, c.if-span-eq0.true)) ],
)

pub returns-then-follows-clause-spans : goal.returns-then-follows-clause-spans
returns-then-follows-clause-spans c =
    let on = c.follows.ensures c.if-follows.true in
    λ a. second_way
    (joined_at c.args.store.now c.args.span.first (c.args.span.first + (c.args.span.len - 1)) c.args.count on.0 c.requires.room on.1 on.2 (omega arith) a)
    (range_is c.args.span.first c.args.span.len a c.if-span-eq0.false)

pub returns-clause-spans : goal.returns-clause-spans
returns-clause-spans c =
    λ a. second_way
    (added c.args.store.now c.args.count c.args.span.first (c.args.span.first + (c.args.span.len - 1)) c.requires.room a)
    (range_is c.args.span.first c.args.span.len a c.if-span-eq0.false)
