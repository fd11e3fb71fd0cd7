use Rattle.std.proofs.Common.{inl, inr}
use Rattle.std.specs.Prelude.{flat_map}
use Rattle.dsa_tracker.proofs.Pieces.{in_append, writes_parts}
use Rattle.dsa_tracker.proofs.keeping.replace_by_writes.Goals as goal

pub returns : goal.returns
returns g c = λ a.
    let records = c.append_records.ensures.spans a in
    let targets = c.append_targets.ensures.spans a in
    let staged = c.append.ensures.spans a in
    let both = in_append c.args.staged.now (flat_map g.P.Touching.writes c.args.pieces.now) a in
    let parts = writes_parts g.P.Touching.writes c.args.pieces.now a in (
      λ h. elim (records.0 h) [
        | inl before ↦ elim (targets.0 before) [
          | inl first ↦ elim (staged.0 first) [ inl none ↦ absurd (c.clear.ensures.none a none) | inr here ↦ both.1 (inl here) ]
          | inr t ↦ both.1 (inr (parts.1 (inl t)))
        ]
        | inr r ↦ both.1 (inr (parts.1 (inr r)))
      ],
      λ h. elim (both.0 h) [
        | inl here ↦ records.1 (inl (targets.1 (inl (staged.1 (inr here)))))
        | inr some ↦ elim (parts.0 some) [ inl t ↦ records.1 (inl (targets.1 (inr t))) | inr r ↦ records.1 (inr r) ]
      ],
    )
