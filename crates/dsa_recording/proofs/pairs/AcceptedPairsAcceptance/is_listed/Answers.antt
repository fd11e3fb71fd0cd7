use Rattle.std.proofs.Common.{◌≡◌, get_or, refl, ap, sym, ◌∙◌, arith}
use Rattle.std.proofs.lemmas.Option.{slice_get-get_or}
use Rattle.dsa_audit.specs.Members.{KnownConflict}
use Rattle.dsa_recording.specs.EntryKeys.{fence_key}
use Rattle.dsa_recording.specs.Pairs.{has_key}
use Rattle.dsa_recording.proofs.FenceKeys.{listed_by}
use Rattle.dsa_recording.proofs.pairs.AcceptedPairsAcceptance.is_listed.Goals as goal

pub returns : goal.returns
returns c =
    let ms = c.args.self.now.operands.now in
    let own = fence_key c.args.self.now.entries.now c.args.earlier c.args.later c.hazards_between-hazards.result in
    let bytes : c.deref.result.now ≡ own = c.deref.ensures ∙ c.in_ok-key.ensures in
    let whole : c.has.result ≡ has_key c.args.self.now.accepted.now own = c.has.ensures ∙ ap (has_key c.args.self.now.accepted.now) bytes in
    let known : KnownConflict ms c.args.earlier c.args.later = (
      get_or ms c.args.earlier c.index-self-earlier.result,
      get_or ms c.args.later c.index-self-later.result,
      slice_get-get_or ms c.args.earlier c.index-self-earlier.result (omega arith),
      slice_get-get_or ms c.args.later c.index-self-later.result (omega arith),
      c.if-not-are_known_to_conflict.ensures.0 refl,
    ) in (
      λ yes. (omega arith, omega arith, known, (c.hazards_between-hazards.result, c.hazards_between-hazards.ensures, sym whole ∙ yes)),
      λ listed. whole ∙ listed_by c.args.self.now.accepted.now c.args.self.now.entries.now ms c.args.earlier c.args.later c.hazards_between-hazards.result c.hazards_between-hazards.ensures listed,
    )
