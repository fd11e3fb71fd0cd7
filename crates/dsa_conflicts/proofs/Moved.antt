-- When the data of two moves conflicts.
use Rattle.std.proofs.Common.{◌≡◌, ℕ, [], ◌∷◌, sym, subst, inl, inr, ◌⊎◌, ◌∙◌}
use Rattle.std.specs.Prelude.{Some, List, slice_get}
use Rattle.std.proofs.lemmas.Option.{same_Some}
use Rattle.dsa_descriptor.specs.declared.op.Op.{Op}
use Rattle.dsa_descriptor.specs.declared.span.Span.{Span}
use Rattle.dsa_descriptor.specs.declared.op.Op.TheVariants.{Move}
use Rattle.dsa_descriptor.specs.Fields.{Fields}
use Rattle.dsa_descriptor.specs.Data.{sources, targets}
use Rattle.dsa_descriptor.specs.Spans.{InSome, InSpan, Meets, span}
use Rattle.dsa_ranges.specs.Ranges.{Conflicts}
use Rattle.dsa_conflicts.specs.Spread.{DataConflict, DataConflictAt}

-- data that conflicts makes a conflict
pub data_conflicts : (f g : Fields) → DataConflict f g → Conflicts f g
data_conflicts f g (inl (x, writes, inl reads)) = inl (x, inr writes, inl reads)
data_conflicts f g (inl (x, writes, inr target)) = inl (x, inr writes, inr (inr target))
data_conflicts f g (inr (x, writes, inl reads)) = inr (x, inr writes, inl reads)
data_conflicts f g (inr (x, writes, inr target)) = inr (x, inr writes, inr (inr target))

-- a conflict of records or data has that of data
pub conflicts_with_data : (f g : Fields) → (Conflicts f g → ⊥) → DataConflict f g → ⊥
conflicts_with_data f g none c = none (data_conflicts f g c)

-- the descriptors at the two places are these
pub data_conflict_of : (fs : List Fields) (i j : ℕ) (f g : Fields) → slice_get fs i ≡ Some f → slice_get fs j ≡ Some g → DataConflictAt fs i j → DataConflict f g
data_conflict_of fs i j f g at_f at_g (d, e, at_d, at_e, c) =
    subst (λ (y : Fields). DataConflict y g) (same_Some d f (sym at_d ∙ at_f)) (subst (λ (y : Fields). DataConflict d y) (same_Some e g (sym at_e ∙ at_g)) c)

module _ (op : Op) (size src dst : ℕ) (is : op ≡ Move src dst) (x : ℕ) where
  to_source : InSpan (span src size) x → InSome (sources op size) x
  to_source h = subst (λ (o : Op). InSome (sources o size) x) (sym is) (inl h)

  to_target : InSpan (span dst size) x → InSome (targets op size) x
  to_target h = subst (λ (o : Op). InSome (targets o size) x) (sym is) (inl h)

  one : (s : Span) → InSome (s ∷ []) x → InSpan s x
  one s (inl h) = h
  one s (inr h) = elim h [ ]

  of_source : InSome (sources op size) x → InSpan (span src size) x
  of_source h = one (span src size) (subst (λ (o : Op). InSome (sources o size) x) is h)

  of_target : InSome (targets op size) x → InSpan (span dst size) x
  of_target h = one (span dst size) (subst (λ (o : Op). InSome (targets o size) x) is h)

module _ (f g : Fields) (src dst other_src other_dst : ℕ) (f_is : f.op ≡ Move src dst) (g_is : g.op ≡ Move other_src other_dst) where
  abbrev pub Meet : Type 0
  Meet = Meets (span dst f.size) (span other_src g.size) ⊎ Meets (span dst f.size) (span other_dst g.size) ⊎ Meets (span other_dst g.size) (span src f.size)

  pub moves_meet : Meet → DataConflict f g
  moves_meet (inl (x, target, source)) = inl (x, to_target f.op f.size src dst f_is x target, inl (to_source g.op g.size other_src other_dst g_is x source))
  moves_meet (inr (inl (x, target, other))) = inl (x, to_target f.op f.size src dst f_is x target, inr (to_target g.op g.size other_src other_dst g_is x other))
  moves_meet (inr (inr (x, other, source))) = inr (x, to_target g.op g.size other_src other_dst g_is x other, inl (to_source f.op f.size src dst f_is x source))

  pub meet_by_data : DataConflict f g → Meet
  meet_by_data (inl (x, target, inl source)) = inl (x, of_target f.op f.size src dst f_is x target, of_source g.op g.size other_src other_dst g_is x source)
  meet_by_data (inl (x, target, inr other)) = inr (inl (x, of_target f.op f.size src dst f_is x target, of_target g.op g.size other_src other_dst g_is x other))
  meet_by_data (inr (x, other, inl source)) = inr (inr (x, of_target g.op g.size other_src other_dst g_is x other, of_source f.op f.size src dst f_is x source))
  meet_by_data (inr (x, other, inr target)) = inr (inl (x, of_target f.op f.size src dst f_is x target, of_target g.op g.size other_src other_dst g_is x other))
