-- A plan as one group, in which each group's beginning after the first is a fence, too: a piece that begins a group is
-- after what the piece before it is in, as one after a fence is (specification 341204, batch and fence; that groups are
-- awaited in turn is this project's choice).
use Rattle.std.specs.Prelude.{Bool, List, [], ◌∷◌}
use Rattle.dsa_descriptor.specs.Fences.{after_first}
use Rattle.dsa_descriptor.specs.declared.span.Span.{Span}
use Rattle.dsa_settings.specs.Epochs.{cuts}
use Rattle.dsa_settings.specs.Plan.{Plan}
use Rattle.dsa_reasons.specs.declared.fences.Fence.{Fence}
use Rattle.dsa_reasons.specs.declared.fences.Detail.TheVariants.{First}
use Rattle.dsa_reasons.specs.Fences.{AreFencesOf}

-- the plan as one group: its first piece is unfenced
abbrev pub one_group : Plan → Plan
one_group plan = after_first (cuts plan) ∷ []

-- the reasons of the fences of that group, each with the first of the conflicts that it alone separates
abbrev pub AreCutReasons : {P : Type 0} → (P → List Span) → (P → List Span) → List P → List Bool → Plan → List Fence → Type 0
AreCutReasons reads writes pieces barriers plan fences = AreFencesOf First reads writes pieces barriers (one_group plan) fences
