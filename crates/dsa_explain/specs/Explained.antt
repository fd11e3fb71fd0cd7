-- What explaining a plan answers.
use Rattle.std.specs.Prelude.{◌≡◌, ◌<◌, ◌≤◌, Bool, List, length, map, Result, Ok, Err}
use Rattle.dsa_operations.specs.declared.operation.Operation.{Operation}
use Rattle.dsa_descriptor.specs.Pieces.{most_pieces}
use Rattle.dsa_settings.specs.Barriers.{WithBarriers}
use Rattle.dsa_settings.specs.Plan.{Plan}
use Rattle.dsa_settings.specs.Settings.{Limits}
use Rattle.dsa_settings.specs.Legal.{IsLegal}
use Rattle.dsa_plan.specs.Costs.{AreCosts}
use Rattle.dsa_settings.specs.LegalFaults.{IsFirstLegalFault}
use Rattle.dsa_explain.specs.Cells.{cells_from}
use Rattle.dsa_operations.specs.Operations.{OperationConflictAt, reads_of, writes_of}
use Rattle.dsa_reasons.specs.Fences.{AreFencesOf}
use Rattle.dsa_reasons.specs.declared.fences.Detail.{Detail}
use Rattle.dsa_explain.specs.declared.explanation.Explanation.{Explanation}
use Rattle.dsa_explain.specs.declared.explanation.ExplainFault.{ExplainFault}
use Rattle.dsa_explain.specs.declared.explanation.ExplainFault.TheVariants.{TooManyPieces, Legal, Memory}

-- the explanation has the plan's costs, its fences and its cells, and the barriers
pub record IsExplanationOf (s : Limits) (detail : Detail) (pieces : List Operation) (barriers : List Bool) (plan : Plan) (e : Explanation) : Type 0 where
  pub costs : AreCosts s (length pieces) plan e.costs
  pub fences : AreFencesOf detail reads_of writes_of pieces barriers plan e.fences.items
  pub cells : e.cells.items ≡ cells_from 0 plan
  pub marks : e.barriers.items ≡ barriers

-- the plan is legal with these barriers, and there are not too many pieces
pub record CanBeExplained (s : Limits) (pieces : List Operation) (barriers : List Bool) (plan : Plan) : Type 0 where
  pub few : length pieces ≤ most_pieces
  pub legal : IsLegal (WithBarriers (OperationConflictAt pieces) barriers) s.greatest_batch (length pieces) plan

-- If the plan can be explained: its explanation, or that memory ran out. Else that there are too
-- many pieces; else the plan's first fault.
abbrev pub Explains : Limits → Detail → List Operation → List Bool → Plan → Result Explanation ExplainFault → Type 0
Explains s detail pieces barriers plan (Ok e) = CanBeExplained s pieces barriers plan × IsExplanationOf s detail pieces barriers plan e
Explains s detail pieces barriers plan (Err Memory) = CanBeExplained s pieces barriers plan
Explains s detail pieces barriers plan (Err TooManyPieces) = most_pieces < length pieces
Explains s detail pieces barriers plan (Err (Legal fault)) =
    (length pieces ≤ most_pieces)
    × IsFirstLegalFault (WithBarriers (OperationConflictAt pieces) barriers) s.greatest_batch (length pieces) plan fault
