-- What a run by engines requires.
use Rattle.std.specs.Prelude.{ℕ, ◌<◌, ◌≤◌, All, List, length, map}
use Rattle.dsa_descriptor.specs.declared.descriptor.Descriptor.{Descriptor}
use Rattle.dsa_descriptor.specs.Pieces.{most_pieces}
use Rattle.dsa_image.specs.Memory.{Memory}
use Rattle.dsa_settings.specs.Plan.{Plan}
use Rattle.dsa_settings.specs.Legal.{IsLegal}
use Rattle.dsa_core.specs.Machine.{HoldsPiece}
use Rattle.dsa_core.specs.Epochs.{PiecesConflictAt}
use Rattle.dsa_core.specs.Work.{Work}
use Rattle.dsa_core.specs.DescriptorWork.{descriptor_work}
use Rattle.dsa_core.specs.Accounts.{most_members}

-- what has to hold before engines run the pieces under the plan, from the memory m
pub record IsReady {P D A I O : Type 0} (work : Work P D A I O) (m : Memory) (plan : Plan) (pieces : List P) (engines : ℕ)
    : Type 0 where
  -- there are at most 65,536 pieces (this project's choice)
  pub few : length pieces ≤ most_pieces
  -- the plan is legal for them, with batches of at most as many members as a room takes
  pub legal : IsLegal (PiecesConflictAt work.machine (map work.shown pieces)) most_members (length pieces) plan
  -- the memory has each address that they read or write
  pub in_image : All (HoldsPiece work.machine m) (map work.shown pieces)
  -- there is an engine
  pub some_engine : 0 < engines
  -- and there are at most 64 (this project's choice)
  pub few_engines : engines ≤ 64

-- the same of descriptors
abbrev pub IsRunnable : Memory → Plan → List Descriptor → ℕ → Type 0
IsRunnable m plan pieces engines = IsReady descriptor_work m plan pieces engines
