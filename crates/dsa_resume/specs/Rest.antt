-- What is left of a list of pieces of any kind with barriers, by how they have ended.
use Rattle.std.specs.Prelude.{◌≡◌, ℕ, ◌-◌, ◌<◌, Bool, false, List, [], ◌++◌, Option, Some, None, drop, length, replicate, take}
use Rattle.dsa_resume.specs.declared.left.LeftOrder.{LeftOrder}
use Rattle.dsa_resume.specs.declared.rest.LeftOut.{LeftOut}
use Rattle.dsa_resume.specs.declared.rest.Rest.{Rest}
use Rattle.dsa_resume.specs.declared.status.Ended.{Ended}
use Rattle.dsa_resume.specs.Barriers.{IsFront, IsStop, NonePassed, NoneStops}
use Rattle.dsa_resume.specs.Left.{left_of}

-- the pieces that may be done, their barriers, and which pieces may not be done any more
pub record Remainder (P : Type 0) : Type 0 where
  pub pieces : List P
  pub barriers : List Bool
  pub left_out : Option LeftOut

-- what is answered, as contracts see it
abbrev pub remainder_of : {P : Type 0} → Rest P → Remainder P
remainder_of rest = record { pieces = rest.pieces.items; barriers = rest.barriers.items; left_out = rest.left_out }

-- what is left of the first pieces, up to the front
abbrev pub left_before : {X : Type 0} → LeftOrder → List X → List Ended → ℕ → List X
left_before order pieces ends front = left_of order (take front pieces) (take front ends)

-- What is left if so many pieces are before the first barrier that holds. Those of them that are left have no barrier
-- between. If one of them stops the list, all pieces from the front on are left out; else these follow, with their barriers.
pub data IsRest {P : Type 0} (order : LeftOrder) (pieces : List P) (barriers : List Bool) (ends : List Ended) (front : ℕ) (rest : Remainder P) : Type 0 where
  is_last : front ≡ length pieces
      → rest ≡ record { pieces = left_before order pieces ends front; barriers = []; left_out = None }
      → IsRest order pieces barriers ends front rest
  goes_on : front < length pieces → NoneStops ends front
      → rest ≡ record {
        pieces = left_before order pieces ends front ++ drop front pieces;
        barriers = replicate (length (left_before order pieces ends front)) false ++ drop front barriers;
        left_out = None;
      }
      → IsRest order pieces barriers ends front rest
  stops_there : (i : ℕ) → front < length pieces → IsStop ends front i
      → rest ≡ record {
        pieces = left_before order pieces ends front;
        barriers = [];
        left_out = Some (record { pieces = length pieces - front; stopped_by = i });
      }
      → IsRest order pieces barriers ends front rest

-- what is left of pieces of which none has begun though a barrier before it holds
pub record IsLeftOver {P : Type 0} (order : LeftOrder) (pieces : List P) (barriers : List Bool) (ends : List Ended) (rest : Remainder P) : Type 0 where
  pub front : ℕ
  pub none_passed : NonePassed barriers ends
  pub is_front : IsFront barriers ends front
  pub is_rest : IsRest order pieces barriers ends front rest
