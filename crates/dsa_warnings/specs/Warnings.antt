-- What is worth a warning about the pieces of a plan (this project's choice).
use Rattle.std.specs.Prelude.{◌≡◌, ℕ, suc, ◌+◌, ◌<◌, ◌==◌, ◌&&◌, nat_lt, Bool, List, [], ◌∷◌, ◌++◌, length, slice_get, slice_index_or, Option, Some, None, if◌then◌else◌}
use Rattle.dsa_descriptor.specs.declared.descriptor.Descriptor.{Descriptor}
use Rattle.dsa_descriptor.specs.declared.span.Span.{Span}
use Rattle.dsa_settings.specs.Epochs.{epoch_of}
use Rattle.dsa_settings.specs.Plan.{Plan, piece_count}
use Rattle.dsa_resume.specs.Shared.{HaveLastShared}
use Rattle.dsa_warnings.specs.declared.concerns.Concern.{Concern}
use Rattle.dsa_warnings.specs.declared.concerns.Concern.TheVariants.{SharedRecord}
use Rattle.dsa_warnings.specs.declared.warnings.Warning.{Warning}
use Rattle.dsa_warnings.specs.Concerns.{check_concern, overlap_concern}

-- the last piece that begins after a barrier, of marks from this piece on; if none does, the one known so far
abbrev pub last_barrier : ℕ → ℕ → List Bool → ℕ
last_barrier piece last [] = last
last_barrier piece last (mark ∷ marks) = last_barrier (suc piece) (if mark then piece else last) marks

-- the next piece is in the same epoch, by the epochs of the pieces
abbrev pub goes_on : List ℕ → ℕ → Bool
goes_on epochs piece = nat_lt (piece + 1) (length epochs) && (slice_index_or epochs (piece + 1) 0 == slice_index_or epochs piece 0)

-- an earlier piece with which a piece shares a record, if there is one
abbrev pub shared_concern : Option ℕ → Option Concern
shared_concern None = None
shared_concern (Some earlier) = Some (SharedRecord earlier)

-- what is worth a warning about a piece, if there is something
abbrev pub with_piece : ℕ → Option Concern → List Warning
with_piece piece None = []
with_piece piece (Some concern) = record { piece = piece; concern = concern } ∷ []

-- what is worth a warning about a piece by itself, if it is one of the operations of a descriptor; about no other piece
-- (this project's choice: the result of a checksum stops nothing, and its destination never meets what it reads)
abbrev pub own_warnings : ℕ → Bool → Bool → Option Descriptor → List Warning
own_warnings piece before_barrier goes None = []
own_warnings piece before_barrier goes (Some d) =
    with_piece piece (check_concern d.op d.flags.0 before_barrier goes) ++ with_piece piece (overlap_concern d.op d.size)

-- all that is worth a warning about a piece, by the last earlier piece with which it shares a record, whether a barrier is
-- after it, and whether its epoch goes on
abbrev pub warnings_at : ℕ → Option ℕ → Bool → Bool → Option Descriptor → List Warning
warnings_at piece last before_barrier goes d = with_piece piece (shared_concern last) ++ own_warnings piece before_barrier goes d

-- the same of pieces from this one on, of a kind of which these are operations of a descriptor
abbrev pub warnings_from : {P : Type 0} → (P → Option Descriptor) → List (Option ℕ) → ℕ → List ℕ → ℕ → List P → List Warning
warnings_from descriptor lasts barrier epochs piece [] = []
warnings_from descriptor lasts barrier epochs piece (p ∷ ps) =
    warnings_at piece (slice_index_or lasts piece None) (nat_lt piece barrier) (goes_on epochs piece) (descriptor p)
    ++ warnings_from descriptor lasts barrier epochs (suc piece) ps

-- the epochs of the pieces of a plan
pub record AreEpochs (plan : Plan) (epochs : List ℕ) : Type 0 where
  pub count : length epochs ≡ piece_count plan
  pub each : (i : ℕ) → i < piece_count plan → slice_get epochs i ≡ Some (epoch_of plan i)

-- the warnings of a plan of pieces and their barriers, by what each writes, and which operation of a descriptor it is
pub record AreWarnings {P : Type 0} (writes : P → List Span) (descriptor : P → Option Descriptor)
    (pieces : List P) (barriers : List Bool) (plan : Plan) (warnings : List Warning) : Type 0 where
  pub lasts : List (Option ℕ)
  pub shared : HaveLastShared writes pieces lasts
  pub epochs : List ℕ
  pub are_epochs : AreEpochs plan epochs
  pub are : warnings ≡ warnings_from descriptor lasts (last_barrier 0 0 barriers) epochs 0 pieces
