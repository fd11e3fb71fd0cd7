-- What is answered to pieces of any kind or a list, the completion records of the pieces, and what the caller gives up.
use Rattle.std.specs.Prelude.{◌≡◌, ◌≢◌, ◌⊎◌, ℕ, ◌*◌, Bool, List, [], map, length, Result, Ok, Err}
use Rattle.std.specs.Simd.{first_chunks}
use Rattle.dsa_descriptor.specs.declared.descriptor.Descriptor.{Descriptor}
use Rattle.dsa_descriptor.specs.Descriptors.{fields}
use Rattle.dsa_descriptor.specs.Fences.{after_first, marked_spelling, set_marks}
use Rattle.dsa_descriptor.specs.Lists.{HaveOneOwner}
use Rattle.dsa_descriptor.specs.declared.span.Span.{Span}
use Rattle.dsa_ranges.specs.Pieces.{writes_of}
use Rattle.dsa_settings.specs.Settings.{Limits}
use Rattle.dsa_splitter.specs.Pieces.{all_pieces}
use Rattle.dsa_splitter.specs.Rules.{AreWhole, IsSplit}
use Rattle.dsa_calls.specs.declared.fault.PlanFault.{PlanFault}
use Rattle.dsa_calls.specs.declared.fault.PlanFault.TheVariants.{Memory}
use Rattle.dsa_calls.specs.Fenced.{AreFencedPieces, PlansFenced, PlansWith}
use Rattle.dsa_resume.specs.declared.fault.ResumeFault.{ResumeFault}
use Rattle.dsa_resume.specs.declared.fault.ResumeFault.TheVariants.{Plan, Records, SharedRecord, NotFailed, PassedBarrier}
use Rattle.dsa_resume.specs.declared.left.LeftOrder.{LeftOrder}
use Rattle.dsa_resume.specs.declared.rest.Rest.{Rest}
use Rattle.dsa_resume.specs.declared.status.Ended.{Ended}
use Rattle.dsa_resume.specs.Barriers.{IsFirstPassed}
use Rattle.dsa_resume.specs.Ended.{ends_of}
use Rattle.dsa_resume.specs.GivenUp.{IsFirstIdle, NoneIsIdle}
use Rattle.dsa_resume.specs.Rest.{IsLeftOver, Remainder, remainder_of}
use Rattle.dsa_resume.specs.Shared.{IsFirstShared, NoneShare}

-- what was planned and submitted, and what the device has left of it: the pieces of a list, their barriers, 32 bytes of
-- completion records for each piece, and the bytes that give pieces up
pub record Stopped (P : Type 0) : Type 0 where
  pub pieces : List P
  pub barriers : List Bool
  pub records : List ℕ
  pub given_up : List ℕ

-- the completion records, one for each piece
abbrev pub completions_of : {P : Type 0} → Stopped P → List (List ℕ)
completions_of l = first_chunks 32 (length l.pieces) l.records

-- how the pieces have ended
abbrev pub ends_in : {P : Type 0} → Stopped P → List Ended
ends_in l = ends_of (completions_of l) l.given_up

-- there are 32 bytes of records for each piece, and each record says how its own piece has ended, by what each writes
pub record AreTold {P : Type 0} (writes : P → List Span) (l : Stopped P) : Type 0 where
  pub count : length l.records ≡ 32 * length l.pieces
  pub own : NoneShare writes l.pieces

-- The outcome: that there are not 32 bytes of records for each piece; the first two pieces that share a record; the first
-- piece that is given up though it has not failed; the first piece that has begun though a barrier before it holds; or
-- what is left.
pub data ResumesPieces {P : Type 0} (writes : P → List Span) (order : LeftOrder) (l : Stopped P) (outcome : Result (Remainder P) ResumeFault) : Type 0 where
  lacks_records : length l.records ≢ 32 * length l.pieces → outcome ≡ Err Records → ResumesPieces writes order l outcome
  shares_record : (i j : ℕ) → length l.records ≡ 32 * length l.pieces → IsFirstShared writes l.pieces i j
      → outcome ≡ Err (SharedRecord i j) → ResumesPieces writes order l outcome
  gives_up_other : (i : ℕ) → AreTold writes l → IsFirstIdle (completions_of l) l.given_up i
      → outcome ≡ Err (NotFailed i) → ResumesPieces writes order l outcome
  passes_barrier : (i j : ℕ) → AreTold writes l → NoneIsIdle (completions_of l) l.given_up → IsFirstPassed l.barriers (ends_in l) i j
      → outcome ≡ Err (PassedBarrier i j) → ResumesPieces writes order l outcome
  has_left : (rest : Remainder P) → AreTold writes l → NoneIsIdle (completions_of l) l.given_up → IsLeftOver order l.pieces l.barriers (ends_in l) rest
      → outcome ≡ Ok rest → ResumesPieces writes order l outcome

-- the outcome for the bytes of a list, in which a fence is a barrier
pub data Resumes (s : Limits) (list records given_up : List ℕ) (order : LeftOrder) (outcome : Result (Remainder Descriptor) ResumeFault) : Type 0 where
  is_refused : (fault : PlanFault) → PlansFenced list s (Err fault) → outcome ≡ Err (Plan fault) → Resumes s list records given_up order outcome
  has_pieces : (pieces : List Descriptor) (barriers : List Bool) → AreFencedPieces list s pieces barriers
      → ResumesPieces writes_of order (record { pieces = pieces; barriers = barriers; records = records; given_up = given_up }) outcome
      → Resumes s list records given_up order outcome

-- the answer is such an outcome, unless an allocation failed
abbrev pub IsAnswer : {P : Type 0} → (Result (Remainder P) ResumeFault → Type 0) → Result (Rest P) ResumeFault → Type 0
IsAnswer Outcome (Ok rest) = Outcome (Ok (remainder_of rest))
IsAnswer Outcome (Err fault) = (fault ≡ Plan Memory) ⊎ Outcome (Err fault)

-- what is left can be planned with the same settings: it has a barrier before a piece after the first, or none; its
-- descriptors are their own pieces; and planning refuses it for no cause, also not for the staging area (33), which is shorter
-- for fewer pieces
pub record CanBePlannedAgain (s : Limits) (rest : Remainder Descriptor) : Type 0 where
  pub one_owner : HaveOneOwner (map fields rest.pieces)
  pub count : (rest.barriers ≡ []) ⊎ (length rest.barriers ≡ length rest.pieces)
  pub kept : set_marks (after_first rest.barriers) ≡ rest.barriers
  pub whole : AreWhole rest.pieces s.greatest_transfer
  pub split : IsSplit s.greatest_transfer s.staging (map fields rest.pieces)
  pub own : all_pieces (map fields rest.pieces) s.greatest_transfer ≡ map fields rest.pieces
  pub accepted : (fault : PlanFault) → ¬ PlansWith rest.barriers s (map fields rest.pieces) (Err fault)

-- the same of its bytes: they are a list of these pieces and barriers, which planning does not refuse
pub record CanBeListedAgain (s : Limits) (rest : Remainder Descriptor) : Type 0 where
  pub read : AreFencedPieces (marked_spelling (map fields rest.pieces) rest.barriers) s rest.pieces rest.barriers
  pub accepted : (fault : PlanFault) → ¬ PlansFenced (marked_spelling (map fields rest.pieces) rest.barriers) s (Err fault)
