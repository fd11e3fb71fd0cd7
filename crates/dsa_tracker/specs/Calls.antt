-- What the calls of a tracker do, and when each refusal comes. (This project's choice.)
use Rattle.std.specs.Prelude.{◌≡◌, ◌≢◌, ℕ, ◌+◌, ◌*◌, ◌<◌, ◌≤◌, ◌↔◌, max, List, [], ◌∷◌, ◌++◌, Option, Some, None, length, slice_get, slice_set}
use Rattle.dsa_descriptor.specs.declared.descriptor.Descriptor.{Descriptor}
use Rattle.dsa_descriptor.specs.declared.span.Span.{Span}
use Rattle.dsa_descriptor.specs.Spans.{InSome, IsAddressable}
use Rattle.dsa_operations.specs.declared.operation.Operation.{Operation}
use Rattle.dsa_operations.specs.declared.operation.Operation.TheVariants as operation
use Rattle.dsa_tracker.specs.declared.fault.TrackFault.{TrackFault}
use Rattle.dsa_tracker.specs.declared.fault.TrackFault.TheVariants.{NoSlot, TooManySpans, NotOutstanding, Held, Wrap, OtherOwner, OtherPlan, FewSlots}
use Rattle.dsa_tracker.specs.declared.owner.Owner.{Owner}
use Rattle.dsa_tracker.specs.declared.submitted.Retired.{Retired}
use Rattle.dsa_tracker.specs.declared.submitted.Submitted.{Submitted}
use Rattle.dsa_tracker.specs.declared.slots.Slots.{Slots}
use Rattle.dsa_tracker.specs.Table.{Outstanding, Table, IsHeld, IsFree, IsFirstFree, IsFull, HasToWait, WaitsFor, IsReady, IsExactly, IsWithout}

-- no span goes past 2^64
abbrev pub AreAddressable : List Span → Type 0
AreAddressable spans = (k : ℕ) (s : Span) → slice_get spans k ≡ Some s → IsAddressable s

-- the span of this index is the first that does
abbrev pub IsFirstPast : List Span → ℕ → Type 0
IsFirstPast spans i =
    (s : Span) × (slice_get spans i ≡ Some s) × (¬ IsAddressable s) × ((k : ℕ) (t : Span) → k < i → slice_get spans k ≡ Some t → IsAddressable t)

-- the owner that a descriptor names
abbrev pub owner_of : Descriptor → Owner
owner_of d = record { pasid = d.pasid; privileged = d.privileged }

-- the owner that an operation names (specification 341204, descriptor format)
abbrev pub operation_owner : Operation → Owner
operation_owner (operation.Descriptor d) = owner_of d
operation_owner (operation.Checksum c) = record { pasid = c.pasid; privileged = c.privileged }

-- the owner once these pieces came: the one that was known, else that of the first piece
abbrev pub owner_with : {P : Type 0} → (P → Owner) → Option Owner → List P → Option Owner
owner_with named (Some owner) pieces = Some owner
owner_with named None [] = None
owner_with named None (p ∷ ps) = Some (named p)

-- each piece has this owner
abbrev pub HaveOwner : {P : Type 0} → (P → Owner) → Option Owner → List P → Type 0
HaveOwner {P} named owner pieces = (k : ℕ) (p : P) → slice_get pieces k ≡ Some p → owner ≡ Some (named p)

-- the piece of this index is the first with another one
abbrev pub IsFirstOther : {P : Type 0} → (P → Owner) → Option Owner → List P → ℕ → Type 0
IsFirstOther {P} named owner pieces i =
    (p : P) × (slice_get pieces i ≡ Some p) × (owner ≢ Some (named p))
    × ((k : ℕ) (q : P) → k < i → slice_get pieces k ≡ Some q → owner ≡ Some (named q))

-- a submission that reads and writes these spans can be kept
abbrev pub CanKeep : ℕ → List Span → List Span → Type 0
CanKeep room reads writes = (length reads ≤ room) × (length writes ≤ room) × AreAddressable (reads ++ writes)

-- why it cannot be kept
abbrev pub IsSpanFault : ℕ → List Span → List Span → TrackFault → Type 0
IsSpanFault room reads writes NoSlot = ⊥
IsSpanFault room reads writes (TooManySpans count) = (count ≡ max (length reads) (length writes)) × (room < count)
IsSpanFault room reads writes (NotOutstanding slot) = ⊥
IsSpanFault room reads writes (Held slot) = ⊥
IsSpanFault room reads writes (Wrap span) = (length reads ≤ room) × (length writes ≤ room) × IsFirstPast (reads ++ writes) span
IsSpanFault room reads writes (OtherOwner piece) = ⊥
IsSpanFault room reads writes OtherPlan = ⊥
IsSpanFault room reads writes (FewSlots count) = ⊥

-- how many spans a list of so many pieces may read or write, its staging area among them: three for each piece (its
-- completion record and two destinations)
abbrev pub most_spans : ℕ → ℕ
most_spans pieces = 3 * pieces + 1

-- a submission of these pieces with this staging area, and all of this owner, can be kept
abbrev pub CanKeepList : {P : Type 0} → (P → Owner) → ℕ → Option Owner → List P → Span → Type 0
CanKeepList named room owner pieces staging = (most_spans (length pieces) ≤ room) × IsAddressable staging × HaveOwner named owner pieces

-- why it cannot be kept; of its spans the staging area alone can go past 2^64
abbrev pub IsListFault : {P : Type 0} → (P → Owner) → ℕ → Option Owner → List P → Span → TrackFault → Type 0
IsListFault named room owner pieces staging NoSlot = ⊥
IsListFault named room owner pieces staging (TooManySpans count) = (count ≡ most_spans (length pieces)) × (room < count)
IsListFault named room owner pieces staging (NotOutstanding slot) = ⊥
IsListFault named room owner pieces staging (Held slot) = ⊥
IsListFault named room owner pieces staging (Wrap span) = (span ≡ 0) × (most_spans (length pieces) ≤ room) × (¬ IsAddressable staging)
IsListFault named room owner pieces staging (OtherOwner piece) =
    (most_spans (length pieces) ≤ room) × IsAddressable staging × IsFirstOther named owner pieces piece
IsListFault named room owner pieces staging OtherPlan = ⊥
IsListFault named room owner pieces staging (FewSlots count) = ⊥

-- the two have the same addresses
abbrev pub SameAddresses : List Span → List Span → Type 0
SameAddresses spans others = (address : ℕ) → InSome spans address ↔ InSome others address

-- what a slot has of a submission that reads and writes these spans: the same addresses, of which those that follow each
-- other may be one span, and what it waits for
pub record Keeps (o : Outstanding) (reads writes : List Span) (waits : Slots) : Type 0 where
  pub what_it_reads : SameAddresses o.reads reads
  pub what_it_writes : SameAddresses o.writes writes
  pub what_it_awaits : o.waits ≡ waits

-- the submission gets the first free slot, and waits for just those that it has to wait for
pub record Submits (old : Table) (reads writes : List Span) (also : Slots) (owner : Option Owner) (submitted : Submitted) (new : Table) : Type 0 where
  pub slot : IsFirstFree old.slots submitted.slot
  pub waits : IsExactly submitted.waits (HasToWait old.slots reads writes also)
  pub taken : Outstanding
  pub keeps : Keeps taken reads writes submitted.waits
  pub after : new ≡ record { slots = slice_set old.slots submitted.slot (Some taken); room = old.room; owner = owner }

-- a slot is free and no other wait is left on it, and else nothing changes
pub record Releases (old : List (Option Outstanding)) (slot : ℕ) (new : List (Option Outstanding)) : Type 0 where
  pub count : length new ≡ length old
  pub freed : IsFree new slot
  pub others :
      (s : ℕ) (o : Outstanding) → s ≢ slot → slice_get old s ≡ Some (Some o) →
      (rest : Slots) × (slice_get new s ≡ Some (Some (record o { waits = rest }))) × IsWithout o.waits slot rest
  pub free : (s : ℕ) → IsFree old s → IsFree new s

-- the submission of the slot is taken off; the answer says who waited for it, and which of these now wait for none
pub record Retires (old : Table) (slot : ℕ) (retired : Retired) (new : Table) : Type 0 where
  pub released : Releases old.slots slot new.slots
  pub room : new.room ≡ old.room
  pub owner : new.owner ≡ old.owner
  pub waited : IsExactly retired.waited (WaitsFor old.slots slot)
  pub ready : IsExactly retired.ready (λ s. WaitsFor old.slots slot s × IsReady new.slots s)

-- a submission is refused if no slot is free, and else for the first reason why it cannot be kept
abbrev pub IsRefused : Table → TrackFault → Type 0 → Type 0
IsRefused t NoSlot against = IsFull t.slots
IsRefused t (TooManySpans count) against = ((s : ℕ) × IsFirstFree t.slots s) × against
IsRefused t (NotOutstanding slot) against = ⊥
IsRefused t (Held slot) against = ⊥
IsRefused t (Wrap span) against = ((s : ℕ) × IsFirstFree t.slots s) × against
IsRefused t (OtherOwner piece) against = ((s : ℕ) × IsFirstFree t.slots s) × against
IsRefused t OtherPlan against = ⊥
IsRefused t (FewSlots count) against = ⊥

-- why a submission cannot be completed
abbrev pub IsCompleteFault : Table → ℕ → TrackFault → Type 0
IsCompleteFault t slot NoSlot = ⊥
IsCompleteFault t slot (TooManySpans count) = ⊥
IsCompleteFault t slot (NotOutstanding other) = (other ≡ slot) × (¬ IsHeld t.slots slot)
IsCompleteFault t slot (Held other) = (other ≡ slot) × IsHeld t.slots slot × (¬ IsReady t.slots slot)
IsCompleteFault t slot (Wrap span) = ⊥
IsCompleteFault t slot (OtherOwner piece) = ⊥
IsCompleteFault t slot OtherPlan = ⊥
IsCompleteFault t slot (FewSlots count) = ⊥

-- why it cannot be withdrawn
abbrev pub IsWithdrawFault : Table → ℕ → TrackFault → Type 0
IsWithdrawFault t slot NoSlot = ⊥
IsWithdrawFault t slot (TooManySpans count) = ⊥
IsWithdrawFault t slot (NotOutstanding other) = (other ≡ slot) × (¬ IsHeld t.slots slot)
IsWithdrawFault t slot (Held other) = ⊥
IsWithdrawFault t slot (Wrap span) = ⊥
IsWithdrawFault t slot (OtherOwner piece) = ⊥
IsWithdrawFault t slot OtherPlan = ⊥
IsWithdrawFault t slot (FewSlots count) = ⊥
