-- Spans that pieces read and write, and the conflicts of two that overlap.
use Rattle.std.specs.Prelude.{◌≡◌, ℕ, ◌<◌, List, Some, drop, slice_get, take}
use Rattle.std.specs.List.{Contains}
use Rattle.dsa_descriptor.specs.declared.span.Span.{Span}
use Rattle.dsa_conflicts.specs.declared.access.Access.{Access}
use Rattle.dsa_conflicts.specs.declared.access.Access.TheVariants.{Read, Write}
use Rattle.dsa_conflicts.specs.declared.touches.Touch.{Touch}
use Rattle.dsa_conflicts.specs.declared.touches.Kind.{Kind}
use Rattle.dsa_conflicts.specs.declared.touches.Kind.TheVariants.{Source, Record, Target}

-- an access of a span by a piece
abbrev pub touch : ℕ → Access → Span → Touch
touch piece access span = record { span = span; piece = piece; access = access }

-- what a piece reads, or what it writes
abbrev pub spans_by : {P : Type 0} → (P → List Span) → (P → List Span) → Access → P → List Span
spans_by reads writes Read = reads
spans_by reads writes Write = writes

-- what a piece does with its spans of a kind
abbrev pub access_of : Kind → Access
access_of Source = Read
access_of Record = Write
access_of Target = Write

-- of the spans that a piece reads and writes those of a kind
abbrev pub spans_of : Kind → List Span → List Span → List Span
spans_of Source reads writes = reads
spans_of Record reads writes = take 1 writes
spans_of Target reads writes = drop 1 writes

-- a piece accesses a span
abbrev pub Accesses : {P : Type 0} → (P → List Span) → (P → List Span) → List P → ℕ → Access → Span → Type 0
Accesses {P} reads writes ps i access s =
    (p : P) × (slice_get ps i ≡ Some p) × ((k : ℕ) × (slice_get (spans_by reads writes access p) k ≡ Some s))

-- this is an access by one of the pieces
abbrev pub IsTouchOf : {P : Type 0} → (P → List Span) → (P → List Span) → List P → Touch → Type 0
IsTouchOf reads writes ps t = Accesses reads writes ps t.piece t.access t.span

-- all accesses by the first pieces are among these
abbrev pub HasTouches : {P : Type 0} → (P → List Span) → (P → List Span) → List Touch → List P → ℕ → Type 0
HasTouches reads writes touches ps n =
    (i : ℕ) (access : Access) (s : Span) → i < n → Accesses reads writes ps i access s → Contains touches (touch i access s)

-- all accesses of this kind by the first pieces are among these
abbrev pub HasKind : {P : Type 0} → (P → List Span) → (P → List Span) → Kind → List Touch → List P → ℕ → Type 0
HasKind {P} reads writes kind touches ps n =
    (i : ℕ) (p : P) (k : ℕ) (s : Span) → i < n → slice_get ps i ≡ Some p → slice_get (spans_of kind (reads p) (writes p)) k ≡ Some s
    → Contains touches (touch i (access_of kind) s)
