-- The spans of a submission are those of its pieces.
use Rattle.std.proofs.Common.{◌≡◌, ◌↔◌, ℕ, zero, suc, ◌+◌, ◌<◌, ◌≤◌, ◌⊎◌, inl, inr, List, [], ◌∷◌, ◌++◌, length, map, Some, slice_get, refl, sym, ap, subst, arith}
use Rattle.std.specs.Prelude.{flat_map}
use Rattle.std.proofs.lemmas.Option.{same_Some}
use Rattle.dsa_descriptor.specs.declared.span.Span.{Span}
use Rattle.dsa_descriptor.specs.Fields.{Fields}
use Rattle.dsa_descriptor.specs.Spans.{InSome, span}
use Rattle.dsa_ranges.specs.Ranges.{SpansConflict, read_spans, written_spans}
use Rattle.dsa_core.specs.Machine.{Machine}
use Rattle.dsa_core.specs.DescriptorMachine.{descriptor_machine}
use Rattle.dsa_core.specs.Run.{Setup}
use Rattle.dsa_core.proofs.Slots.{none_read}
use Rattle.dsa_flight.specs.Flight.{SubsConflict}
use Rattle.dsa_flight.specs.Hosted.{AnyPiece, hosted_machine}
use Rattle.dsa_flight.specs.Hosted.Host.{HostRead, HostWrite}
use Rattle.dsa_flight.specs.Hosted.AnyPiece.{Device, OfHost}
use Rattle.dsa_flight.specs.Spans.{any_read_spans, any_written_spans, SpansTell, StagingIsWritten}

in_front : (ss ts : List Span) (a : ℕ) → InSome ss a → InSome (ss ++ ts) a
in_front [] ts a h = absurd h
in_front (s ∷ ss) ts a (inl h) = inl h
in_front (s ∷ ss) ts a (inr h) = inr (in_front ss ts a h)

in_back : (ss ts : List Span) (a : ℕ) → InSome ts a → InSome (ss ++ ts) a
in_back [] ts a h = h
in_back (s ∷ ss) ts a h = inr (in_back ss ts a h)

in_either : (ss ts : List Span) (a : ℕ) → InSome (ss ++ ts) a → InSome ss a ⊎ InSome ts a
in_either [] ts a h = inr h
in_either (s ∷ ss) ts a (inl h) = inl (inl h)
in_either (s ∷ ss) ts a (inr h) = elim (in_either ss ts a h) [ inl x ↦ inl (inr x) | inr y ↦ inr y ]

module _ {D : Type 0} (f : D → List Span) where
  in_all : (ds : List D) (i : ℕ) (d : D) (a : ℕ) → slice_get ds i ≡ Some d → InSome (f d) a → InSome (flat_map f ds) a
  in_all [] i d a h k = absurd (none_read i d h)
  in_all (e ∷ ds) zero d a h k = in_front (f e) (flat_map f ds) a (subst (λ x. InSome (f x) a) (sym (same_Some e d h)) k)
  in_all (e ∷ ds) (suc i) d a h k = in_back (f e) (flat_map f ds) a (in_all ds i d a h k)

  of_one : (ds : List D) (a : ℕ) → InSome (flat_map f ds) a → (i : ℕ) × (d : D) × (slice_get ds i ≡ Some d) × InSome (f d) a
  of_one [] a h = absurd h
  of_one (e ∷ ds) a h =
      elim (in_either (f e) (flat_map f ds) a h) [
        | inl here ↦ (0, e, refl, here)
        | inr later ↦ let rest = of_one ds a later in (suc rest.0, rest.1, rest.2, rest.3)
      ]

-- pieces of a machine that read and write just these spans
module _ {D P : Type 0} (machine : Machine D P) (r w : D → List Span) (reads_are : (d : D) (a : ℕ) → machine.reads d a ↔ InSome (r d) a) (writes_are : (d : D) (a : ℕ) → machine.writes d a ↔ InSome (w d) a) where
  touched : (ds : List D) (i : ℕ) (d : D) (a : ℕ) → slice_get ds i ≡ Some d → machine.reads d a ⊎ machine.writes d a → InSome (flat_map r ds) a ⊎ InSome (flat_map w ds) a
  touched ds i d a h (inl k) = inl (in_all r ds i d a h ((reads_are d a).0 k))
  touched ds i d a h (inr k) = inr (in_all w ds i d a h ((writes_are d a).0 k))

  of_touched : (ds : List D) (a : ℕ) → InSome (flat_map r ds) a ⊎ InSome (flat_map w ds) a → (i : ℕ) × (d : D) × (slice_get ds i ≡ Some d) × (machine.reads d a ⊎ machine.writes d a)
  of_touched ds a (inl h) = let one = of_one r ds a h in (one.0, one.1, one.2, inl ((reads_are one.1 a).1 one.3))
  of_touched ds a (inr h) = let one = of_one w ds a h in (one.0, one.1, one.2, inr ((writes_are one.1 a).1 one.3))

  to_spans : (a b : Setup D) → SubsConflict machine a b → SpansConflict (flat_map r a.pieces) (flat_map w a.pieces) (flat_map r b.pieces) (flat_map w b.pieces)
  to_spans a b c =
      elim c.conflict [
        | inl (x, writes, touches) ↦ inl (x, in_all w a.pieces c.i c.d x c.is_d ((writes_are c.d x).0 writes), touched b.pieces c.j c.e x c.is_e touches)
        | inr (x, writes, touches) ↦ inr (x, in_all w b.pieces c.j c.e x c.is_e ((writes_are c.e x).0 writes), touched a.pieces c.i c.d x c.is_d touches)
      ]

  from_spans : (a b : Setup D) → SpansConflict (flat_map r a.pieces) (flat_map w a.pieces) (flat_map r b.pieces) (flat_map w b.pieces) → SubsConflict machine a b
  from_spans a b (inl (x, writes, touches)) =
      let one = of_one w a.pieces x writes in
      let t = of_touched b.pieces x touches in
      record { i = one.0; j = t.0; d = one.1; e = t.1; is_d = one.2; is_e = t.2; conflict = inl (x, (writes_are one.1 x).1 one.3, t.3) }
  from_spans a b (inr (x, writes, touches)) =
      let one = of_one w b.pieces x writes in
      let t = of_touched a.pieces x touches in
      record { i = t.0; j = one.0; d = t.1; e = one.1; is_d = t.2; is_e = one.2; conflict = inr (x, (writes_are one.1 x).1 one.3, t.3) }

  tell : SpansTell machine r w
  tell a b = (to_spans a b, from_spans a b)

pub descriptors_tell : SpansTell descriptor_machine read_spans written_spans
descriptors_tell = tell descriptor_machine read_spans written_spans (λ d a. (λ h. h, λ h. h)) (λ d a. (λ h. h, λ h. h))

any_reads_are : (e : AnyPiece) (a : ℕ) → hosted_machine.reads e a ↔ InSome (any_read_spans e) a
any_reads_are (Device d) a = (λ h. h, λ h. h)
any_reads_are (OfHost (HostRead address)) a = (λ (h : a ≡ address). inl (omega (arith, h), omega (arith, h)), back)
  where
    back : InSome (span address 1 ∷ []) a → a ≡ address
    back (inl h) = let low = h.0 in let high = h.1 in omega (arith, low, high)
    back (inr h) = absurd h
any_reads_are (OfHost (HostWrite at bytes)) a = (λ h. absurd h, λ h. absurd h)

any_writes_are : (e : AnyPiece) (a : ℕ) → hosted_machine.writes e a ↔ InSome (any_written_spans e) a
any_writes_are (Device d) a = (λ h. h, λ h. h)
any_writes_are (OfHost (HostRead address)) a = (λ h. absurd h, λ h. absurd h)
any_writes_are (OfHost (HostWrite at bytes)) a = (λ h. inl h, back)
  where
    back : InSome (span at (length bytes) ∷ []) a → (at ≤ a) × (a < at + length bytes)
    back (inl h) = h
    back (inr h) = absurd h

pub hosted_tell : SpansTell hosted_machine any_read_spans any_written_spans
hosted_tell = tell hosted_machine any_read_spans any_written_spans any_reads_are any_writes_are

of_devices : (f : AnyPiece → List Span) (g : Fields → List Span) → ((d : Fields) → f (Device d) ≡ g d) → (ds : List Fields) → flat_map f (map Device ds) ≡ flat_map g ds
of_devices f g same [] = refl
of_devices f g same (d ∷ ds) = λ i. same d i ++ of_devices f g same ds i

pub staging_is_written : StagingIsWritten
staging_is_written at bytes ds =
    (of_devices any_read_spans read_spans (λ d. refl) ds, ap (λ xs. span at (length bytes) ∷ xs) (of_devices any_written_spans written_spans (λ d. refl) ds))
