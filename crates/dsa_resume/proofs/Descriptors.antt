-- Descriptors as pieces of work.
use Rattle.std.proofs.Common.{◌≡◌, ◌⊎◌, inl, inr, ℕ, ◌+◌, Bool, true, false, Option, Some, None, [], ◌∷◌, refl, sym, ap, ◌∙◌, subst, arith}
use Rattle.std.specs.Prelude.{cond, is_some, unwrap_or, IsSome}
use Rattle.dsa_descriptor.specs.declared.descriptor.Descriptor.{Descriptor}
use Rattle.dsa_descriptor.specs.declared.op.Op.{Op}
use Rattle.dsa_descriptor.specs.declared.op.Op.TheVariants.{Move, Fill, Compare, ComparePattern, ApplyDelta, Dualcast}
use Rattle.dsa_descriptor.specs.declared.record.Record.{Record}
use Rattle.dsa_descriptor.specs.Data.{record_span, sources, targets}
use Rattle.dsa_descriptor.specs.Descriptors.{fields}
use Rattle.dsa_descriptor.specs.Fields.{Fields}
use Rattle.dsa_descriptor.specs.Spans.{InSome, InSpan}
use Rattle.dsa_ranges.proofs.Pieces.{are_pieces}
use Rattle.dsa_ranges.specs.Pieces.{writes_of}
use Rattle.dsa_ranges.specs.Ranges.{Conflicts, read_spans, written_spans}
use Rattle.dsa_image.specs.declared.partial.Partial.{Partial}
use Rattle.dsa_image.specs.Basics.{entry_count, first_fault, patched}
use Rattle.dsa_image.specs.Effects.{completion, done, effect, new_data, record_from, recorded}
use Rattle.dsa_image.specs.Lines.{AgreeOn}
use Rattle.dsa_image.specs.Memory.{HoldsRanges, Memory, SameAddresses, byte_at, changed, is_between}
use Rattle.dsa_image.specs.Operations.{answer_of_op, data_of_op}
use Rattle.dsa_image.proofs.Joins.{copied_outside, copied_same, copied_twice_none, copied_twice_same}
use Rattle.dsa_image.proofs.Local.{changed_alike, filled_outside, first_difference_same, first_fault_same, first_unlike_same, same_entries, same_source}
use Rattle.dsa_image.proofs.MemoryLemmas.{Holds_cases, SameAddresses-changed, byte_at-changed, byte_at-changed_outside, byte_at_outside, is_between-in}
use Rattle.dsa_image.proofs.Patches.{patched_outside, patched_same}
use Rattle.dsa_conflicts.proofs.Spans.{decide_in_some}
use Rattle.dsa_core.specs.DescriptorMachine.{descriptor_machine}
use Rattle.dsa_core.specs.Order as machine
use Rattle.dsa_core.proofs.Bytes.{same_addresses-sym, same_addresses-trans}
use Rattle.dsa_core.proofs.DescriptorSteps.{descriptor_local, done_memory}
use Rattle.dsa_core.proofs.Within.{commute, done_within}
use Rattle.dsa_resume.specs.Laws.{DescriptorsInOrder}
use Rattle.dsa_resume.specs.Work.{descriptor_work}
use Rattle.dsa_resume.proofs.Working.{IsWork}

-- a descriptor, by its fields, overwrites the address
abbrev pub OverwritesFields : Fields → Memory → ℕ → Type 0
OverwritesFields d m a = IsSome (new_data d m a) ⊎ InSpan (record_span d.record_at) a

-- ---- what an operation writes and finds rests on what it reads

pub data_same : (op : Op) (size : ℕ) (m n : Memory) → AgreeOn (sources op size) m n → (a : ℕ) → data_of_op op size n a ≡ data_of_op op size m a
data_same (Move src dst) size m n agree a = copied_same m n src dst 0 size (same_source m n src size 0 size (omega arith) (λ b h. agree b (inl h))) a
data_same (Fill pattern dst) size m n agree a = refl
data_same (Compare src src2 expected) size m n agree a = refl
data_same (ComparePattern src pattern expected) size m n agree a = refl
data_same (ApplyDelta delta dst record_size) size m n agree a =
    let count : ℕ = entry_count record_size in
    let same = same_entries m n delta record_size count (omega arith) (λ b h. agree b (inl h)) in
    ap (λ (o : Option ℕ). cond (is_some o) None (patched n delta dst size 0 count a)) (first_fault_same m n delta size 0 count same)
    ∙ ap (λ (o : Option ℕ). cond (is_some (first_fault m delta size 0 count)) None o) (patched_same m n delta dst size 0 count same a)
data_same (Dualcast src dst dst2) size m n agree a =
    copied_twice_same m n src dst dst2 0 size (same_source m n src size 0 size (omega arith) (λ b h. agree b (inl h))) a

answer_same : (op : Op) (size : ℕ) (m n : Memory) → AgreeOn (sources op size) m n → answer_of_op op size n ≡ answer_of_op op size m
answer_same (Move src dst) size m n agree = refl
answer_same (Fill pattern dst) size m n agree = refl
answer_same (Compare src src2 expected) size m n agree =
    ap (λ (o : Option ℕ). record { difference = o; fault = None })
    (first_difference_same m n src src2 0 size (same_source m n src size 0 size (omega arith) (λ b h. agree b (inl h)))
    (same_source m n src2 size 0 size (omega arith) (λ b h. agree b (inr (inl h)))))
answer_same (ComparePattern src pattern expected) size m n agree =
    ap (λ (o : Option ℕ). record { difference = o; fault = None })
    (first_unlike_same m n src pattern 0 size (same_source m n src size 0 size (omega arith) (λ b h. agree b (inl h))))
answer_same (ApplyDelta delta dst record_size) size m n agree =
    let count : ℕ = entry_count record_size in
    ap (λ (o : Option ℕ). record { difference = None; fault = o })
    (first_fault_same m n delta size 0 count (same_entries m n delta record_size count (omega arith) (λ b h. agree b (inl h))))
answer_same (Dualcast src dst dst2) size m n agree = refl

-- ---- one descriptor

some_alike : (o : Option ℕ) (x y : ℕ) → IsSome o → unwrap_or o x ≡ unwrap_or o y
some_alike None x y some = absurd cc
some_alike (Some b) x y some = refl

-- a change with a new byte at an address leaves that byte
pub changed_over : (m n : Memory) (f g : ℕ → Option ℕ) (a : ℕ) → SameAddresses m n → g a ≡ f a → IsSome (f a) → byte_at (changed m f) a ≡ byte_at (changed n g) a
changed_over m n f g a s e some = elim (Holds_cases m a) [
  | inl h ↦
      byte_at-changed m f a h ∙ some_alike (f a) (byte_at m a) (byte_at n a) some ∙ ap (λ (o : Option ℕ). unwrap_or o (byte_at n a)) (sym e)
      ∙ sym (byte_at-changed n g a (rw (← s.first, ← s.count) h))
  | inr h ↦
      byte_at-changed_outside m f a h ∙ byte_at_outside m a h
      ∙ sym (byte_at-changed_outside n g a (rw (← s.first, ← s.count) h) ∙ byte_at_outside n a (rw (← s.first, ← s.count) h))
]

recorded_some : (at : ℕ) (r : Record) (a : ℕ) → InSpan (record_span at) a → IsSome (recorded at r a)
unfolding recorded
recorded_some at r a inside =
    let is : is_between at (at + 32) a ≡ true = is_between-in at (at + 32) a (omega (arith, inside)) (omega (arith, inside)) in
    rw is refl

effects_alike : (d : Fields) (m n : Memory) → SameAddresses m n → SameAddresses (effect d m) (effect d n)
effects_alike d m n s =
    same_addresses-trans _ m _ (SameAddresses-changed m (new_data d m)) (same_addresses-trans m n _ s (same_addresses-sym _ n (SameAddresses-changed n (new_data d n))))

done_alike : (d : Fields) (m n : Memory) → SameAddresses m n → SameAddresses (done d m) (done d n)
done_alike d m n s =
    same_addresses-trans _ (effect d m) _ (SameAddresses-changed (effect d m) (recorded d.record_at (completion d m)))
    (same_addresses-trans (effect d m) (effect d n) _ (effects_alike d m n s)
    (same_addresses-sym _ (effect d n) (SameAddresses-changed (effect d n) (recorded d.record_at (completion d n)))))

record_same : (d : Fields) (m n : Memory) (a : ℕ) → AgreeOn (read_spans d) m n → recorded d.record_at (completion d n) a ≡ recorded d.record_at (completion d m) a
record_same d m n a agree = ap (λ (p : Partial). recorded d.record_at (record_from d p) a) (answer_same d.op d.size m n agree)

-- where the byte was the same, it is the same
done_keeps : (d : Fields) (m n : Memory) (a : ℕ) → SameAddresses m n → AgreeOn (read_spans d) m n → byte_at m a ≡ byte_at n a → byte_at (done d m) a ≡ byte_at (done d n) a
done_keeps d m n a s agree same =
    changed_alike (effect d m) (effect d n) (recorded d.record_at (completion d m)) (recorded d.record_at (completion d n)) a (effects_alike d m n s) (record_same d m n a agree)
    (changed_alike m n (new_data d m) (new_data d n) a s (data_same d.op d.size m n agree a) same)

-- and where it is overwritten
done_over : (d : Fields) (m n : Memory) (a : ℕ) → SameAddresses m n → AgreeOn (read_spans d) m n → OverwritesFields d m a → byte_at (done d m) a ≡ byte_at (done d n) a
done_over d m n a s agree (inl some) =
    changed_alike (effect d m) (effect d n) (recorded d.record_at (completion d m)) (recorded d.record_at (completion d n)) a (effects_alike d m n s) (record_same d m n a agree)
    (changed_over m n (new_data d m) (new_data d n) a s (data_same d.op d.size m n agree a) some)
done_over d m n a s agree (inr inside) =
    changed_over (effect d m) (effect d n) (recorded d.record_at (completion d m)) (recorded d.record_at (completion d n)) a (effects_alike d m n s) (record_same d m n a agree)
    (recorded_some d.record_at (completion d m) a inside)

-- ---- what a descriptor overwrites

no_delta : (faulty : Bool) (o : Option ℕ) → o ≡ None → cond faulty None o ≡ None
no_delta true o e = refl
no_delta false o e = e

data_outside : (op : Op) (size : ℕ) (m : Memory) (a : ℕ) → (InSome (targets op size) a → ⊥) → data_of_op op size m a ≡ None
data_outside (Move src dst) size m a out = copied_outside m src dst size 0 size a (omega arith) (λ h. out (inl h))
data_outside (Fill pattern dst) size m a out = filled_outside pattern dst size 0 size a (omega arith) (λ h. out (inl h))
data_outside (Compare src src2 expected) size m a out = refl
data_outside (ComparePattern src pattern expected) size m a out = refl
data_outside (ApplyDelta delta dst record_size) size m a out =
    no_delta (is_some (first_fault m delta size 0 (entry_count record_size))) (patched m delta dst size 0 (entry_count record_size) a)
    (patched_outside m delta dst size 0 (entry_count record_size) a (λ h. out (inl h)))
data_outside (Dualcast src dst dst2) size m a out =
    copied_twice_none m src dst dst2 0 size a
    (copied_outside m src dst size 0 size a (omega arith) (λ h. out (inl h)))
    (copied_outside m src dst2 size 0 size a (omega arith) (λ h. out (inr (inl h))))

some_none : (o : Option ℕ) → IsSome o → o ≡ None → ⊥
some_none None some e = absurd cc
some_none (Some x) some e = absurd cc

-- it writes there
over_writes : (d : Fields) (m : Memory) (a : ℕ) → OverwritesFields d m a → InSome (written_spans d) a
over_writes d m a (inl some) = elim (decide_in_some (targets d.op d.size) a) [
  | inl there ↦ inr there
  | inr out ↦ absurd (some_none (new_data d m a) some (data_outside d.op d.size m a out))
]
over_writes d m a (inr inside) = inl inside

over_same : (d : Fields) (m n : Memory) (a : ℕ) → AgreeOn (read_spans d) m n → OverwritesFields d m a → OverwritesFields d n a
over_same d m n a agree (inl some) = inl (subst IsSome (sym (data_same d.op d.size m n agree a)) some)
over_same d m n a agree (inr inside) = inr inside

-- ---- steps of engines

same_after : (d : Descriptor) (m : Memory) → HoldsRanges m (fields d) → SameAddresses m (done (fields d) m)
same_after d m held =
    subst (λ (n : Memory). SameAddresses m n) (done_memory (fields d) m d.listed.regions_apart) ((done_within descriptor_machine (fields d) (descriptor_local (fields d))).keeps_addresses m held)

kept : (d : Descriptor) (m : Memory) (a : ℕ) → HoldsRanges m (fields d) → (InSome (writes_of d) a → ⊥) → byte_at (done (fields d) m) a ≡ byte_at m a
kept d m a held out =
    subst (λ (n : Memory). byte_at n a ≡ byte_at m a) (done_memory (fields d) m d.listed.regions_apart) ((done_within descriptor_machine (fields d) (descriptor_local (fields d))).keeps_others m held a out)

-- two that don't conflict leave the same in either order
swapped : (d e : Descriptor) (m : Memory) → HoldsRanges m (fields d) → HoldsRanges m (fields e) → (Conflicts (fields d) (fields e) → ⊥)
    → done (fields d) (done (fields e) m) ≡ done (fields e) (done (fields d) m)
swapped d e m held_d held_e clear =
    let f : Fields = fields d in
    let g : Fields = fields e in
    let both : (machine.done descriptor_machine f (machine.done descriptor_machine g m).memory).memory ≡ (machine.done descriptor_machine g (machine.done descriptor_machine f m).memory).memory =
    commute descriptor_machine f g (λ (n : Memory). machine.done descriptor_machine f n) (λ (n : Memory). machine.done descriptor_machine g n) m
    (done_within descriptor_machine f (descriptor_local f)) (done_within descriptor_machine g (descriptor_local g)) held_d held_e clear in
    ap (λ (n : Memory). done f n) (sym (done_memory g m e.listed.regions_apart)) ∙ sym (done_memory f (machine.done descriptor_machine g m).memory d.listed.regions_apart) ∙ both
    ∙ done_memory g (machine.done descriptor_machine f m).memory e.listed.regions_apart ∙ ap (λ (n : Memory). done g n) (done_memory f m d.listed.regions_apart)

pub is_work : IsWork descriptor_work
is_work = record {
  conflict = are_pieces;
  alike = λ d. done_alike (fields d);
  keeps = λ d. done_keeps (fields d);
  over = λ d. done_over (fields d);
  over_same = λ d. over_same (fields d);
  over_writes = λ d. over_writes (fields d);
  same_after = same_after;
  kept = kept;
  swapped = swapped;
}

pub descriptors_in_order : DescriptorsInOrder
descriptors_in_order [] m = refl
descriptors_in_order (d ∷ ds) m = descriptors_in_order ds (done (fields d) m)
