-- The operations of a list conflict exactly if their entries do.
use Rattle.std.proofs.Common.{◌≡◌, ◌≢◌, ℕ, ◌+◌, ◌*◌, ◌<◌, ◌⊎◌, inl, inr, Bool, true, false, List, [], ◌∷◌, ◌++◌, Some, refl, sym, ap, subst, ◌∙◌, arith}
use Rattle.std.specs.Prelude.{◌↔◌, ◌&&◌, ◌||◌, ◌==◌, bit_and, if◌then◌else◌}
use Rattle.std.specs.List.{list_all}
use Rattle.std.proofs.Math.Dec.{leb}
use Rattle.std.proofs.lemmas.Bool.{eqb-true, leb-true}
use Rattle.dsa_descriptor.specs.declared.op.Op.TheVariants.{Move, Fill, Compare, ComparePattern, ApplyDelta, Dualcast}
use Rattle.dsa_descriptor.specs.declared.span.Span.{Span}
use Rattle.dsa_descriptor.specs.Data.{record_span}
use Rattle.dsa_descriptor.specs.Places.{u32_at, u64_at, flags_at, pasid_at, privileged_at}
use Rattle.dsa_descriptor.specs.Profile.{required_flags}
use Rattle.dsa_descriptor.specs.Spans.{InSpan, InSome}
use Rattle.dsa_ranges.specs.declared.span.Touched.{Touched}
use Rattle.dsa_ranges.specs.Ranges.{SpansConflict, WritesInto}
use Rattle.dsa_audit.specs.Members.{TouchedConflict}
use Rattle.dsa_operations.specs.declared.listed_op.ListedOp.{ListedOp}
use Rattle.dsa_operations.specs.declared.listed_op.ListedOp.TheVariants as listed
use Rattle.dsa_operations.specs.Listed.{listed_op, listed_sources, listed_targets}
use Rattle.dsa_operations.specs.OperationFields.{fields_reads, fields_writes}
use Rattle.dsa_lines.specs.Options.{fields_by}
use Rattle.dsa_recording.specs.Listings.{record_in_list, expecting_zero, flags_in_list, is_checked, requested_records, records_from, stand_in, is_clear, Does, StandInsConflict}
use Rattle.dsa_recording.proofs.EntryOps.{entry_reads_by, entry_targets_by}

-- ---- spans that are clear of the added records

both : (a b : Bool) → (a && b) ≡ true → (a ≡ true) × (b ≡ true)
both true true e = (refl, refl)
both true false e = absurd cc
both false b e = absurd cc

either : (a b : Bool) → (a || b) ≡ true → (a ≡ true) ⊎ (b ≡ true)
either true b e = inl refl
either false true e = inr refl
either false false e = absurd cc

-- the record that entry k gets if it requests none
abbrev added : ℕ → Span
added k = record_span (records_from + 32 * k)

apart_by : (count k a : ℕ) (s : Span) → k < count
    → (leb (s.first + s.len) records_from ≡ true) ⊎ (leb (records_from + 32 * count) s.first ≡ true) → InSpan s a → InSpan (added k) a → ⊥
apart_by count k a s lt (inl below) in_span in_record =
    absurd (omega (arith, leb-true (s.first + s.len) records_from below, in_span.1, in_record.0))
apart_by count k a s lt (inr after) in_span in_record =
    absurd (omega (arith, leb-true (records_from + 32 * count) s.first after, lt, in_span.0, in_record.1))

apart_some : (count k a : ℕ) (s : Span) → k < count
    → ((s.len == 0) ≡ true) ⊎ ((leb (s.first + s.len) records_from || leb (records_from + 32 * count) s.first) ≡ true) → InSpan s a → InSpan (added k) a → ⊥
apart_some count k a s lt (inl empty) in_span in_record = absurd (omega (arith, eqb-true s.len 0 empty, in_span.0, in_span.1))
apart_some count k a s lt (inr clear) in_span in_record =
    apart_by count k a s lt (either (leb (s.first + s.len) records_from) (leb (records_from + 32 * count) s.first) clear) in_span in_record

apart : (count k a : ℕ) (s : Span) → k < count → is_clear count s ≡ true → InSpan s a → InSpan (added k) a → ⊥
apart count k a s lt clear in_span in_record =
    apart_some count k a s lt (either (s.len == 0) (leb (s.first + s.len) records_from || leb (records_from + 32 * count) s.first) clear) in_span in_record

all_apart : (count k a : ℕ) (ss : List Span) → k < count → list_all (is_clear count) ss ≡ true → InSome ss a → InSpan (added k) a → ⊥
all_apart count k a [] lt clear touched there = absurd touched
all_apart count k a (s ∷ ss) lt clear (inl touched) there =
    apart count k a s lt (both (is_clear count s) (list_all (is_clear count) ss) clear).0 touched there
all_apart count k a (s ∷ ss) lt clear (inr touched) there =
    all_apart count k a ss lt (both (is_clear count s) (list_all (is_clear count) ss) clear).1 touched there

-- two such records are apart
records_apart : (m n a : ℕ) → m ≢ n → InSpan (added m) a → InSpan (added n) a → ⊥
records_apart m n a unlike here there = unlike (omega (arith, here.0, here.1, there.0, there.1))

-- ---- spans with and without such a record

-- these spans are those, and at most the record that entry k gets
record Adds (k : ℕ) (more spans : List Span) : Type 0 where
  had : (a : ℕ) → InSome more a → InSome spans a ⊎ InSpan (added k) a
  has : (a : ℕ) → InSome spans a → InSome more a

writes_into_more : (k l : ℕ) (w w' r' v v' : List Span) → Adds k w' w → Adds l v' v → WritesInto w r' v → WritesInto w' r' v'
writes_into_more k l w w' r' v v' first second (a, written, inl read) = (a, first.has a written, inl read)
writes_into_more k l w w' r' v v' first second (a, written, inr too) = (a, first.has a written, inr (second.has a too))

-- what is found of an address in the spans with the record, where the record has no such address
without : (A : Type 0) (k a : ℕ) (spans : List Span) → (InSpan (added k) a → ⊥) → (InSome spans a → A) → InSome spans a ⊎ InSpan (added k) a → A
without A k a spans never found (inl here) = found here
without A k a spans never found (inr there) = absurd (never there)

-- neither record is touched by the other, so they make no conflict
writes_into_fewer : (count k l : ℕ) (w w' r v v' : List Span) → k ≢ l → k < count → l < count → Adds k w' w → Adds l v' v
    → list_all (is_clear count) w ≡ true → list_all (is_clear count) r ≡ true → list_all (is_clear count) v ≡ true
    → WritesInto w' r v' → WritesInto w r v
writes_into_fewer count k l w w' r v v' unlike lt lt' first second w_clear r_clear v_clear (a, written, inl read) =
    without (WritesInto w r v) k a w (all_apart count k a r lt r_clear read) (λ here. (a, here, inl read)) (first.had a written)
writes_into_fewer count k l w w' r v v' unlike lt lt' first second w_clear r_clear v_clear (a, written, inr too) =
    without (WritesInto w r v) k a w
    (λ record_of. without ⊥ l a v (records_apart k l a unlike record_of) (λ there. all_apart count k a v lt v_clear there record_of) (second.had a too))
    (λ here.
    without (WritesInto w r v) l a v (all_apart count l a w lt' w_clear here) (λ there. (a, here, inr there)) (second.had a too))
    (first.had a written)

fewer : (count k l : ℕ) (r w w' s v v' : List Span) → k ≢ l → k < count → l < count → Adds k w' w → Adds l v' v
    → list_all (is_clear count) r ≡ true → list_all (is_clear count) w ≡ true → list_all (is_clear count) s ≡ true → list_all (is_clear count) v ≡ true
    → SpansConflict r w' s v' → SpansConflict r w s v
fewer count k l r w w' s v v' unlike lt lt' first second r_clear w_clear s_clear v_clear (inl into) =
    inl (writes_into_fewer count k l w w' s v v' unlike lt lt' first second w_clear s_clear v_clear into)
fewer count k l r w w' s v v' unlike lt lt' first second r_clear w_clear s_clear v_clear (inr into) =
    inr (writes_into_fewer count l k v v' r w w' (λ e. unlike (sym e)) lt' lt second first v_clear r_clear w_clear into)

more : (k l : ℕ) (r w w' s v v' : List Span) → Adds k w' w → Adds l v' v → SpansConflict r w s v → SpansConflict r w' s v'
more k l r w w' s v v' first second (inl into) = inl (writes_into_more k l w w' s v v' first second into)
more k l r w w' s v v' first second (inr into) = inr (writes_into_more l k v v' r w w' second first into)

-- ---- an operation of the list

turned : (k a : ℕ) (ss : List Span) → InSpan (added k) a ⊎ InSome ss a → InSome ss a ⊎ InSpan (added k) a
turned k a ss (inl there) = inr there
turned k a ss (inr there) = inl there

adds_by : (b : Bool) (k own : ℕ) (ss : List Span)
    → Adds k (record_span (if b then own else records_from + 32 * k) ∷ ss) ((if b then record_span own ∷ [] else []) ++ ss)
adds_by true k own ss = record { had = λ a there. inl there; has = λ a there. there }
adds_by false k own ss = record { had = λ a there. turned k a ss there; has = λ a there. inr there }

-- what the list has reads and writes the same, also if it expects another result
listed_reads : (checked : Bool) (op : ListedOp) (pasid : ℕ) (privileged : Bool) (flags record_at size : ℕ)
    → fields_reads (fields_by (if checked then op else expecting_zero op) pasid privileged flags record_at size 0) ≡ listed_sources op size
listed_reads true (listed.Descriptor op) pasid privileged flags record_at size = refl
listed_reads true (listed.Checksum op) pasid privileged flags record_at size = refl
listed_reads false (listed.Descriptor (Move src dst)) pasid privileged flags record_at size = refl
listed_reads false (listed.Descriptor (Fill pattern dst)) pasid privileged flags record_at size = refl
listed_reads false (listed.Descriptor (Compare src src2 expected)) pasid privileged flags record_at size = refl
listed_reads false (listed.Descriptor (ComparePattern src pattern expected)) pasid privileged flags record_at size = refl
listed_reads false (listed.Descriptor (ApplyDelta delta dst record_size)) pasid privileged flags record_at size = refl
listed_reads false (listed.Descriptor (Dualcast src dst dst2)) pasid privileged flags record_at size = refl
listed_reads false (listed.Checksum op) pasid privileged flags record_at size = refl

listed_writes : (checked : Bool) (op : ListedOp) (pasid : ℕ) (privileged : Bool) (flags record_at size : ℕ)
    → fields_writes (fields_by (if checked then op else expecting_zero op) pasid privileged flags record_at size 0) ≡ record_span record_at ∷ listed_targets op size
listed_writes true (listed.Descriptor op) pasid privileged flags record_at size = refl
listed_writes true (listed.Checksum op) pasid privileged flags record_at size = refl
listed_writes false (listed.Descriptor (Move src dst)) pasid privileged flags record_at size = refl
listed_writes false (listed.Descriptor (Fill pattern dst)) pasid privileged flags record_at size = refl
listed_writes false (listed.Descriptor (Compare src src2 expected)) pasid privileged flags record_at size = refl
listed_writes false (listed.Descriptor (ComparePattern src pattern expected)) pasid privileged flags record_at size = refl
listed_writes false (listed.Descriptor (ApplyDelta delta dst record_size)) pasid privileged flags record_at size = refl
listed_writes false (listed.Descriptor (Dualcast src dst dst2)) pasid privileged flags record_at size = refl
listed_writes false (listed.Checksum op) pasid privileged flags record_at size = refl

writes : (k : ℕ) (e : List ℕ) (t : Touched) (op : ListedOp) → Does e t → listed_op e ≡ Some op → Adds k (fields_writes (stand_in k e op)) t.writes.items
writes k e t op does is =
    let size : ℕ = u32_at 32 e in
    let flags : ℕ = flags_at e in
    let whole : t.writes.items ≡ requested_records e ++ listed_targets op size = does.writes ∙ ap (λ (ss : List Span). requested_records e ++ ss) (entry_targets_by e op is) in
    let there : fields_writes (stand_in k e op) ≡ record_span (record_in_list k e) ∷ listed_targets op size =
    listed_writes (is_checked op flags) op (pasid_at e) (privileged_at e) (flags_in_list op flags) (record_in_list k e) size in
    subst (λ (ss : List Span). Adds k ss t.writes.items) (sym there) (subst (Adds k (record_span (record_in_list k e) ∷ listed_targets op size)) (sym whole)
    (adds_by (bit_and flags required_flags == required_flags) k (u64_at 8 e) (listed_targets op size)))

reads : (k : ℕ) (e : List ℕ) (t : Touched) (op : ListedOp) → Does e t → listed_op e ≡ Some op → fields_reads (stand_in k e op) ≡ t.reads.items
reads k e t op does is =
    let flags : ℕ = flags_at e in
    listed_reads (is_checked op flags) op (pasid_at e) (privileged_at e) (flags_in_list op flags) (record_in_list k e) (u32_at 32 e)
    ∙ sym (does.reads ∙ entry_reads_by e op is)

pub stand_ins_conflict : StandInsConflict
stand_ins_conflict count m n d e t u o p unlike lt lt' first second o_is p_is t_clear u_clear =
    let t_all = both (list_all (is_clear count) t.reads.items) (list_all (is_clear count) t.writes.items) t_clear in
    let u_all = both (list_all (is_clear count) u.reads.items) (list_all (is_clear count) u.writes.items) u_clear in
    subst (λ (r : List Span). SpansConflict r (fields_writes (stand_in m d o)) (fields_reads (stand_in n e p)) (fields_writes (stand_in n e p)) ↔ TouchedConflict t u)
    (sym (reads m d t o first o_is))
    (subst (λ (s : List Span). SpansConflict t.reads.items (fields_writes (stand_in m d o)) s (fields_writes (stand_in n e p)) ↔ TouchedConflict t u)
    (sym (reads n e u p second p_is)) (
      fewer count m n t.reads.items t.writes.items (fields_writes (stand_in m d o)) u.reads.items u.writes.items (fields_writes (stand_in n e p)) unlike lt lt'
          (writes m d t o first o_is) (writes n e u p second p_is) t_all.0 t_all.1 u_all.0 u_all.1,
      more m n t.reads.items t.writes.items (fields_writes (stand_in m d o)) u.reads.items u.writes.items (fields_writes (stand_in n e p))
          (writes m d t o first o_is) (writes n e u p second p_is),
    ))
