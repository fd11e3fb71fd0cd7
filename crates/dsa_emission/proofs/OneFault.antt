-- Bytes have one first fault, but for an allocation failure.
use Rattle.std.proofs.Common.{ℕ, zero, suc, ◌≡◌, ◌≢◌, ◌+◌, ◌<◌, ◌≤◌, inl, inr, ⊎_elim, true, false, List, [], refl, sym, ap, ◌∙◌, subst, arith}
use Rattle.std.specs.Prelude.{slice_index_or, ◌⊎◌}
use Rattle.std.proofs.lemmas.Bool.{cases_order}
use Rattle.dsa_descriptor.specs.declared.fault.FieldFault.{FieldFault}
use Rattle.dsa_descriptor.specs.Fences.{is_fenced, unfenced}
use Rattle.dsa_descriptor.specs.Lists.{entries, AreEntries}
use Rattle.dsa_descriptor.proofs.Rules.{first_is_one}
use Rattle.dsa_ranges.specs.Pieces.{Kind}
use Rattle.dsa_emission.specs.declared.demands.Demands.{Demands}
use Rattle.dsa_emission.specs.declared.emission_fault.EntryFault.{EntryFault}
use Rattle.dsa_emission.specs.declared.emission_fault.EntryFault.TheVariants.{Field, OverTransfer, MixedPasid, StagingMeets}
use Rattle.dsa_emission.specs.declared.emission_fault.EmissionFault.{EmissionFault}
use Rattle.dsa_emission.specs.declared.emission_fault.EmissionFault.TheVariants.{PortalLength, StagingLength, BatchFields, EntryFence, Entry, RecordBytes, Memory}
use Rattle.dsa_settings.specs.Plan.{Plan}
use Rattle.dsa_settings.specs.Settings.{Limits}
use Rattle.dsa_emission.specs.EmissionFaults.{entry_size, place_before, piece_bytes, demands_of, Spells, IsOwned, IsFirstEntryFault, IsSoundPiece, IsFirstPieceFault, IsFirstGroupFault, IsFirstPortalFault, IsEmissionAs, IsFirstEmissionFaultAs}
use Rattle.dsa_emission.proofs.NoFault.{no_entry_fault, no_portal_fault, memory_alone, emission_is_sound}

is_memory : (f : EmissionFault) → (f ≡ Memory) ⊎ (f ≢ Memory)
is_memory Memory = inl refl
is_memory PortalLength = inr (λ e. absurd cc)
is_memory StagingLength = inr (λ e. absurd cc)
is_memory (BatchFields a) = inr (λ e. absurd cc)
is_memory (EntryFence a) = inr (λ e. absurd cc)
is_memory (Entry a b) = inr (λ e. absurd cc)
is_memory (RecordBytes a) = inr (λ e. absurd cc)

module _ (P : Type 0) (kind : Kind P) (are : AreEntries kind.spelling kind.keeps) where
  -- ---- one piece

  spelt_keeps : (bytes : List ℕ) (p : P) (f : FieldFault) → Spells kind bytes p → kind.keeps (unfenced bytes) f
  spelt_keeps bytes p f spelt = subst (λ (b : List ℕ). kind.keeps b f) (sym spelt) (are.kept p f)

  same_piece : (bytes : List ℕ) (p q : P) → Spells kind bytes p → Spells kind bytes q → p ≡ q
  same_piece bytes p q here there = are.one p q (sym here ∙ there)

  -- one piece isn't too long, and short
  too_long : (demands : Demands) (bytes : List ℕ) (p q : P) → Spells kind bytes p → demands.greatest < kind.size p → Spells kind bytes q → kind.size q ≤ demands.greatest → ⊥
  too_long demands bytes p q here long there short = absurd (omega (arith, long, short, ap kind.size (same_piece bytes p q here there)))

  -- nor of another owner, and of that one
  mixed : (demands : Demands) (bytes : List ℕ) (p q : P) → Spells kind bytes p → ¬ IsOwned kind demands p → Spells kind bytes q → IsOwned kind demands q → ⊥
  mixed demands bytes p q here other there owned = other (subst (IsOwned kind demands) (same_piece bytes q p there here) owned)

  one_entry_fault : (demands : Demands) (bytes : List ℕ) (f g : EntryFault) → IsFirstEntryFault kind demands bytes f → IsFirstEntryFault kind demands bytes g → f ≡ g
  one_entry_fault demands bytes (Field f) (Field g) p q = ap Field (first_is_one kind.keeps (unfenced bytes) f g p q)
  one_entry_fault demands bytes (Field f) OverTransfer p q = absurd (p.stands (spelt_keeps bytes q.0 f q.1))
  one_entry_fault demands bytes (Field f) MixedPasid p q = absurd (p.stands (spelt_keeps bytes q.0 f q.1))
  one_entry_fault demands bytes (Field f) StagingMeets p q = absurd (p.stands (spelt_keeps bytes q.0 f q.1))
  one_entry_fault demands bytes OverTransfer (Field g) p q = absurd (q.stands (spelt_keeps bytes p.0 g p.1))
  one_entry_fault demands bytes OverTransfer OverTransfer p q = refl
  one_entry_fault demands bytes OverTransfer MixedPasid p q = absurd (too_long demands bytes p.0 q.0 p.1 p.2 q.1 q.2)
  one_entry_fault demands bytes OverTransfer StagingMeets p q = absurd (too_long demands bytes p.0 q.0 p.1 p.2 q.1 q.2)
  one_entry_fault demands bytes MixedPasid (Field g) p q = absurd (q.stands (spelt_keeps bytes p.0 g p.1))
  one_entry_fault demands bytes MixedPasid OverTransfer p q = absurd (too_long demands bytes q.0 p.0 q.1 q.2 p.1 p.2)
  one_entry_fault demands bytes MixedPasid MixedPasid p q = refl
  one_entry_fault demands bytes MixedPasid StagingMeets p q = absurd (mixed demands bytes p.0 q.0 p.1 p.3 q.1 q.3)
  one_entry_fault demands bytes StagingMeets (Field g) p q = absurd (q.stands (spelt_keeps bytes p.0 g p.1))
  one_entry_fault demands bytes StagingMeets OverTransfer p q = absurd (too_long demands bytes q.0 p.0 q.1 q.2 p.1 p.2)
  one_entry_fault demands bytes StagingMeets MixedPasid p q = absurd (mixed demands bytes q.0 p.0 q.1 q.3 p.1 p.3)
  one_entry_fault demands bytes StagingMeets StagingMeets p q = refl

  -- ---- one group

  -- a sound piece has no fault
  no_piece_fault : (demands : Demands) (bytes : ℕ → List ℕ) (k : ℕ) (fault : EntryFault) → IsSoundPiece kind demands bytes k → IsFirstPieceFault kind demands bytes k fault → ⊥
  no_piece_fault demands bytes k fault sound f = no_entry_fault P kind are demands (bytes k) sound.piece fault sound.spelt sound.fit f.stands

  -- the first piece isn't fenced before a fault of a piece
  fence_first : (demands : Demands) (bytes : ℕ → List ℕ) (k : ℕ) (fault : EntryFault) → is_fenced (bytes 0) ≡ true → IsFirstPieceFault kind demands bytes k fault → ⊥
  fence_first demands bytes zero fault fenced f = let no : true ≡ false = sym fenced ∙ f.first_unfenced refl in absurd cc
  fence_first demands bytes (suc k) fault fenced f = let no : true ≡ false = sym fenced ∙ (f.before 0 (omega arith)).first_unfenced refl in absurd cc

  one_piece_fault : (demands : Demands) (bytes : ℕ → List ℕ) (start j k : ℕ) (f g : EntryFault) → IsFirstPieceFault kind demands bytes j f → IsFirstPieceFault kind demands bytes k g → ◌≡◌ {A = EmissionFault} (Entry (start + j) f) (Entry (start + k) g)
  one_piece_fault demands bytes start j k f g p q =
      ⊎_elim (λ (e : j ≡ k).
      let same : f ≡ g = one_entry_fault demands (bytes k) f g (subst (λ (z : ℕ). IsFirstEntryFault kind demands (bytes z) f) e p.stands) q.stands in
      λ i. Entry (start + e i) (same i))
      (⊎_elim (λ (lt : j < k). absurd (no_piece_fault demands bytes j f (q.before j lt) p)) (λ (gt : k < j). absurd (no_piece_fault demands bytes k g (p.before k gt) q)))
      (cases_order j k)

  one_group_fault : (demands : Demands) (bytes : ℕ → List ℕ) (number start size : ℕ) (f g : EmissionFault) → IsFirstGroupFault kind demands bytes number start size f → IsFirstGroupFault kind demands bytes number start size g → f ≡ g
  one_group_fault demands bytes number start size (EntryFence a) (EntryFence b) p q = ap EntryFence (p.0 ∙ sym q.0)
  one_group_fault demands bytes number start size (EntryFence a) (Entry q f) p r = absurd (fence_first demands bytes r.0 f p.2 r.3)
  one_group_fault demands bytes number start size (Entry q f) (EntryFence b) p r = absurd (fence_first demands bytes p.0 f r.2 p.3)
  one_group_fault demands bytes number start size (Entry q f) (Entry r g) p s =
      ap (λ (n : ℕ). Entry n f) p.1 ∙ one_piece_fault demands bytes start p.0 s.0 f g p.3 s.3 ∙ ap (λ (n : ℕ). Entry n g) (sym s.1)
  one_group_fault demands bytes number start size PortalLength g p q = absurd p
  one_group_fault demands bytes number start size StagingLength g p q = absurd p
  one_group_fault demands bytes number start size (BatchFields a) g p q = absurd p
  one_group_fault demands bytes number start size (RecordBytes a) g p q = absurd p
  one_group_fault demands bytes number start size Memory g p q = absurd p
  one_group_fault demands bytes number start size (EntryFence a) PortalLength p q = absurd q
  one_group_fault demands bytes number start size (EntryFence a) StagingLength p q = absurd q
  one_group_fault demands bytes number start size (EntryFence a) (BatchFields b) p q = absurd q
  one_group_fault demands bytes number start size (EntryFence a) (RecordBytes b) p q = absurd q
  one_group_fault demands bytes number start size (EntryFence a) Memory p q = absurd q
  one_group_fault demands bytes number start size (Entry a f) PortalLength p q = absurd q
  one_group_fault demands bytes number start size (Entry a f) StagingLength p q = absurd q
  one_group_fault demands bytes number start size (Entry a f) (BatchFields b) p q = absurd q
  one_group_fault demands bytes number start size (Entry a f) (RecordBytes b) p q = absurd q
  one_group_fault demands bytes number start size (Entry a f) Memory p q = absurd q

  -- a group of sound pieces has no fault
  no_group_fault : (demands : Demands) (bytes : ℕ → List ℕ) (number start size : ℕ) (f : EmissionFault) → ((k : ℕ) → k < size → IsSoundPiece kind demands bytes k) → IsFirstGroupFault kind demands bytes number start size f → ⊥
  no_group_fault demands bytes number start size (EntryFence a) sound p = let no : true ≡ false = sym p.2 ∙ (sound 0 p.1).first_unfenced refl in absurd cc
  no_group_fault demands bytes number start size (Entry q f) sound p = no_piece_fault demands bytes p.0 f (sound p.0 p.2) p.3
  no_group_fault demands bytes number start size PortalLength sound p = p
  no_group_fault demands bytes number start size StagingLength sound p = p
  no_group_fault demands bytes number start size (BatchFields a) sound p = p
  no_group_fault demands bytes number start size (RecordBytes a) sound p = p
  no_group_fault demands bytes number start size Memory sound p = p

  abbrev GroupFaultAt : Demands → List (List ℕ) → List (List ℕ) → ℕ → EmissionFault → Type 0
  GroupFaultAt demands es staged number fault =
      IsFirstGroupFault kind demands (piece_bytes es staged number) number (place_before es number).start (entry_size (slice_index_or es number [])) fault

  one_portal_fault : (demands : Demands) (es staged : List (List ℕ)) (f g : EmissionFault) → IsFirstPortalFault kind demands es staged f → IsFirstPortalFault kind demands es staged g → f ≡ g
  one_portal_fault demands es staged f g p q =
      ⊎_elim (λ (e : p.number ≡ q.number).
      one_group_fault demands (piece_bytes es staged q.number) q.number (place_before es q.number).start (entry_size (slice_index_or es q.number [])) f g
      (subst (λ (n : ℕ). GroupFaultAt demands es staged n f) e p.stands) q.stands)
      (⊎_elim (λ (lt : p.number < q.number). absurd (no_group_fault demands (piece_bytes es staged p.number) p.number (place_before es p.number).start (entry_size (slice_index_or es p.number [])) f (q.before p.number lt) p.stands))
      (λ (gt : q.number < p.number). absurd (no_group_fault demands (piece_bytes es staged q.number) q.number (place_before es q.number).start (entry_size (slice_index_or es q.number [])) g (p.before q.number gt) q.stands)))
      (cases_order p.number q.number)

  -- ---- the whole

  pub one_fault : (s : Limits) (portal staging : List ℕ) (f g : EmissionFault) → f ≢ Memory → g ≢ Memory → IsFirstEmissionFaultAs kind s portal staging f → IsFirstEmissionFaultAs kind s portal staging g → f ≡ g
  one_fault s portal staging Memory g nf ng p q = absurd (nf refl)
  one_fault s portal staging f Memory nf ng p q = absurd (ng refl)
  one_fault s portal staging PortalLength PortalLength nf ng p q = refl
  one_fault s portal staging PortalLength StagingLength nf ng p q = absurd (p q.0)
  one_fault s portal staging PortalLength (BatchFields b) nf ng p q = absurd (p q.0.whole)
  one_fault s portal staging PortalLength (EntryFence b) nf ng p q = absurd (p q.0.lengths.whole)
  one_fault s portal staging PortalLength (Entry b e) nf ng p q = absurd (p q.0.lengths.whole)
  one_fault s portal staging PortalLength (RecordBytes b) nf ng p q = absurd (p q.0.batches.lengths.whole)
  one_fault s portal staging StagingLength PortalLength nf ng p q = absurd (q p.0)
  one_fault s portal staging StagingLength StagingLength nf ng p q = refl
  one_fault s portal staging StagingLength (BatchFields b) nf ng p q = absurd (p.1 q.0.staged)
  one_fault s portal staging StagingLength (EntryFence b) nf ng p q = absurd (p.1 q.0.lengths.staged)
  one_fault s portal staging StagingLength (Entry b e) nf ng p q = absurd (p.1 q.0.lengths.staged)
  one_fault s portal staging StagingLength (RecordBytes b) nf ng p q = absurd (p.1 q.0.batches.lengths.staged)
  one_fault s portal staging (BatchFields a) PortalLength nf ng p q = absurd (q p.0.whole)
  one_fault s portal staging (BatchFields a) StagingLength nf ng p q = absurd (q.1 p.0.staged)
  one_fault s portal staging (BatchFields a) (BatchFields b) nf ng p q =
      ⊎_elim (λ (e : a ≡ b). ap BatchFields e) (⊎_elim (λ (lt : a < b). absurd (p.3 (q.2 a lt))) (λ (gt : b < a). absurd (q.3 (p.2 b gt)))) (cases_order a b)
  one_fault s portal staging (BatchFields a) (EntryFence b) nf ng p q = absurd (p.3 (q.0.right a p.1))
  one_fault s portal staging (BatchFields a) (Entry b e) nf ng p q = absurd (p.3 (q.0.right a p.1))
  one_fault s portal staging (BatchFields a) (RecordBytes b) nf ng p q = absurd (p.3 (q.0.batches.right a p.1))
  one_fault s portal staging (EntryFence a) PortalLength nf ng p q = absurd (q p.0.lengths.whole)
  one_fault s portal staging (EntryFence a) StagingLength nf ng p q = absurd (q.1 p.0.lengths.staged)
  one_fault s portal staging (EntryFence a) (BatchFields b) nf ng p q = absurd (q.3 (p.0.right b q.1))
  one_fault s portal staging (EntryFence a) (EntryFence b) nf ng p q = one_portal_fault (demands_of s (entries portal) (entries staging)) (entries portal) (entries staging) (EntryFence a) (EntryFence b) p.1 q.1
  one_fault s portal staging (EntryFence a) (Entry b e) nf ng p q = one_portal_fault (demands_of s (entries portal) (entries staging)) (entries portal) (entries staging) (EntryFence a) (Entry b e) p.1 q.1
  one_fault s portal staging (EntryFence a) (RecordBytes b) nf ng p q = absurd (no_portal_fault P kind are (demands_of s (entries portal) (entries staging)) (entries portal) (entries staging) (EntryFence a) q.0.sound p.1)
  one_fault s portal staging (Entry a e) PortalLength nf ng p q = absurd (q p.0.lengths.whole)
  one_fault s portal staging (Entry a e) StagingLength nf ng p q = absurd (q.1 p.0.lengths.staged)
  one_fault s portal staging (Entry a e) (BatchFields b) nf ng p q = absurd (q.3 (p.0.right b q.1))
  one_fault s portal staging (Entry a e) (EntryFence b) nf ng p q = one_portal_fault (demands_of s (entries portal) (entries staging)) (entries portal) (entries staging) (Entry a e) (EntryFence b) p.1 q.1
  one_fault s portal staging (Entry a e) (Entry b f) nf ng p q = one_portal_fault (demands_of s (entries portal) (entries staging)) (entries portal) (entries staging) (Entry a e) (Entry b f) p.1 q.1
  one_fault s portal staging (Entry a e) (RecordBytes b) nf ng p q = absurd (no_portal_fault P kind are (demands_of s (entries portal) (entries staging)) (entries portal) (entries staging) (Entry a e) q.0.sound p.1)
  one_fault s portal staging (RecordBytes a) PortalLength nf ng p q = absurd (q p.0.batches.lengths.whole)
  one_fault s portal staging (RecordBytes a) StagingLength nf ng p q = absurd (q.1 p.0.batches.lengths.staged)
  one_fault s portal staging (RecordBytes a) (BatchFields b) nf ng p q = absurd (q.3 (p.0.batches.right b q.1))
  one_fault s portal staging (RecordBytes a) (EntryFence b) nf ng p q = absurd (no_portal_fault P kind are (demands_of s (entries portal) (entries staging)) (entries portal) (entries staging) (EntryFence b) p.0.sound q.1)
  one_fault s portal staging (RecordBytes a) (Entry b e) nf ng p q = absurd (no_portal_fault P kind are (demands_of s (entries portal) (entries staging)) (entries portal) (entries staging) (Entry b e) p.0.sound q.1)
  one_fault s portal staging (RecordBytes a) (RecordBytes b) nf ng p q =
      ⊎_elim (λ (e : a ≡ b). ap RecordBytes e) (⊎_elim (λ (lt : a < b). absurd (p.3 (q.2 a lt))) (λ (gt : b < a). absurd (q.3 (p.2 b gt)))) (cases_order a b)

  -- the answer is the first fault, or an allocation failure
  pub told_or_memory : (s : Limits) (portal staging : List ℕ) (told fault : EmissionFault) → fault ≢ Memory → IsFirstEmissionFaultAs kind s portal staging told → IsFirstEmissionFaultAs kind s portal staging fault → (told ≡ fault) ⊎ (told ≡ Memory)
  told_or_memory s portal staging told fault other p q =
      ⊎_elim (λ (e : told ≡ Memory). inr e) (λ (n : told ≢ Memory). inl (one_fault s portal staging told fault n other p q)) (is_memory told)

  -- an emission has no fault to tell
  pub none_to_tell : (s : Limits) (portal staging : List ℕ) (plan : Plan) (ps : List P) (fault : EmissionFault) → IsEmissionAs kind s portal staging plan ps → fault ≢ Memory → IsFirstEmissionFaultAs kind s portal staging fault → ⊥
  none_to_tell s portal staging plan ps fault m other first = other (memory_alone P kind are s portal staging fault (emission_is_sound P kind are s portal staging plan ps m) first)
