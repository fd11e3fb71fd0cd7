-- An emission has no fault.
use Rattle.std.proofs.Common.{ℕ, zero, suc, ◌≡◌, ◌+◌, ◌*◌, ◌/◌, ◌<◌, ◌≤◌, inl, inr, Bool, true, false, cond, eqb, List, [], length, take, drop, get_or, Some, refl, sym, ap, ◌∙◌, subst, slice_get, arith}
use Rattle.std.specs.Prelude.{slice_index_or, replicate}
use Rattle.std.proofs.lemmas.Bool.{cases_lt, ne_eqb}
use Rattle.std.proofs.lemmas.List.Elements.{All-replicate, All-take, All-drop}
use Rattle.std.proofs.lemmas.Option.{same_Some, slice_get_within, slice_get-get_or, get_or_from_slice_get}
use Rattle.dsa_descriptor.specs.Fences.{fenced}
use Rattle.dsa_descriptor.specs.Lists.{entries, entry, AreEntries, AgreeOnOwner}
use Rattle.dsa_descriptor.specs.Places.{u32_at}
use Rattle.dsa_descriptor.specs.Spans.{InSpan, span}
use Rattle.dsa_descriptor.proofs.Entries.{length-chunks}
use Rattle.dsa_ranges.specs.Pieces.{Kind, TouchesAt}
use Rattle.dsa_emission.specs.declared.demands.Demands.{Demands}
use Rattle.dsa_emission.specs.declared.emission_fault.EntryFault.{EntryFault}
use Rattle.dsa_emission.specs.declared.emission_fault.EntryFault.TheVariants.{Field, OverTransfer, MixedPasid, StagingMeets}
use Rattle.dsa_emission.specs.declared.emission_fault.EmissionFault.{EmissionFault}
use Rattle.dsa_emission.specs.declared.emission_fault.EmissionFault.TheVariants.{PortalLength, StagingLength, BatchFields, EntryFence, Entry, RecordBytes, Memory}
use Rattle.dsa_emission.specs.declared.place.Place.{Place}
use Rattle.dsa_settings.specs.Plan.{Plan, start_of}
use Rattle.dsa_settings.specs.Settings.{Limits}
use Rattle.dsa_emission.specs.Emission.{is_batch, batch_count, batched_count, place_of, batch_spelling}
use Rattle.dsa_emission.specs.EmissionFaults.{is_batch_entry, entry_size, place_before, place_at_end, piece_bytes, owner_of, demands_of, Spells, IsOwned, IsFit, IsFirstEntryFault, IsSoundPiece, IsSoundGroup, IsFirstPortalFault, IsRightAt, HasPieces, HasZeroRecord, records_of, IsEmissionAs, IsFirstEmissionFaultAs}
use Rattle.dsa_emission.proofs.AtPlaces.{StandsBy, stands_by}
use Rattle.dsa_emission.proofs.Places.{batch_yes, batch_no, group_batch}
use Rattle.dsa_emission.proofs.ReadBack.{all_at}
use Rattle.dsa_emission.proofs.SamePlaces.{SameShape, place_same, SameEnd, end_same}
use Rattle.dsa_emission.proofs.Spelt.{told_by, owner_by, owned_by}
use Rattle.dsa_emission.proofs.Told.{group_at, is_group_at, some_at, Fits, fits_by, batch_by, batch_is, lone_is}

-- ---- bytes without a fault have none

pub record Sound {P : Type 0} (kind : Kind P) (s : Limits) (portal staging : List ℕ) : Type 0 where
  pub pieces : HasPieces kind s portal staging
  pub zeros : (b : ℕ) → b < (place_at_end (entries portal)).batches → HasZeroRecord (records_of portal staging) b

module _ (P : Type 0) (kind : Kind P) (are : AreEntries kind.spelling kind.keeps) where
  pub no_entry_fault : (demands : Demands) (bytes : List ℕ) (p : P) (fault : EntryFault) → Spells kind bytes p → IsFit kind demands p → IsFirstEntryFault kind demands bytes fault → ⊥
  no_entry_fault demands bytes p (Field f) spelt fit stands = stands.stands (subst (λ (b : List ℕ). kind.keeps b f) (sym spelt) (are.kept p f))
  no_entry_fault demands bytes p OverTransfer spelt fit (q, other, long) =
      let same : p ≡ q = are.one p q (sym spelt ∙ other) in
      absurd (omega (arith, long, fit.short, ap kind.size same))
  no_entry_fault demands bytes p MixedPasid spelt fit (q, other, short, mixed) =
      mixed (subst (IsOwned kind demands) (are.one p q (sym spelt ∙ other)) fit.owned)
  no_entry_fault demands bytes p StagingMeets spelt fit (q, other, short, owned, (address, inside, touches)) =
      let same : q ≡ p = are.one q p (sym other ∙ spelt) in
      fit.clear address inside (subst (λ (x : P). TouchesAt kind x address) same touches)

  pub no_portal_fault : (demands : Demands) (es staged : List (List ℕ)) (fault : EmissionFault) → ((g : ℕ) → g < length es → IsSoundGroup kind demands es staged g) → IsFirstPortalFault kind demands es staged fault → ⊥
  no_portal_fault demands es staged (EntryFence g) sound f =
      let none = (sound f.number f.inside 0 f.stands.1).first_unfenced refl in
      let no : true ≡ false = sym f.stands.2 ∙ none in absurd cc
  no_portal_fault demands es staged (Entry q fault) sound f =
      let here = sound f.number f.inside f.stands.0 f.stands.2 in
      no_entry_fault demands (piece_bytes es staged f.number f.stands.0) here.piece fault here.spelt here.fit f.stands.3.stands
  no_portal_fault demands es staged PortalLength sound f = f.stands
  no_portal_fault demands es staged StagingLength sound f = f.stands
  no_portal_fault demands es staged (BatchFields g) sound f = f.stands
  no_portal_fault demands es staged (RecordBytes g) sound f = f.stands
  no_portal_fault demands es staged Memory sound f = f.stands

  pub memory_alone : (s : Limits) (portal staging : List ℕ) (fault : EmissionFault) → Sound kind s portal staging → IsFirstEmissionFaultAs kind s portal staging fault → fault ≡ Memory
  memory_alone s portal staging PortalLength sound f = absurd (f sound.pieces.batches.lengths.whole)
  memory_alone s portal staging StagingLength sound f = absurd (f.1 sound.pieces.batches.lengths.staged)
  memory_alone s portal staging (BatchFields g) sound f = absurd (f.3 (sound.pieces.batches.right g f.1))
  memory_alone s portal staging (EntryFence g) sound f = absurd (no_portal_fault (demands_of s (entries portal) (entries staging)) (entries portal) (entries staging) (EntryFence g) sound.pieces.sound f.1)
  memory_alone s portal staging (Entry q fault) sound f = absurd (no_portal_fault (demands_of s (entries portal) (entries staging)) (entries portal) (entries staging) (Entry q fault) sound.pieces.sound f.1)
  memory_alone s portal staging (RecordBytes b) sound f = absurd (f.3 (sound.zeros b f.1))
  memory_alone s portal staging Memory sound f = refl

-- ---- an emission is such bytes

zero_at : (n b : ℕ) → HasZeroRecord (replicate n 0) b
zero_at n b = All-take (λ byte. byte ≡ 0) 32 (drop (32 * b) (replicate n 0)) (All-drop (λ byte. byte ≡ 0) (32 * b) (replicate n 0) (All-replicate (λ byte. byte ≡ 0) n 0 refl))

module _ (P : Type 0) (kind : Kind P) (are : AreEntries kind.spelling kind.keeps) (s : Limits) (portal staging : List ℕ) (plan : Plan) (ps : List P) (m : IsEmissionAs kind s portal staging plan ps) where
  stands : StandsBy kind.spelling s plan ps portal staging
  stands = (stands_by P kind are s plan ps portal staging m.can_be).0 (m.portal_is, m.staging_is)

  count : length plan ≡ length (entries portal)
  count = omega (arith, stands.portal_length, length-chunks (length portal / 64) portal)

  here : (k : ℕ) → k < length (entries portal) → slice_get plan k ≡ Some (group_at plan k)
  here k lt = is_group_at plan k (omega (arith, count))

  fits : (k : ℕ) → k < length (entries portal) → Fits (place_of plan k) (group_at plan k) ps
  fits k lt = fits_by P kind are s plan ps m.can_be k (omega (arith, count))

  -- what the entry of a group gives
  record Tells (k : ℕ) : Type 0 where
    size : length (group_at plan k) ≡ entry_size (entry portal k)
    batch : is_batch (group_at plan k) ≡ is_batch_entry (entry portal k)

  tells_batch : (k : ℕ) → k < length (entries portal) → 1 < length (group_at plan k) → Tells k
  tells_batch k lt more =
      let f : Fits (place_of plan k) (group_at plan k) ps = fits k lt in
      let (d, is) = batch_is P kind are s (batched_count plan) (place_of plan k) (group_at plan k) ps f more in
      let e : entry portal k ≡ batch_spelling (take 4 (kind.spelling d)) (s.staging + 64 * batched_count plan + 32 * (place_of plan k).batches) (s.staging + 64 * (place_of plan k).batched) (length (group_at plan k)) =
      stands.entries k (group_at plan k) (here k lt) ∙ is in
      let yes : is_batch_entry (entry portal k) ≡ true =
      ap is_batch_entry e ∙ ap (λ (n : ℕ). eqb n 1) (batch_by P kind are d (s.staging + 64 * batched_count plan + 32 * (place_of plan k).batches) (s.staging + 64 * (place_of plan k).batched) (length (group_at plan k))).code in
      let size : u32_at 32 (entry portal k) ≡ length (group_at plan k) =
      ap (u32_at 32) e ∙ (batch_by P kind are d (s.staging + 64 * batched_count plan + 32 * (place_of plan k).batches) (s.staging + 64 * (place_of plan k).batched) (length (group_at plan k))).size (omega (arith, f.room, f.few)) in
      record {
        size = sym size ∙ ap (λ (b : Bool). cond b (u32_at 32 (entry portal k)) 1) (sym yes);
        batch = batch_yes (group_at plan k) more ∙ sym yes;
      }

  tells_lone : (k : ℕ) → k < length (entries portal) → (1 < length (group_at plan k) → ⊥) → Tells k
  tells_lone k lt few =
      let f : Fits (place_of plan k) (group_at plan k) ps = fits k lt in
      let one : length (group_at plan k) ≡ 1 = omega (arith, f.nonempty) in
      let (d, is, at) = lone_is P kind are s (batched_count plan) (place_of plan k) (group_at plan k) ps f one in
      let e : entry portal k ≡ kind.spelling d = stands.entries k (group_at plan k) (here k lt) ∙ is in
      let no : is_batch_entry (entry portal k) ≡ false = ap is_batch_entry e ∙ ne_eqb (get_or (kind.spelling d) 7 0) 1 (are.single d) in
      record {
        size = one ∙ ap (λ (b : Bool). cond b (u32_at 32 (entry portal k)) 1) (sym no);
        batch = batch_no (group_at plan k) few ∙ sym no;
      }

  tells : (k : ℕ) → k < length (entries portal) → Tells k
  tells k lt = elim (cases_lt 1 (length (group_at plan k))) [ inl more ↦ tells_batch k lt more | inr few ↦ tells_lone k lt (λ more. absurd (omega arith)) ]

  shape : SameShape (entries portal) plan
  shape = record { count = count; sizes = λ k lt. (tells k lt).size; batches = λ k lt. (tells k lt).batch }

  whole_end : SameEnd (entries portal) plan
  whole_end = end_same (entries portal) plan shape

  placed : (n : ℕ) → place_of plan n ≡ place_before (entries portal) n
  placed n = place_same (entries portal) plan n shape

  -- each piece is in its bytes
  record Piece (number k : ℕ) : Type 0 where
    piece : P
    at : slice_get ps ((place_before (entries portal) number).start + k) ≡ Some piece
    fence : Bool
    flag : slice_get (group_at plan number) k ≡ Some fence
    bytes : piece_bytes (entries portal) (entries staging) number k ≡ fenced fence (kind.spelling piece)

  in_batch : (number k : ℕ) → number < length (entries portal) → k < length (group_at plan number) → 1 < length (group_at plan number) → (d : P) → slice_get ps ((place_before (entries portal) number).start + k) ≡ Some d → Piece number k
  in_batch number k lt inside more d at =
      let flag : slice_get (group_at plan number) k ≡ Some (get_or (group_at plan number) k false) = slice_get-get_or (group_at plan number) k false inside in
      let yes : is_batch_entry (entry portal number) ≡ true = sym (tells number lt).batch ∙ batch_yes (group_at plan number) more in
      let spelt = stands.pieces number (group_at plan number) k (get_or (group_at plan number) k false) d (here number lt) more flag (ap (λ (p : Place). slice_get ps (p.start + k)) (placed number) ∙ at) in
      record {
        piece = d;
        at = at;
        fence = get_or (group_at plan number) k false;
        flag = flag;
        bytes = ap (λ (b : Bool). cond b (slice_index_or (entries staging) ((place_before (entries portal) number).batched + k) []) (entry portal number)) yes
            ∙ ap (λ (p : Place). slice_index_or (entries staging) (p.batched + k) []) (sym (placed number)) ∙ spelt;
      }

  alone : (number k : ℕ) → number < length (entries portal) → k < length (group_at plan number) → (1 < length (group_at plan number) → ⊥) → (d : P) → slice_get ps ((place_before (entries portal) number).start + k) ≡ Some d → Piece number k
  alone number k lt inside few d at =
      let f : Fits (place_of plan number) (group_at plan number) ps = fits number lt in
      let one : length (group_at plan number) ≡ 1 = omega (arith, f.nonempty) in
      let first : k ≡ 0 = omega (arith, one) in
      let no : is_batch_entry (entry portal number) ≡ false = sym (tells number lt).batch ∙ batch_no (group_at plan number) few in
      let (e, is, there) = lone_is P kind are s (batched_count plan) (place_of plan number) (group_at plan number) ps f one in
      let start : (place_before (entries portal) number).start + k ≡ start_of plan number = omega (arith, first, ap (λ (p : Place). p.start) (placed number)) in
      let same : e ≡ d = same_Some e d (sym (slice_get-get_or ps (start_of plan number) e (omega (arith, f.room, f.nonempty)) ∙ ap Some (sym there)) ∙ ap (slice_get ps) (sym start) ∙ at) in
      let begins : slice_get (group_at plan number) 0 ≡ Some false = (m.can_be.shapes number (group_at plan number) (here number lt)).begins in
      record {
        piece = d;
        at = at;
        fence = false;
        flag = ap (slice_get (group_at plan number)) first ∙ begins;
        bytes = ap (λ (b : Bool). cond b (slice_index_or (entries staging) ((place_before (entries portal) number).batched + k) []) (entry portal number)) no
            ∙ stands.entries number (group_at plan number) (here number lt) ∙ is ∙ ap kind.spelling same;
      }

  piece_of : (number k : ℕ) → number < length (entries portal) → k < length (group_at plan number) → Piece number k
  piece_of number k lt inside =
      let f : Fits (place_of plan number) (group_at plan number) ps = fits number lt in
      let start : start_of plan number ≡ (place_before (entries portal) number).start = ap (λ (p : Place). p.start) (placed number) in
      let within : (place_before (entries portal) number).start + k < length ps = omega (arith, f.room, start) in
      let (d, is) = some_at ps ((place_before (entries portal) number).start + k) within in
      let at : slice_get ps ((place_before (entries portal) number).start + k) ≡ Some d = slice_get-get_or ps ((place_before (entries portal) number).start + k) d within ∙ ap Some (sym is) in
      elim (cases_lt 1 (length (group_at plan number))) [
        | inl more ↦ in_batch number k lt inside more d at
        | inr few ↦ alone number k lt inside (λ more. absurd (omega arith)) d at
      ]

  first_piece : 0 < length (entries portal) → Piece 0 0
  first_piece lt = piece_of 0 0 lt (fits 0 lt).nonempty

  -- all have the owner that the first bytes tell
  same_owner : (i : ℕ) (d e : P) → slice_get ps 0 ≡ Some e → slice_get ps i ≡ Some d → AgreeOnOwner (kind.spelling e) (kind.spelling d)
  same_owner zero d e first at = let same : e ≡ d = same_Some e d (sym first ∙ at) in subst (λ (x : P). AgreeOnOwner (kind.spelling e) (kind.spelling x)) same (refl, refl)
  same_owner (suc i) d e first at =
      let lt : suc i < length ps = slice_get_within ps (suc i) d at in
      subst (λ (x : P). AgreeOnOwner (kind.spelling e) (kind.spelling x)) (get_or_from_slice_get ps (suc i) d d at)
      (subst (λ (x : P). AgreeOnOwner (kind.spelling x) (kind.spelling (get_or ps (suc i) d))) (get_or_from_slice_get ps 0 e d first) (m.can_be.one_owner 0 (suc i) d (omega arith) lt))

  owned : 0 < length (entries portal) → (i : ℕ) (d : P) → slice_get ps i ≡ Some d → IsOwned kind (demands_of s (entries portal) (entries staging)) d
  owned lt i d at =
      let first : Piece 0 0 = first_piece lt in
      owned_by P kind are (piece_bytes (entries portal) (entries staging) 0 0) first.piece d (told_by P kind are (piece_bytes (entries portal) (entries staging) 0 0) first.fence first.piece first.bytes).1
      (same_owner i d first.piece first.at at)

  count_of : length ps ≡ (place_at_end (entries portal)).start
  count_of = sym m.can_be.covers ∙ whole_end.pieces

  fit : 0 < length (entries portal) → (i : ℕ) (d : P) → slice_get ps i ≡ Some d → IsFit kind (demands_of s (entries portal) (entries staging)) d
  fit lt i d at = record {
    short = all_at (λ (p : P). kind.size p ≤ s.greatest_transfer) ps i d m.can_be.short at;
    owned = owned lt i d at;
    clear = λ address inside.
        all_at (λ (p : P). (address : ℕ) → InSpan (span s.staging (96 * length ps)) address → ¬ TouchesAt kind p address) ps i d m.can_be.clear at address
        (subst (λ (n : ℕ). InSpan (span s.staging (96 * n)) address) (sym count_of) inside);
  }

  sound_piece : (number k : ℕ) → number < length (entries portal) → k < entry_size (entry portal number) → IsSoundPiece kind (demands_of s (entries portal) (entries staging)) (piece_bytes (entries portal) (entries staging) number) k
  sound_piece number k lt inside =
      let p : Piece number k = piece_of number k lt (omega (arith, (tells number lt).size)) in
      let told = told_by P kind are (piece_bytes (entries portal) (entries staging) number k) p.fence p.piece p.bytes in
      let begins : slice_get (group_at plan number) 0 ≡ Some false = (m.can_be.shapes number (group_at plan number) (here number lt)).begins in
      record {
        first_unfenced = λ none. told.0 ∙ same_Some p.fence false (sym p.flag ∙ ap (slice_get (group_at plan number)) none ∙ begins);
        piece = p.piece;
        spelt = told.1;
        fit = fit (omega arith) ((place_before (entries portal) number).start + k) p.piece p.at;
      }

  right : (number : ℕ) → number < length (entries portal) → IsRightAt s (entries portal) (owner_of portal staging) number
  right number lt is =
      let first : Piece 0 0 = first_piece (omega arith) in
      let some : 0 < length ps = slice_get_within ps 0 first.piece first.at in
      let owner : owner_of portal staging ≡ take 4 (kind.spelling first.piece) = owner_by P kind are (piece_bytes (entries portal) (entries staging) 0 0) first.piece (told_by P kind are (piece_bytes (entries portal) (entries staging) 0 0) first.fence first.piece first.bytes).1 in
      let size : length (group_at plan number) ≡ u32_at 32 (entry portal number) = (tells number lt).size ∙ ap (λ (b : Bool). cond b (u32_at 32 (entry portal number)) 1) is in
      elim (cases_lt 1 (length (group_at plan number))) [
        | inr few ↦
            let no : true ≡ false = sym is ∙ sym (tells number lt).batch ∙ batch_no (group_at plan number) (λ more. absurd (omega arith)) in
            absurd (cc)
        | inl more ↦ record {
          least = omega (arith, size);
          most = omega (arith, size, (m.can_be.shapes number (group_at plan number) (here number lt)).size.fits);
          bytes = stands.entries number (group_at plan number) (here number lt)
              ∙ group_batch P kind.spelling s (batched_count plan) (place_of plan number) (group_at plan number) ps first.piece more some (are.whole first.piece) (sym (get_or_from_slice_get ps 0 first.piece first.piece first.at))
              ∙ ap (λ (o : List ℕ). batch_spelling o (s.staging + 64 * batched_count plan + 32 * (place_of plan number).batches) (s.staging + 64 * (place_of plan number).batched) (length (group_at plan number))) (sym owner)
              ∙ ap (λ (n : ℕ). batch_spelling (owner_of portal staging) (s.staging + 64 * batched_count plan + 32 * (place_of plan number).batches) (s.staging + 64 * (place_of plan number).batched) n) size
              ∙ ap (λ (n : ℕ). batch_spelling (owner_of portal staging) (s.staging + 64 * n + 32 * (place_of plan number).batches) (s.staging + 64 * (place_of plan number).batched) (u32_at 32 (entry portal number))) whole_end.batched_total
              ∙ ap (λ (p : Place). batch_spelling (owner_of portal staging) (s.staging + 64 * (place_at_end (entries portal)).batched + 32 * p.batches) (s.staging + 64 * p.batched) (u32_at 32 (entry portal number))) (placed number);
        }
      ]

  pub emission_is_sound : Sound kind s portal staging
  emission_is_sound = record {
    pieces = record {
      batches = record {
        lengths = record {
          whole = omega (arith, stands.portal_length);
          staged = record { long = omega (arith, stands.staging_length, whole_end.batched_total, whole_end.batch_total); few = omega (arith, count_of, m.can_be.few) };
        };
        right = right;
      };
      sound = λ g lt k inside. sound_piece g k lt inside;
    };
    zeros = λ b lt. subst (λ (bytes : List ℕ). HasZeroRecord bytes b) (sym stands.records ∙ ap (λ (n : ℕ). drop (64 * n) staging) whole_end.batched_total) (zero_at (32 * batch_count plan) b);
  }
