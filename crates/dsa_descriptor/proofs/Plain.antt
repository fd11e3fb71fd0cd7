-- Bytes without a fence are read alike, with fences as barriers or not.
use Rattle.std.proofs.Common.{◌≡◌, ℕ, zero, suc, ◌*◌, ◌/◌, ◌<◌, Bool, true, false, ◌||◌, List, [], ◌∷◌, ◌++◌, length, take, drop, get_or, eqb, refl, sym, ap, ◌∙◌, subst, append_assoc, map, arith}
use Rattle.std.specs.List.{flat_map, list_any}
use Rattle.std.specs.Simd.{first_chunks}
use Rattle.std.proofs.lemmas.List.{take-append-drop, drop-drop}
use Rattle.dsa_descriptor.specs.declared.descriptor.Descriptor.{Descriptor}
use Rattle.dsa_descriptor.specs.declared.fault.FieldFault.{FieldFault}
use Rattle.dsa_descriptor.specs.Descriptors.{fields}
use Rattle.dsa_descriptor.specs.Faults.{Keeps}
use Rattle.dsa_descriptor.specs.Fences.{barriers_of, is_fenced, unfenced, unfenced_list}
use Rattle.dsa_descriptor.specs.Lists.{list_spelling, entries, AreEntries, HaveOneOwner, IsSound}
use Rattle.dsa_descriptor.proofs.Entries.{length-chunks}
use Rattle.dsa_descriptor.proofs.Listed.{are_entries, sound_from_spelling, spelt}
use Rattle.dsa_descriptor.proofs.Seen.{left_false, no_barriers, plain_entry, right_false}

-- ---- bytes without a fence

plain_joined : (n : ℕ) (bytes : List ℕ) → list_any is_fenced (first_chunks 64 n bytes) ≡ false → flat_map unfenced (first_chunks 64 n bytes) ++ drop (64 * n) bytes ≡ bytes
plain_joined zero bytes none = refl
plain_joined (suc n) bytes none =
    let here : Bool = is_fenced (take 64 bytes) in
    let later : Bool = list_any is_fenced (first_chunks 64 n (drop 64 bytes)) in
    let others : List ℕ = flat_map unfenced (first_chunks 64 n (drop 64 bytes)) in
    let first : unfenced (take 64 bytes) ≡ take 64 bytes = plain_entry (take 64 bytes) (λ e. let no : true ≡ false = sym e ∙ left_false here later none in absurd cc) in
    let next : drop (64 * suc n) bytes ≡ drop (64 * n) (drop 64 bytes) = ap (λ (k : ℕ). drop k bytes) (omega arith) ∙ sym (drop-drop (64 * n) 64 bytes) in
    let rest : others ++ drop (64 * n) (drop 64 bytes) ≡ drop 64 bytes = plain_joined n (drop 64 bytes) (right_false here later none) in
    append_assoc (unfenced (take 64 bytes)) others (drop (64 * suc n) bytes)
    ∙ ap (λ (xs : List ℕ). unfenced (take 64 bytes) ++ (others ++ xs)) next
    ∙ ap (λ (xs : List ℕ). unfenced (take 64 bytes) ++ xs) rest
    ∙ ap (λ (xs : List ℕ). xs ++ drop 64 bytes) first
    ∙ take-append-drop 64 bytes

pub unfenced_stays : (bytes : List ℕ) → list_any is_fenced (entries bytes) ≡ false → unfenced_list bytes ≡ bytes
unfenced_stays bytes none = plain_joined (length bytes / 64) bytes none

-- ---- sound bytes
module _ (E : Type 0) (spell : E → List ℕ) (keeps : List ℕ → FieldFault → Type 0) (are : AreEntries spell keeps) (bytes : List ℕ) (sound : IsSound keeps bytes) where
  plain_kept : (entry : List ℕ) → ((fault : FieldFault) → keeps entry fault) → is_fenced entry ≡ false
  plain_kept entry kept = ap (λ (n : ℕ). eqb n 1) (are.plain entry kept)

  none_any : (es : List (List ℕ)) → ((i : ℕ) → i < length es → is_fenced (get_or es i []) ≡ false) → list_any is_fenced es ≡ false
  none_any [] none = refl
  none_any (e ∷ es) none =
      ap (λ (b : Bool). b || list_any is_fenced es) (none 0 (omega arith)) ∙ none_any es (λ i lt. none (suc i) (omega (arith, lt)))

  -- no entry of them has a fence
  pub none_sound : list_any is_fenced (entries bytes) ≡ false
  none_sound =
      let count : length (entries bytes) ≡ length bytes / 64 = length-chunks (length bytes / 64) bytes in
      none_any (entries bytes) (λ i lt. plain_kept (get_or (entries bytes) i []) (sound.sound i (omega (arith, lt, count))).kept)

  -- so they are the same without their fences, and sound
  pub plain_list : unfenced_list bytes ≡ bytes
  plain_list = unfenced_stays bytes none_sound

  pub plain_sound : IsSound keeps (unfenced_list bytes)
  plain_sound = subst (IsSound keeps) (sym plain_list) sound

  pub plain_barriers : barriers_of bytes ≡ []
  plain_barriers = no_barriers (entries bytes) none_sound

-- bytes that spell descriptors have no fence
pub none_listed : (bytes : List ℕ) (ds : List Descriptor) → bytes ≡ list_spelling (map fields ds) → HaveOneOwner (map fields ds) → list_any is_fenced (entries bytes) ≡ false
none_listed bytes ds spelled one = none_sound Descriptor spelt Keeps are_entries bytes (sound_from_spelling bytes ds spelled one)
