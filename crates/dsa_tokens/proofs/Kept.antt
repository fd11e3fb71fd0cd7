-- What the slots of an object hold when a member is put into it.
use Rattle.std.proofs.Common.{◌≡◌, ◌≢◌, ℕ, Bool, true, false, List, ◌∷◌, Option, Some, IsSome, true≢false, refl, sym, ap, subst, ◌∙◌}
use Rattle.std.specs.Str.{bytes_eq}
use Rattle.std.proofs.lemmas.Slice.Eq.{bytes_eq-Decides}
use Rattle.serde_json.specs.Data.{Data, Members, put}
use Rattle.serde_json.specs.Find.{get_member}
use Rattle.serde_json.proofs.Views.{get_member-put, get_member-put_other}
use Rattle.dsa_tokens.specs.Said.{Holds}
use Rattle.dsa_tokens.specs.Spelled.{HasOthers, is_named}
use Rattle.dsa_tokens.specs.declared.slots.Slot.{Slot}

-- different names, by their bytes
pub apart : (k l : List ℕ) → bytes_eq k l ≡ false → k ≢ l
apart k l e same = true≢false (sym ((bytes_eq-Decides k l).1 same) ∙ e)

pub differ : (k l : List ℕ) → k ≢ l → bytes_eq k l ≡ false
differ k l other = go (bytes_eq k l) refl
  where
    go : (b : Bool) → bytes_eq k l ≡ b → bytes_eq k l ≡ false
    go true e = absurd (other ((bytes_eq-Decides k l).0 e))
    go false e = e

module _ {A : Type 0} (says : Data → Option A → Type 0) (slot : Slot A) (d : Data) (ms : Members) where
  -- the slot at whose name a value is put holds it
  pub put_slot : (k : List ℕ) → Holds says (Some d) slot → Holds says (get_member k (put k d ms)) slot
  put_slot k held = subst (λ (found : Option Data). Holds says found slot) (sym (get_member-put k d ms)) held

  -- the others hold what they held
  pub keep_slot : (k l : List ℕ) → bytes_eq k l ≡ false → Holds says (get_member k ms) slot → Holds says (get_member k (put l d ms)) slot
  keep_slot k l other held = subst (λ (found : Option Data). Holds says found slot) (sym (get_member-put_other k l d ms (apart k l other))) held

-- a name that is none of these is not the one that is
unnamed : (name l : List ℕ) (names : List (List ℕ)) → is_named name names ≡ false → is_named l names ≡ true → name ≢ l
unnamed name l names none one same = true≢false (sym one ∙ sym (ap (λ k. is_named k names) same) ∙ none)

module _ (names : List (List ℕ)) (d : Data) (ms : Members) (l : List ℕ) where
  -- a member with one of these names changes nothing of the others
  pub keep_others : (b : Bool) → is_named l names ≡ true → HasOthers names ms b → HasOthers names (put l d ms) b
  keep_others true one (name, none, there) = (name, none, subst IsSome (sym (get_member-put_other name l d ms (unnamed name l names none one))) there)
  keep_others false one others = λ name none. get_member-put_other name l d ms (unnamed name l names none one) ∙ others name none

  -- a member with another name is one of the others
  pub more_others : is_named l names ≡ false → HasOthers names (put l d ms) true
  more_others none = (l, none, subst IsSome (sym (get_member-put l d ms)) refl)

-- a name that is none of these is unlike each of them
pub unlike : (l : List ℕ) (names : List (List ℕ)) → is_named l names ≡ false → (k : List ℕ) → is_named k names ≡ true → bytes_eq k l ≡ false
unlike l names none k one = differ k l (λ same. unnamed l k names none one (sym same))

-- a name is none of these if it differs from each
pub none_named : (k l : List ℕ) (names : List (List ℕ)) → k ≢ l → is_named k names ≡ false → is_named k (l ∷ names) ≡ false
none_named k l names other none = rw (differ k l other) none
