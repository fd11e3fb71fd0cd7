-- Documents, member by member, and pairs, number by number.
use Rattle.std.proofs.Common.{◌≡◌, ◌≢◌, ◌⊎◌, inl, inr, ℕ, List, codes, Option, Some, None, is_some, Vec, Global, true, false, refl, ap, subst, ◌∙◌}
use Rattle.std.specs.List.Sorted.{IsStrictlySortedBy}
use Rattle.std.proofs.lemmas.List.Elements.{recursion_from_All, All-from_recursion}
use Rattle.serde_json.specs.Data.{Data, array, object, Items, no_items, item, Members, put}
use Rattle.serde_json.specs.Find.{get_member}
use Rattle.dsa_plan.specs.Certificate.{Contents}
use Rattle.dsa_tokens.specs.Said.{Holds}
use Rattle.dsa_tokens.specs.Spelled.{AreInOrder, HasOthers, Reads, is_named, members_of, whole}
use Rattle.dsa_tokens.specs.declared.slots.Slot.{Slot}
use Rattle.dsa_tokens.specs.declared.slots.Slot.TheVariants as slot
use Rattle.dsa_tokens.proofs.Names.{all_there, held_there, names_are, no_others}
use Rattle.dsa_tokens.proofs.Added.{kept_none, kept_some}
use Rattle.dsa_tokens.proofs.Items.{number_of_value, array_fits, array_spelled, no_array_fits, no_array_spelled}
use Rattle.dsa_tokens.proofs.Kept.{put_slot, keep_slot, keep_others, more_others, unlike}
use Rattle.dsa_cert.specs.Document.{Documents, PairFits, ReadsPair, ReadsTwo, document_fields, kept_contents, most_pairs, most_prices, pair_value, pairs_value, prices_value}
use Rattle.dsa_cert.proofs.Objects.{object_spelled}
use Rattle.dsa_cert.specs.Held.{AreHeld, PairsTwo, SaysPairs, SaysPrices, SaysVersion, document_names}
use Rattle.dsa_cert.specs.declared.reading.Held.{Held}

-- what is read of two values is what is read of each
pub two_read : (d e : Data) (first second : Option ℕ) (found : Option (ℕ × ℕ)) → Reads {X = ℕ} whole (λ n. n) d first → Reads {X = ℕ} whole (λ n. n) e second → PairsTwo first second found
    → ReadsTwo (item d (item e no_items)) found
two_read d e first second None one two other = λ pair fits is. go pair is (other pair fits)
  where
    go : (pair : ℕ × ℕ) → array (item d (item e no_items)) ≡ array (item (whole pair.0) (item (whole pair.1) no_items)) → (first ≢ Some pair.0) ⊎ (second ≢ Some pair.1) → ⊥
    go pair is (inl not) = let same : d ≡ whole pair.0 = cc in not (number_of_value d first pair.0 one same)
    go pair is (inr not) = let same : e ≡ whole pair.1 = cc in not (number_of_value e second pair.1 two same)
two_read d e first second (Some pair) one two (is, are, fits) =
    let a : d ≡ whole pair.0 = rw is at one in
    let b : e ≡ whole pair.1 = rw are at two in (cc, fits)

-- an array that is no two numbers spells no pair
pub no_two : (ds : Items) → ReadsTwo ds None → ReadsPair (array ds) None
no_two ds other None fits e = absurd (cc)
no_two ds other (Some pair) fits e = other pair fits e

-- ---- a member that is put into a document

module _ (h : Held) (d : Data) (ms : Members) (are : AreHeld h ms) where
  pub put_pairs : (slot : Slot (Vec (Option (ℕ × ℕ)) Global)) → Holds SaysPairs (Some d) slot → AreHeld (record h { pairs = slot }) (put (codes "pairs") d ms)
  put_pairs slot held = record {
    pairs = put_slot SaysPairs slot d ms (codes "pairs") held;
    prices = keep_slot SaysPrices h.prices d ms (codes "prices") (codes "pairs") refl are.prices;
    version = keep_slot SaysVersion h.version d ms (codes "version") (codes "pairs") refl are.version;
    others = keep_others document_names d ms (codes "pairs") h.has_others refl are.others;
  }

  pub put_prices : (slot : Slot (Vec ℕ Global)) → Holds SaysPrices (Some d) slot → AreHeld (record h { prices = slot }) (put (codes "prices") d ms)
  put_prices slot held = record {
    pairs = keep_slot SaysPairs h.pairs d ms (codes "pairs") (codes "prices") refl are.pairs;
    prices = put_slot SaysPrices slot d ms (codes "prices") held;
    version = keep_slot SaysVersion h.version d ms (codes "version") (codes "prices") refl are.version;
    others = keep_others document_names d ms (codes "prices") h.has_others refl are.others;
  }

  pub put_version : (slot : Slot ℕ) → Holds SaysVersion (Some d) slot → AreHeld (record h { version = slot }) (put (codes "version") d ms)
  put_version slot held = record {
    pairs = keep_slot SaysPairs h.pairs d ms (codes "pairs") (codes "version") refl are.pairs;
    prices = keep_slot SaysPrices h.prices d ms (codes "prices") (codes "version") refl are.prices;
    version = put_slot SaysVersion slot d ms (codes "version") held;
    others = keep_others document_names d ms (codes "version") h.has_others refl are.others;
  }

  pub put_other : (key : List ℕ) → is_named key document_names ≡ false → AreHeld (record h { has_others = true }) (put key d ms)
  put_other key none = record {
    pairs = keep_slot SaysPairs h.pairs d ms (codes "pairs") key (unlike key document_names none (codes "pairs") refl) are.pairs;
    prices = keep_slot SaysPrices h.prices d ms (codes "prices") key (unlike key document_names none (codes "prices") refl) are.prices;
    version = keep_slot SaysVersion h.version d ms (codes "version") key (unlike key document_names none (codes "version") refl) are.version;
    others = more_others document_names d ms key none;
  }

-- ---- a document that was read

module _ (h : Held) (ms : Members) (are : AreHeld h ms) where
  -- with a member of another name it is none
  pub other_members : h.has_others ≡ true → (c : Contents) → ¬ Documents (object ms) c
  other_members is c documents = no_others ms (document_fields c) (subst (HasOthers document_names ms) is are.others) documents.0

  -- if it is one, each member was read
  pub all_held : (c : Contents) → Documents (object ms) c
      → ((version : ℕ) × (h.version ≡ slot.Held version)) × ((prices : Vec ℕ Global) × (h.prices ≡ slot.Held prices)) × ((pairs : Vec (Option (ℕ × ℕ)) Global) × (h.pairs ≡ slot.Held pairs))
  all_held c (is, fits) =
      let same : ms ≡ members_of (document_fields c) = cc in (
        held_there SaysVersion (get_member (codes "version") ms) h.version (whole c.version) are.version (ap (get_member (codes "version")) same) (λ other. other c.version refl),
        held_there SaysPrices (get_member (codes "prices") ms) h.prices (prices_value c.prices) are.prices (ap (get_member (codes "prices")) same) (λ other. no_array_spelled {A = ℕ} whole (λ n. n) (prices_value c.prices) (kept_none SaysVersion (Some most_prices) (prices_value c.prices) other) c.prices refl),
        held_there SaysPairs (get_member (codes "pairs") ms) h.pairs (pairs_value c.pairs) are.pairs (ap (get_member (codes "pairs")) same)
            (λ other. no_array_fits {A = Option (ℕ × ℕ)} pair_value PairFits (λ pair. pair) (pairs_value c.pairs) (kept_none ReadsPair (Some most_pairs) (pairs_value c.pairs) other) c.pairs (recursion_from_All PairFits c.pairs fits) refl),
      )

  -- where each was read and there is no other, it is one, of which this was kept
  pub is_document : (version : ℕ) (prices : Vec ℕ Global) (pairs : Vec (Option (ℕ × ℕ)) Global) → AreInOrder ms → h.has_others ≡ false → h.version ≡ slot.Held version → h.prices ≡ slot.Held prices → h.pairs ≡ slot.Held pairs
      → (c : Contents) × Documents (object ms) c × (record { version = version; prices = prices.items; pairs = pairs.items } ≡ kept_contents c)
  unfolding IsStrictlySortedBy
  is_document version prices pairs order none is_version is_prices is_pairs =
      let v = subst (Holds SaysVersion (get_member (codes "version") ms)) is_version are.version in
      let p = subst (Holds SaysPrices (get_member (codes "prices") ms)) is_prices are.prices in
      let q = subst (Holds SaysPairs (get_member (codes "pairs") ms)) is_pairs are.pairs in
      let all_prices = kept_some SaysVersion (Some most_prices) p.0 prices.items p.2 in
      let all_pairs = kept_some ReadsPair (Some most_pairs) q.0 pairs.items q.2 in
      let all = array_fits {A = Option (ℕ × ℕ)} pair_value PairFits (λ pair. pair) q.0 all_pairs.0 all_pairs.1 in
      let c : Contents = record { version = version; prices = all_prices.0; pairs = all_pairs.0 } in
      let others = subst (HasOthers document_names ms) none are.others in
      let at_version : get_member (codes "version") ms ≡ Some (whole version) = v.1 ∙ ap Some v.2 in
      let at_prices : get_member (codes "prices") ms ≡ Some (prices_value c.prices) = p.1 ∙ ap Some (array_spelled {A = ℕ} whole (λ n. n) p.0 all_prices.0 all_prices.1) in
      let at_pairs : get_member (codes "pairs") ms ≡ Some (pairs_value c.pairs) = q.1 ∙ ap Some all.0 in
      let there = all_there ms document_names others (ap is_some at_pairs, (ap is_some at_prices, (ap is_some at_version, tt))) in
      let names = names_are ms document_names order ((refl, (refl, tt)), ((refl, tt), (tt, tt))) there in
      let first_prices = all_prices.2 in
      let first_pairs = all_pairs.2 in (
        c,
        (
          object_spelled (object ms) (document_fields c) (ap Some names) refl (at_pairs, (at_prices, (at_version, tt))),
          All-from_recursion PairFits c.pairs all.1,
        ),
        λ i. record { version = version; prices = first_prices i; pairs = first_pairs i },
      )
