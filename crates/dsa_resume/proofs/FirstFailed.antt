-- What is left in the listed order is left with the failed pieces first.
use Rattle.std.proofs.Common.{◌≡◌, ◌⊎◌, inl, inr, ℕ, suc, Bool, true, false, List, [], ◌∷◌, ◌++◌, refl, sym, subst, arith}
use Rattle.std.specs.List.{AllByRecursion}
use Rattle.dsa_descriptor.specs.Spans.{InSome}
use Rattle.dsa_image.specs.Lines.{AgreeOn}
use Rattle.dsa_image.specs.Memory.{Memory}
use Rattle.dsa_resume.specs.declared.status.Ended.{Ended}
use Rattle.dsa_resume.specs.Ended.{has_finished, is_left, has_failed, is_waiting}
use Rattle.dsa_resume.specs.Laws.{FailedFirstHasLeft, IsRewritten, MayComeFirst}
use Rattle.dsa_resume.specs.Left.{those}
use Rattle.dsa_resume.specs.Work.{HoldsWork, Work, in_order}
use Rattle.dsa_resume.proofs.Parting.{Splits, clear_of, failed_or_waiting, held_after, later, those_held}
use Rattle.dsa_resume.proofs.Working.{Clash, ClashAt, IsWork, all_still, clash_at, one_by_one, still}

module _ {P : Type 0} (work : Work P) (is : IsWork work) where
  -- a piece that does not conflict with it leaves what a piece reads
  unread_kept : (p q : P) (m : Memory) → HoldsWork work m q → (Clash work p q → ⊥) → AgreeOn (work.reads p) m (work.done q m)
  unread_kept p q m held clear a reads = sym (is.kept q m a held (λ w. clear (inr (a, w, inl reads))))

  unread_back : (p q : P) (m : Memory) → HoldsWork work m q → (Clash work p q → ⊥) → AgreeOn (work.reads p) (work.done q m) m
  unread_back p q m held clear a reads = sym (unread_kept p q m held clear a reads)

  flip : (p q : P) → (Clash work p q → ⊥) → Clash work q p → ⊥
  flip p q clear (inl w) = clear (inr w)
  flip p q clear (inr w) = clear (inl w)

  -- ---- two pieces that do not conflict

  module _ (p q : P) (rest : List P) (m : Memory) (a : ℕ) (held_p : HoldsWork work m p) (held_q : HoldsWork work m q) (clear : Clash work p q → ⊥) where
    second : (¬ InSome (work.reads p) a) → ¬ InSome (work.reads q) a × (work.overwrites q (work.done p m) a ⊎ IsRewritten work rest (work.done q (work.done p m)) a)
        → IsRewritten work (q ∷ p ∷ rest) m a
    second unread (unread_q, inl over) = (unread_q, inl (is.over_same q (work.done p m) m a (unread_back q p m held_p (flip p q clear)) over))
    second unread (unread_q, inr further) =
        (unread_q, inr (unread, inr (subst (λ (n : Memory). IsRewritten work rest n a) (sym (is.swapped p q m held_p held_q clear)) further)))

    exchanged : IsRewritten work (p ∷ q ∷ rest) m a → IsRewritten work (q ∷ p ∷ rest) m a
    exchanged (unread, inl over) =
        let writes : InSome (work.writes p) a = is.over_writes p m a over in
        ((λ reads. clear (inl (a, writes, inl reads))), inr (unread, inl (is.over_same p m (work.done q m) a (unread_kept p q m held_q clear) over)))
    exchanged (unread, inr further) = second unread further

  -- ---- one piece after several

  after_first : (p : P) (qs rs : List P) (m : Memory) (a : ℕ) → (IsRewritten work qs (work.done p m) a → IsRewritten work rs (work.done p m) a) → IsRewritten work (p ∷ qs) m a → IsRewritten work (p ∷ rs) m a
  after_first p qs rs m a more (unread, inl over) = (unread, inl over)
  after_first p qs rs m a more (unread, inr further) = (unread, inr (more further))

  pushed : (p : P) (fs ws : List P) (m : Memory) (a : ℕ) → HoldsWork work m p → AllByRecursion (HoldsWork work m) fs → AllByRecursion (λ (f : P). Clash work p f → ⊥) fs
      → IsRewritten work (p ∷ (fs ++ ws)) m a → IsRewritten work (fs ++ (p ∷ ws)) m a
  pushed p [] ws m a held all clear rewritten = rewritten
  pushed p (f ∷ fs) ws m a held (here, all) (apart, clear) rewritten =
      after_first f (p ∷ (fs ++ ws)) (fs ++ (p ∷ ws)) m a
      (pushed p fs ws (work.done f m) a (still work is f p m here held) (all_still work is f fs m here all) clear)
      (exchanged p f (fs ++ ws) m a held here apart rewritten)

  -- ---- the failed pieces first

  -- a first piece, by its part
  first_by : (a b c : Bool) (p : P) (ps : List P) (r : Ended) (rs : List Ended) (m : Memory) (x : ℕ) → is_left r ≡ a → has_failed r ≡ b
      → is_waiting r ≡ c → Splits a b c → HoldsWork work m p → AllByRecursion (HoldsWork work m) ps
      → (is_waiting r ≡ true → AllByRecursion (λ (f : P). Clash work p f → ⊥) (those has_failed ps rs))
      → ((n : Memory) → AllByRecursion (HoldsWork work n) ps → IsRewritten work (those is_left ps rs) n x → IsRewritten work (those has_failed ps rs ++ those is_waiting ps rs) n x)
      → IsRewritten work (those is_left (p ∷ ps) (r ∷ rs)) m x → IsRewritten work (those has_failed (p ∷ ps) (r ∷ rs) ++ those is_waiting (p ∷ ps) (r ∷ rs)) m x
  first_by false false false p ps r rs m x ea eb ec fits here held clear so_far = rw (ea, eb, ec) (so_far m held)
  first_by false false true p ps r rs m x ea eb ec fits here held clear so_far = absurd fits
  first_by false true false p ps r rs m x ea eb ec fits here held clear so_far = absurd fits
  first_by false true true p ps r rs m x ea eb ec fits here held clear so_far = absurd fits
  first_by true false false p ps r rs m x ea eb ec fits here held clear so_far = absurd fits
  first_by true false true p ps r rs m x ea eb ec fits here held clear so_far =
      let apart = clear ec in
      rw (ea, eb, ec) (λ (rewritten : IsRewritten work (p ∷ those is_left ps rs) m x).
      pushed p (those has_failed ps rs) (those is_waiting ps rs) m x here (those_held work has_failed m ps rs held) apart
      (after_first p (those is_left ps rs) (those has_failed ps rs ++ those is_waiting ps rs) m x (so_far (work.done p m) (all_still work is p ps m here held)) rewritten))
  first_by true true false p ps r rs m x ea eb ec fits here held clear so_far =
      rw (ea, eb, ec)
      (after_first p (those is_left ps rs) (those has_failed ps rs ++ those is_waiting ps rs) m x (so_far (work.done p m) (all_still work is p ps m here held)))
  first_by true true true p ps r rs m x ea eb ec fits here held clear so_far = absurd fits

  -- all pieces
  failed_first_rewrites : (ps : List P) (rs : List Ended) (m : Memory) (x : ℕ) → MayComeFirst has_failed is_waiting (ClashAt work ps) rs → AllByRecursion (HoldsWork work m) ps
      → IsRewritten work (those is_left ps rs) m x → IsRewritten work (those has_failed ps rs ++ those is_waiting ps rs) m x
  failed_first_rewrites [] rs m x may held rewritten = rewritten
  failed_first_rewrites (p ∷ ps) [] m x may held rewritten = rewritten
  failed_first_rewrites (p ∷ ps) (r ∷ rs) m x may (here, held) rewritten =
      first_by (is_left r) (has_failed r) (is_waiting r) p ps r rs m x refl refl refl (failed_or_waiting r) here held
      (λ was. clear_of work has_failed p ps rs (λ j e ended there conflict. may 0 (suc j) (omega arith) (r, refl, was) ended (p, e, refl, there, conflict)))
      (λ n all_n. failed_first_rewrites ps rs n x (later work has_failed is_waiting p ps r rs may) all_n) rewritten

  pub failed_first_has_left : FailedFirstHasLeft work
  failed_first_has_left ps rs m n recorded may left =
      let held : AllByRecursion (HoldsWork work m) ps = one_by_one work ps m recorded.holds in
      let finished : Memory = in_order work (those has_finished ps rs) m in
      let still_held : AllByRecursion (HoldsWork work finished) ps = held_after work is (those has_finished ps rs) ps m (those_held work has_finished m ps rs held) held in
      record {
        addresses = left.addresses;
        bytes = λ a. elim (left.bytes a) [
          | inl same ↦ inl same
          | inr rewritten ↦ inr (failed_first_rewrites ps rs finished a (λ i j less one two conflict. may i j less one two (clash_at work is ps i j conflict)) still_held rewritten)
        ];
      }
