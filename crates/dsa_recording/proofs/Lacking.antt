-- Entries that cannot be members, of two recordings one after the other.
use Rattle.std.proofs.Common.{◌≡◌, ℕ, zero, suc, ◌+◌, ◌-◌, ◌<◌, ◌≤◌, ◌⊎◌, inl, inr, List, [], ◌∷◌, ◌++◌, Option, Some, None, option_map, length, map, slice_get, refl, sym, ap, subst, ◌∙◌, arith, append-nil}
use Rattle.std.specs.Prelude.{slice_index_or}
use Rattle.std.specs.List.{AllByRecursion}
use Rattle.std.proofs.lemmas.Option.{slice_get-map, slice_get_within, same_Some}
use Rattle.dsa_descriptor.specs.Lists.{entries}
use Rattle.dsa_recording.specs.declared.stream.Submission.{Submission}
use Rattle.dsa_recording.specs.Foreign.{HasForeign, HasOwnMembers, IsForeign, LacksMembers, LacksSome}
use Rattle.dsa_recording.specs.Streams.{ReadsStream, end_of}
use Rattle.dsa_recording.specs.Submissions.{IsWithin, head_at}
use Rattle.dsa_recording.proofs.Chain.{one_reading}
use Rattle.dsa_recording.proofs.Extended.{Moves, all_at, all_move, stream_joined}
use Rattle.dsa_recording.proofs.Middle.{end_moved, entries_joined, get_middle, moved, nth_middle}
use Rattle.dsa_recording.proofs.Within.{each_within}

-- ---- in one submission

module _ (pre es post : List (List ℕ)) (s : Submission) (within : IsWithin es s) (moves : Moves s) where
  head_there : slice_index_or (pre ++ (es ++ post)) (head_at (moved (length pre) s)) [] ≡ slice_index_or es (head_at s) []
  head_there = ap (λ (k : ℕ). slice_index_or (pre ++ (es ++ post)) k []) (moves (length pre)) ∙ nth_middle pre es post (head_at s) [] within.head

  foreign_there : HasForeign es s → HasForeign (pre ++ (es ++ post)) (moved (length pre) s)
  foreign_there has =
      let end : end_of (moved (length pre) s) ≡ length pre + end_of s = end_moved (length pre) s in
      let lt : has.at < length es = omega (arith, has.within, within.members) in
      let here : slice_index_or (pre ++ (es ++ post)) (length pre + has.at) [] ≡ slice_index_or es has.at [] = nth_middle pre es post has.at [] lt in
      record {
        at = length pre + has.at;
        begun = omega (arith, has.begun);
        within = omega (arith, has.within, end);
        foreign =
            subst (λ (e : List ℕ). IsForeign e (slice_index_or (pre ++ (es ++ post)) (length pre + has.at) [])) (sym head_there)
            (subst (IsForeign (slice_index_or es (head_at s) [])) (sym here) has.foreign);
      }

  foreign_here : HasForeign (pre ++ (es ++ post)) (moved (length pre) s) → HasForeign es s
  foreign_here has =
      let end : end_of (moved (length pre) s) ≡ length pre + end_of s = end_moved (length pre) s in
      let k : ℕ = has.at - length pre in
      let begun : length pre + s.first ≤ has.at = has.begun in
      let at : has.at ≡ length pre + k = omega (arith, begun) in
      let ends : k < end_of s = omega (arith, begun, has.within, end) in
      let lt : k < length es = omega (arith, ends, within.members) in
      let here : slice_index_or (pre ++ (es ++ post)) has.at [] ≡ slice_index_or es k [] =
      ap (λ (i : ℕ). slice_index_or (pre ++ (es ++ post)) i []) at ∙ nth_middle pre es post k [] lt in
      record {
        at = k;
        begun = omega (arith, begun);
        within = ends;
        foreign = subst (λ (e : List ℕ). IsForeign e (slice_index_or es k [])) head_there (subst (IsForeign (slice_index_or (pre ++ (es ++ post)) (head_at (moved (length pre) s)) [])) here has.foreign);
      }

-- ---- in submissions

module _ (pre es post : List (List ℕ)) (ss : List Submission) (within : AllByRecursion (IsWithin es) ss) (move : AllByRecursion Moves ss) where
  lacks_there : (before rest : List Submission) → LacksSome es ss → LacksSome (pre ++ (es ++ post)) (before ++ (map (moved (length pre)) ss ++ rest))
  lacks_there before rest lacks =
      let i : ℕ = lacks.number in
      let s : Submission = lacks.submission in
      let map_there : slice_get (map (moved (length pre)) ss) i ≡ Some (moved (length pre) s) = slice_get-map (moved (length pre)) ss i ∙ ap (option_map (moved (length pre))) lacks.there in
      let lt : i < length (map (moved (length pre)) ss) = slice_get_within (map (moved (length pre)) ss) i (moved (length pre) s) map_there in
      record {
        number = length before + i;
        submission = moved (length pre) s;
        there = get_middle before (map (moved (length pre)) ss) rest i lt ∙ map_there;
        lacks = foreign_there pre es post s (all_at (IsWithin es) ss i s within lacks.there) (all_at Moves ss i s move lacks.there) lacks.lacks;
      }

  lacks_at : (i : ℕ) (t : Submission) (o : Option Submission) → slice_get ss i ≡ o → option_map (moved (length pre)) o ≡ Some t → HasForeign (pre ++ (es ++ post)) t → LacksSome es ss
  lacks_at i t None is e has = let no : ◌≡◌ {A = Option Submission} None (Some t) = e in absurd cc
  lacks_at i t (Some s) is e has =
      let same : t ≡ moved (length pre) s = sym (same_Some (moved (length pre) s) t e) in
      record {
        number = i;
        submission = s;
        there = is;
        lacks = foreign_here pre es post s (all_at (IsWithin es) ss i s within is) (all_at Moves ss i s move is) (subst (HasForeign (pre ++ (es ++ post))) same has);
      }

  lacks_here : LacksSome (pre ++ (es ++ post)) (map (moved (length pre)) ss) → LacksSome es ss
  lacks_here lacks =
      lacks_at lacks.number lacks.submission (slice_get ss lacks.number) refl (sym (slice_get-map (moved (length pre)) ss lacks.number) ∙ lacks.there) lacks.lacks

split_at : (es : List (List ℕ)) (ss ts : List Submission) (i : ℕ) (s : Submission) → slice_get (ss ++ ts) i ≡ Some s → HasForeign es s → LacksSome es ss ⊎ LacksSome es ts
split_at es [] ts i s e has = inr (record { number = i; submission = s; there = e; lacks = has })
split_at es (t ∷ ss) ts zero s e has = inl (record { number = 0; submission = s; there = e; lacks = has })
split_at es (t ∷ ss) ts (suc i) s e has =
    elim (split_at es ss ts i s e has) [
      | inl lacks ↦ inl (record { number = suc lacks.number; submission = lacks.submission; there = lacks.there; lacks = lacks.lacks })
      | inr lacks ↦ inr lacks
    ]

-- ---- in recordings

within_all : (bytes : List ℕ) (ss : List Submission) → ReadsStream bytes ss → AllByRecursion (IsWithin (entries bytes)) ss
within_all bytes ss reads = each_within (entries bytes) 0 (length (entries bytes)) ss reads.all

moves_all : (bytes : List ℕ) (ss : List Submission) → ReadsStream bytes ss → AllByRecursion Moves ss
moves_all bytes ss reads = all_move (entries bytes) 0 (length (entries bytes)) ss reads.all

map_moved : (ss : List Submission) → map (moved 0) ss ≡ ss
map_moved [] = refl
map_moved (s ∷ ss) =
    let same : 0 + s.first ≡ s.first = omega arith in
    ap (λ (k : ℕ). record { first = k; size = s.size; is_batch = s.is_batch } ∷ map (moved 0) ss) same ∙ ap (λ (l : List Submission). s ∷ l) (map_moved ss)

module _ (a b : List ℕ) (ss ts : List Submission) (first : ReadsStream a ss) (second : ReadsStream b ts) where
  lacks_first : LacksSome (entries a) ss → LacksMembers (a ++ b)
  lacks_first lacks =
      let es : List (List ℕ) = entries a in
      let fs : List (List ℕ) = entries b in
      let more : List Submission = map (moved (length es)) ts in
      let there : LacksSome (es ++ fs) (map (moved 0) ss ++ more) = lacks_there [] es fs ss (within_all a ss first) (moves_all a ss first) [] more lacks in (
        ss ++ more,
        stream_joined a b ss ts first second,
        subst (λ (l : List (List ℕ)). LacksSome l (ss ++ more)) (sym (entries_joined a b first.whole))
            (subst (λ (l : List Submission). LacksSome (es ++ fs) (l ++ more)) (map_moved ss) there),
      )

  lacks_second : LacksSome (entries b) ts → LacksMembers (a ++ b)
  lacks_second lacks =
      let es : List (List ℕ) = entries a in
      let fs : List (List ℕ) = entries b in
      let more : List Submission = map (moved (length es)) ts in
      let there : LacksSome (es ++ (fs ++ [])) (ss ++ (more ++ [])) = lacks_there es fs [] ts (within_all b ts second) (moves_all b ts second) ss [] lacks in (
        ss ++ more,
        stream_joined a b ss ts first second,
        subst (λ (l : List (List ℕ)). LacksSome l (ss ++ more)) (sym (entries_joined a b first.whole))
            (subst (λ (l : List (List ℕ)). LacksSome (es ++ l) (ss ++ more)) (append-nil fs)
            (subst (λ (l : List Submission). LacksSome (es ++ (fs ++ [])) (ss ++ l)) (append-nil more) there)),
      )

  lacks_one : LacksSome (entries (a ++ b)) (ss ++ map (moved (length (entries a))) ts) → LacksSome (entries a) ss ⊎ LacksSome (entries b) ts
  lacks_one lacks =
      let es : List (List ℕ) = entries a in
      let fs : List (List ℕ) = entries b in
      let more : List Submission = map (moved (length es)) ts in
      let there : LacksSome (es ++ fs) (ss ++ more) = subst (λ (l : List (List ℕ)). LacksSome l (ss ++ more)) (entries_joined a b first.whole) lacks in
      elim (split_at (es ++ fs) ss more there.number there.submission there.there there.lacks) [
        | inl lacking ↦
            inl (lacks_here [] es fs ss (within_all a ss first) (moves_all a ss first) (subst (LacksSome (es ++ fs)) (sym (map_moved ss)) lacking))
        | inr lacking ↦
            inr (lacks_here es fs [] ts (within_all b ts second) (moves_all b ts second) (subst (λ (l : List (List ℕ)). LacksSome (es ++ l) more) (sym (append-nil fs)) lacking))
      ]

  own_both : HasOwnMembers a → HasOwnMembers b → HasOwnMembers (a ++ b)
  own_both one two = λ list reads lacks.
      let both = stream_joined a b ss ts first second in
      let same : list ≡ ss ++ map (moved (length (entries a))) ts = one_reading (entries (a ++ b)) 0 list (ss ++ map (moved (length (entries a))) ts) reads.all both.all in
      elim (lacks_one (subst (LacksSome (entries (a ++ b))) same lacks)) [ inl lacking ↦ one ss first lacking | inr lacking ↦ two ts second lacking ]

-- the first has the members that are lacking, and another recording follows it
pub lacks_before : (a b : List ℕ) (ts : List Submission) → LacksMembers a → ReadsStream b ts → LacksMembers (a ++ b)
lacks_before a b ts (ss, first, lacks) second = lacks_first a b ss ts first second lacks

-- the second has them
pub lacks_after : (a b : List ℕ) (ss : List Submission) → ReadsStream a ss → LacksMembers b → LacksMembers (a ++ b)
lacks_after a b ss first (ts, second, lacks) = lacks_second a b ss ts first second lacks

pub own_joined : (a b : List ℕ) (ss ts : List Submission) → ReadsStream a ss → ReadsStream b ts → HasOwnMembers a → HasOwnMembers b → HasOwnMembers (a ++ b)
own_joined a b ss ts first second one two = own_both a b ss ts first second one two

none_lack : (es : List (List ℕ)) → ¬ LacksSome es []
none_lack es lacks = let never : None ≡ Some lacks.submission = lacks.there in absurd cc

-- nothing lacks no members
pub own_nothing : HasOwnMembers []
own_nothing list reads lacks =
    let same : list ≡ [] = one_reading [] 0 list [] reads.all refl in
    none_lack [] (subst (LacksSome []) same lacks)
