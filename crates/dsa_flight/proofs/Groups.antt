-- The groups of planned lists, in flight each by itself.
use Rattle.std.proofs.Common.{◌≡◌, ℕ, zero, suc, ◌+◌, ◌-◌, ◌<◌, Bool, true, List, [], ◌∷◌, ◌++◌, Some, drop, length, take, map, slice_get, refl, sym, ap, ◌∙◌, subst, zero-add, arith}
use Rattle.std.proofs.lemmas.List.{drop-map, length-drop, length-map, length-take-le, map-append, take-append-drop, take-map}
use Rattle.std.proofs.lemmas.List.Elements.{All-drop, All-take}
use Rattle.std.proofs.lemmas.List.Sums.{sum_by-cons}
use Rattle.std.proofs.lemmas.Option.{same_Some}
use Rattle.dsa_descriptor.specs.declared.descriptor.Descriptor.{Descriptor}
use Rattle.dsa_descriptor.specs.Descriptors.{fields}
use Rattle.dsa_descriptor.specs.Fields.{Fields}
use Rattle.dsa_ranges.specs.Ranges.{ConflictAt}
use Rattle.dsa_image.specs.declared.partial.Partial.{Partial}
use Rattle.dsa_image.specs.Memory.{Memory, HoldsRanges}
use Rattle.dsa_image.specs.Effects.{completion, done, fold_done, statuses}
use Rattle.dsa_image.proofs.Executed.{fold_done-append}
use Rattle.dsa_settings.specs.Plan.{Group, Plan, piece_count, start_of}
use Rattle.dsa_settings.specs.Legal.{IsLegal, IsLegalGroup, ConflictsWithin}
use Rattle.dsa_core.specs.DescriptorMachine.{descriptor_machine}
use Rattle.dsa_core.specs.PieceRuns.{CanRun}
use Rattle.dsa_core.specs.Run.{Progress}
use Rattle.dsa_core.specs.StopPoint.{AllSucceed}
use Rattle.dsa_core.proofs.Slots.{none_read}
use Rattle.dsa_flight.specs.Flight.{AllFitting}
use Rattle.dsa_flight.specs.Laws.{EndsInTurn}
use Rattle.dsa_flight.specs.Needed.{all_go}
use Rattle.dsa_flight.specs.Planned.{PlannedList, AllCanRun, AllSucceedInTurn, GroupsEndInTurn, all_groups, each_group, groups_of, lists_in_turn, submissions}
use Rattle.dsa_flight.proofs.InTurn.{every_flight_ends_in_turn}
use Rattle.dsa_flight.proofs.Planned.{fitting, in_turn}

-- ---- a part of a legal plan is legal

drop_get : {X : Type 0} (n : ℕ) (xs : List X) (k : ℕ) (x : X) → slice_get (drop n xs) k ≡ Some x → slice_get xs (n + k) ≡ Some x
drop_get zero xs k x h = ap (slice_get xs) (zero-add k) ∙ h
drop_get (suc n) [] k x h = absurd (none_read k x h)
drop_get (suc n) (y ∷ ys) k x h = (let step : suc n + k ≡ suc (n + k) = omega arith in ap (slice_get (y ∷ ys)) step) ∙ drop_get n ys k x h

take_get : {X : Type 0} (n : ℕ) (xs : List X) (k : ℕ) (x : X) → slice_get (take n xs) k ≡ Some x → slice_get xs k ≡ Some x
take_get zero xs k x h = absurd (none_read k x h)
take_get (suc n) [] k x h = absurd (none_read k x h)
take_get (suc n) (y ∷ ys) zero x h = h
take_get (suc n) (y ∷ ys) (suc k) x h = take_get n ys k x h

-- a legal group is legal in the list without the pieces before it, if its own conflict there no more
moved : (C D : ℕ → ℕ → Type 0) (greatest_batch before start : ℕ) (group : Group) → ((a b : ℕ) → D a b → C (before + a) (before + b)) → IsLegalGroup C greatest_batch (before + start) group → IsLegalGroup D greatest_batch start group
moved C D greatest_batch before start group up legal =
    record {
      size = legal.size;
      begins = legal.begins;
      separates = λ a b within.
          let there : ConflictsWithin C (before + start) (before + start + length group) (before + a) (before + b) =
          record {
            starts = omega (arith, within.starts);
            ordered = omega (arith, within.ordered);
            ends = omega (arith, within.ends);
            conflict = up a b within.conflict;
          } in
          let fence = legal.separates (before + a) (before + b) there in
          let same : fence.0 - (before + start) ≡ fence.0 - before - start = omega arith in
          (fence.0 - before, omega (arith, fence.1), omega (arith, fence.2), (omega (arith, fence.3.0), subst (λ k. slice_get group k ≡ Some true) same fence.3.1));
    }

-- the first group of a legal plan, and the others
module _ (greatest_batch : ℕ) (pieces : List Fields) (group : Group) (plan : Plan) (legal : IsLegal (ConflictAt pieces) greatest_batch (length pieces) (group ∷ plan)) where
  counts : length group + piece_count plan ≡ length pieces
  counts = sym (sum_by-cons length group plan) ∙ legal.covers

  first_legal : IsLegal (ConflictAt (take (length group) pieces)) greatest_batch (length (take (length group) pieces)) (group ∷ [])
  first_legal =
      record {
        covers = omega (arith, sum_by-cons length group [], length-take-le (length group) pieces (omega (arith, counts)));
        groups = groups;
      }
    where
      up : (a b : ℕ) → ConflictAt (take (length group) pieces) a b → ConflictAt pieces (0 + a) (0 + b)
      up a b (d, e, is_d, is_e, conflict) = (
        d,
        e,
        ap (slice_get pieces) (zero-add a) ∙ take_get (length group) pieces a d is_d,
        ap (slice_get pieces) (zero-add b) ∙ take_get (length group) pieces b e is_e,
        conflict,
      )

      groups : (number : ℕ) (g : Group) → slice_get (group ∷ []) number ≡ Some g → IsLegalGroup (ConflictAt (take (length group) pieces)) greatest_batch (start_of (group ∷ []) number) g
      groups zero g h =
          subst (λ x. IsLegalGroup (ConflictAt (take (length group) pieces)) greatest_batch 0 x) (same_Some group g h)
          (moved (ConflictAt pieces) (ConflictAt (take (length group) pieces)) greatest_batch 0 0 group up (legal.groups 0 group refl))
      groups (suc number) g h = absurd (none_read number g h)

  rest_legal : IsLegal (ConflictAt (drop (length group) pieces)) greatest_batch (length (drop (length group) pieces)) plan
  rest_legal =
      record {
        covers = omega (arith, counts, length-drop (length group) pieces);
        groups = λ number g h.
            let there : start_of (group ∷ plan) (suc number) ≡ length group + start_of plan number = sum_by-cons length group (take number plan) in
            moved (ConflictAt pieces) (ConflictAt (drop (length group) pieces)) greatest_batch (length group) (start_of plan number) g up
            (subst (λ k. IsLegalGroup (ConflictAt pieces) greatest_batch k g) there (legal.groups (suc number) g h));
      }
    where
      up : (a b : ℕ) → ConflictAt (drop (length group) pieces) a b → ConflictAt pieces (length group + a) (length group + b)
      up a b (d, e, is_d, is_e, conflict) = (d, e, drop_get (length group) pieces a d is_d, drop_get (length group) pieces b e is_e, conflict)

-- ---- groups one after another

-- the pieces of the first ones, and the others
parted : (n : ℕ) (list : List Descriptor) → map fields (take n list) ++ map fields (drop n list) ≡ map fields list
parted n list = sym (map-append fields (take n list) (drop n list)) ∙ ap (map fields) (take-append-drop n list)

both_can_run : (xs ys : List PlannedList) (m : Memory) → AllCanRun xs m → AllCanRun ys m → AllCanRun (xs ++ ys) m
both_can_run [] ys m one two x q h = two x q h
both_can_run (p ∷ xs) ys m one two zero q h = one 0 q h
both_can_run (p ∷ xs) ys m one two (suc x) q h = both_can_run xs ys m (λ y. one (suc y)) two x q h

groups_can_run : (greatest_batch engines : ℕ) (plan : Plan) (list : List Descriptor) (m : Memory) → CanRun greatest_batch (map fields list) plan m → AllCanRun (each_group greatest_batch engines plan list) m
groups_can_run greatest_batch engines [] list m can x p h = absurd (none_read x p h)
groups_can_run greatest_batch engines (group ∷ plan) list m can zero p h =
    let first : CanRun greatest_batch (map fields (take (length group) list)) (group ∷ []) m =
    subst (λ pieces. CanRun greatest_batch pieces (group ∷ []) m) (take-map fields (length group) list)
    (record {
      legal = first_legal greatest_batch (map fields list) group plan can.legal;
      holds = All-take (HoldsRanges m) (length group) (map fields list) can.holds;
    }) in
    let here : PlannedList = record { greatest_batch = greatest_batch; plan = group ∷ []; list = take (length group) list; engines = engines } in
    subst (λ (q : PlannedList). CanRun q.greatest_batch (map fields q.list) q.plan m) (same_Some here p h) first
groups_can_run greatest_batch engines (group ∷ plan) list m can (suc x) p h =
    let rest : CanRun greatest_batch (map fields (drop (length group) list)) plan m =
    subst (λ pieces. CanRun greatest_batch pieces plan m) (drop-map fields (length group) list)
    (record {
      legal = rest_legal greatest_batch (map fields list) group plan can.legal;
      holds = All-drop (HoldsRanges m) (length group) (map fields list) can.holds;
    }) in
    groups_can_run greatest_batch engines plan (drop (length group) list) m rest x p h

all_can_run : (ps : List PlannedList) (m : Memory) → AllCanRun ps m → AllCanRun (all_groups ps) m
all_can_run [] m can = can
all_can_run (p ∷ ps) m can =
    both_can_run (groups_of p) (all_groups ps) m (groups_can_run p.greatest_batch p.engines p.plan p.list m (can 0 p refl)) (all_can_run ps m (λ x. can (suc x)))

-- each plan is of as many pieces as its list has
AllCover : List PlannedList → Type 0
AllCover [] = Unit {0}
AllCover (p ∷ ps) = (piece_count p.plan ≡ length p.list) × AllCover ps

all_cover : (ps : List PlannedList) (m : Memory) → AllCanRun ps m → AllCover ps
unfolding AllCover
all_cover [] m can = tt
all_cover (p ∷ ps) m can = ((can 0 p refl).legal.covers ∙ length-map p.list fields, all_cover ps m (λ x. can (suc x)))

rest_covers : (group : Group) (plan : Plan) (list : List Descriptor) → piece_count (group ∷ plan) ≡ length list → piece_count plan ≡ length (drop (length group) list)
rest_covers group plan list covers = omega (arith, covers, sum_by-cons length group plan, length-drop (length group) list)

none_left : (list : List Descriptor) (m : Memory) → 0 ≡ length list → m ≡ fold_done (map fields list) m
none_left [] m covers = refl
none_left (d ∷ ds) m covers = absurd (omega (arith, covers))

groups_leave : (greatest_batch engines : ℕ) (plan : Plan) (list : List Descriptor) (m : Memory) → piece_count plan ≡ length list → lists_in_turn (each_group greatest_batch engines plan list) m ≡ fold_done (map fields list) m
groups_leave greatest_batch engines [] list m covers = none_left list m covers
groups_leave greatest_batch engines (group ∷ plan) list m covers =
    groups_leave greatest_batch engines plan (drop (length group) list) (fold_done (map fields (take (length group) list)) m) (rest_covers group plan list covers)
    ∙ sym (fold_done-append (map fields (take (length group) list)) (map fields (drop (length group) list)) m)
    ∙ ap (λ pieces. fold_done pieces m) (parted (length group) list)

one_after_another : (xs ys : List PlannedList) (m : Memory) → lists_in_turn (xs ++ ys) m ≡ lists_in_turn ys (lists_in_turn xs m)
one_after_another [] ys m = refl
one_after_another (p ∷ xs) ys m = one_after_another xs ys (fold_done (map fields p.list) m)

all_leave : (ps : List PlannedList) (m : Memory) → AllCover ps → lists_in_turn (all_groups ps) m ≡ lists_in_turn ps m
unfolding AllCover
all_leave [] m cover = refl
all_leave (p ∷ ps) m cover =
    one_after_another (groups_of p) (all_groups ps) m
    ∙ ap (λ n. lists_in_turn (all_groups ps) n) (groups_leave p.greatest_batch p.engines p.plan p.list m cover.0)
    ∙ all_leave ps (fold_done (map fields p.list) m) cover.1

-- ---- and each succeeds

statuses-append : (xs ys : List Fields) (m : Memory) → statuses (xs ++ ys) m ≡ statuses xs m ++ statuses ys (fold_done xs m)
statuses-append [] ys m = refl
statuses-append (x ∷ xs) ys m = ap (λ s. (completion x m).status ∷ s) (statuses-append xs ys (done x m))

first_succeed : (xs ys : List ℕ) → AllSucceed (xs ++ ys) → AllSucceed xs
first_succeed [] ys all i lt = absurd (omega (arith, lt))
first_succeed (x ∷ xs) ys all zero lt = all 0 (omega arith)
first_succeed (x ∷ xs) ys all (suc i) lt = first_succeed xs ys (λ j less. all (suc j) (omega (arith, less))) i (omega (arith, lt))

rest_succeed : (xs ys : List ℕ) → AllSucceed (xs ++ ys) → AllSucceed ys
rest_succeed [] ys all = all
rest_succeed (x ∷ xs) ys all = rest_succeed xs ys (λ j less. all (suc j) (omega (arith, less)))

groups_succeed : (greatest_batch engines : ℕ) (plan : Plan) (list : List Descriptor) (m : Memory) → AllSucceed (statuses (map fields list) m) → AllSucceedInTurn (each_group greatest_batch engines plan list) m
groups_succeed greatest_batch engines [] list m all = tt
groups_succeed greatest_batch engines (group ∷ plan) list m all =
    let before : List Fields = map fields (take (length group) list) in
    let after : List Fields = map fields (drop (length group) list) in
    let both : AllSucceed (statuses before m ++ statuses after (fold_done before m)) = subst AllSucceed (ap (λ pieces. statuses pieces m) (sym (parted (length group) list)) ∙ statuses-append before after m) all in (
      first_succeed (statuses before m) (statuses after (fold_done before m)) both,
      groups_succeed greatest_batch engines plan (drop (length group) list) (fold_done before m) (rest_succeed (statuses before m) (statuses after (fold_done before m)) both),
    )

both_in_turn : (xs ys : List PlannedList) (m : Memory) → AllSucceedInTurn xs m → AllSucceedInTurn ys (lists_in_turn xs m) → AllSucceedInTurn (xs ++ ys) m
both_in_turn [] ys m one two = two
both_in_turn (p ∷ xs) ys m one two = (one.0, both_in_turn xs ys (fold_done (map fields p.list) m) one.1 two)

all_succeed : (ps : List PlannedList) (m : Memory) → AllCover ps → AllSucceedInTurn ps m → AllSucceedInTurn (all_groups ps) m
unfolding AllCover
all_succeed [] m cover succeed = tt
all_succeed (p ∷ ps) m cover succeed =
    both_in_turn (groups_of p) (all_groups ps) m (groups_succeed p.greatest_batch p.engines p.plan p.list m succeed.0)
    (subst (λ n. AllSucceedInTurn (all_groups ps) n) (sym (groups_leave p.greatest_batch p.engines p.plan p.list m cover.0)) (all_succeed ps (fold_done (map fields p.list) m) cover.1 succeed.1))

-- what groups leave in turn, their lists leave in turn
pub groups_in_turn :
    (ps : List PlannedList) (goes : ℕ → Bool) (lanes : List (List (Progress Partial))) (m end : Memory) → ((x : ℕ) → x < length (all_groups ps) → goes x ≡ true) → AllCanRun ps m →
    EndsInTurn descriptor_machine goes (submissions (all_groups ps)) lanes m end → AllSucceedInTurn ps m → end ≡ lists_in_turn ps m
groups_in_turn ps goes lanes m end all can ends succeed =
    let cover : AllCover ps = all_cover ps m can in
    in_turn (all_groups ps) goes lanes m end all ends (all_succeed ps m cover succeed) ∙ all_leave ps m cover

-- what is asked of the start
pub groups_fit : (ps : List PlannedList) (m : Memory) → AllCanRun ps m → AllFitting descriptor_machine (submissions (all_groups ps)) m
groups_fit ps m can = fitting (all_groups ps) m (all_can_run ps m can)

pub groups_end_in_turn : GroupsEndInTurn
groups_end_in_turn ps waits m events s can cover flight ended succeed =
    groups_in_turn ps all_go s.lanes m s.memory (λ x lt. refl) can
    (every_flight_ends_in_turn descriptor_machine (submissions (all_groups ps)) all_go waits m events s (groups_fit ps m can) cover flight ended) succeed
