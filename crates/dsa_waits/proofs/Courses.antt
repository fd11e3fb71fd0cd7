-- Submissions in flight, event by event.
use Rattle.std.proofs.Common.{◌≡◌, ℕ, zero, suc, ◌+◌, ◌<◌, ◌≤◌, ◌↔◌, inl, inr, Bool, true, false, List, [], ◌∷◌, length, get_or, Option, None, Some, slice_get, refl, sym, ap, subst, ◌∙◌, arith, add-one, filter}
use Rattle.std.specs.Prelude.{not, ◌||◌, if◌then◌else◌}
use Rattle.std.specs.List.{Contains}
use Rattle.std.proofs.lemmas.Bool.{cases_eq, cases_lt}
use Rattle.std.proofs.lemmas.Option.{slice_get-get_or, slice_get_within}
use Rattle.std.proofs.lemmas.List.Folds.{list_any_more}
use Rattle.dsa_audit.specs.Steps.{AreLasts}
use Rattle.dsa_conflicts.specs.Access.{IsGreatest}
use Rattle.dsa_conflicts.proofs.Greatest.{greatest_same}
use Rattle.dsa_recording.specs.declared.accepted.Accepted.{Accepted}
use Rattle.dsa_recording.specs.declared.stream.Submission.{Submission}
use Rattle.dsa_waits.specs.declared.course.Course.{Course}
use Rattle.dsa_waits.specs.declared.course.Told.TheVariants as told_of
use Rattle.dsa_waits.specs.declared.event.Event.{Event}
use Rattle.dsa_waits.specs.declared.event.Event.TheVariants.{Submitted, Watched, MemberEnded, Ended, Known}
use Rattle.dsa_waits.specs.declared.search.Flying.{Flying}
use Rattle.dsa_recording.specs.Pairs.{has_key}
use Rattle.dsa_recording.specs.Uses.{AddsKeys}
use Rattle.dsa_waits.specs.Waits.{Fits, IsCourse, IsMissingWait, IsOutstanding, ended_by, event_at, has_ended, is_made, is_number, is_told, made_at, made_before, submission_of, tells, told_by}
use Rattle.dsa_waits.specs.Keys.{IsLeftConflict, IsLeftWait, NoneIsLeft}
use Rattle.dsa_waits.specs.Steps.{AreBelow, AreOutstanding, HasSubmission, IsFlying, IsNotTold, IsRising, Marks, UsesBelow, UsesBetween, WithRange}
use Rattle.dsa_waits.proofs.Marked.{marked_each}
use Rattle.dsa_waits.proofs.UsedWaits.{below_more}
use Rattle.dsa_waits.proofs.Rising.{filter_only, filter_keeps, rising_filter}

-- ---- how many submissions are made

pub none_before : (vs : List Event) → made_before vs 0 ≡ 0
none_before [] = refl
none_before (v ∷ vs) = refl

made_suc : (vs : List Event) (k : ℕ) (d : Event) → k < length vs → made_before vs (suc k) ≡ made_before vs k + is_made (get_or vs k d)
made_suc [] k d lt = absurd (omega arith)
made_suc (v ∷ vs) zero d lt = omega (arith, none_before vs)
made_suc (v ∷ vs) (suc k) d lt = omega (arith, made_suc vs k d (omega arith))

pub made_more : (vs : List Event) (k : ℕ) (d : Event) → k < length vs → made_before vs (k + 1) ≡ made_before vs k + is_made (get_or vs k d)
made_more vs k d lt = ap (made_before vs) (add-one k) ∙ made_suc vs k d lt

pub made_grows : (vs : List Event) (j k : ℕ) → j ≤ k → made_before vs j ≤ made_before vs k
made_grows [] j k le = omega arith
made_grows (v ∷ vs) zero k le = omega arith
made_grows (v ∷ vs) (suc j) zero le = absurd (omega arith)
made_grows (v ∷ vs) (suc j) (suc k) le = omega (arith, made_grows vs j k (omega arith))

not_true : (b : Bool) → not b ≡ true → b ≡ false
not_true false h = refl
not_true true h = absurd cc

-- an event that makes a submission tells of no end
made_tells : (c : Course) (ended : ℕ → Bool) (v : Event) (e : ℕ) → is_made v ≡ 1 → is_told c (told_by c ended v) e ≡ false
made_tells c ended Submitted e is = refl
made_tells c ended (Watched n) e is = absurd (omega (arith, is))
made_tells c ended (MemberEnded n m) e is = absurd (omega (arith, is))
made_tells c ended (Ended n status) e is = absurd (omega (arith, is))
made_tells c ended (Known n) e is = absurd (omega (arith, is))

-- and is none
made_ends : (v : Event) (n : ℕ) → is_made v ≡ 1 → is_number n (ended_by v) ≡ false
made_ends Submitted n is = refl
made_ends (Watched m) n is = absurd (omega (arith, is))
made_ends (MemberEnded m j) n is = absurd (omega (arith, is))
made_ends (Ended m status) n is = absurd (omega (arith, is))
made_ends (Known m) n is = absurd (omega (arith, is))

or_none : (a b : Bool) → b ≡ false → (a || b) ≡ a
or_none true b h = refl
or_none false b h = h

-- what an event tells rests on the submissions that are there
pub told_same : (c : Course) (ended other : ℕ → Bool) (v : Event) → Fits c v → ((n : ℕ) → n < length c.made.items → ended n ≡ other n) → told_by c ended v ≡ told_by c other v
told_same c ended other Submitted fits same = refl
told_same c ended other (Watched n) fits same = refl
told_same c ended other (MemberEnded n m) fits same = refl
told_same c ended other (Ended n status) fits same = refl
told_same c ended other (Known n) fits same = ap (λ b. if b then told_of.Submission n else told_of.Nothing) (same n fits)

made_none : (v : Event) → (is_made v ≡ 1 → ⊥) → is_made v ≡ 0
made_none Submitted other = absurd (other refl)
made_none (Watched n) other = refl
made_none (MemberEnded n m) other = refl
made_none (Ended n status) other = refl
made_none (Known n) other = refl

module _ (accepted : Accepted) (es : List (List ℕ)) (ss : List Submission) (c : Course) (k : ℕ) (f : Flying) (course : IsCourse c) (lt : k < length c.events.items)
    (flies : IsFlying accepted es ss c k f) where
  -- ---- the next submission is made

  pub made_next : is_made (event_at c k) ≡ 1 → made_before c.events.items (k + 1) ≡ f.number + 1
  made_next is = omega (arith, made_more c.events.items k Submitted lt, is, flies.number)

  pub number_within : is_made (event_at c k) ≡ 1 → f.number < length c.made.items
  number_within is = omega (arith, made_next is, made_grows c.events.items (k + 1) (length c.events.items) (omega arith), course.count)

  pub begun : is_made (event_at c k) ≡ 1 → length f.waits.items ≤ (made_at c.made.items f.number).end
  begun is =
      elim (cases_lt (made_at c.made.items f.number).end (length f.waits.items)) [
        | inl low ↦
            let bound = flies.bound in
            let past = course.others (made_at c.made.items f.number).end f.number (omega arith) (number_within is) (omega arith) in
            let before = flies.done (made_at c.made.items f.number).end low in
            absurd (omega (arith, past, before))
        | inr le ↦ le
      ]

  pub ends_within : is_made (event_at c k) ≡ 1 → (made_at c.made.items f.number).end ≤ length c.entries.items
  ends_within is = course.ends f.number (number_within is)

  pub own : is_made (event_at c k) ≡ 1 → HasSubmission c f.number (length f.waits.items) (made_at c.made.items f.number).end
  own is e from end =
      let inside : e < length c.entries.items = omega (arith, ends_within is) in
      let up_to = course.own e f.number inside (number_within is) end in
      elim (cases_lt (submission_of c e) f.number) [
        | inl before ↦ absurd (omega (arith, flies.whole e inside before))
        | inr le ↦ omega arith
      ]

  submitted_tells : is_made (event_at c k) ≡ 1 → (e : ℕ) → tells c k e ≡ false
  submitted_tells is e = made_tells c (has_ended c k) (event_at c k) e is

  -- one more event
  ended_more : (n : ℕ) → has_ended c (k + 1) n ≡ (has_ended c k n || is_number n (ended_by (event_at c k)))
  ended_more n = list_any_more (λ v. is_number n (ended_by v)) c.events.items k Submitted lt

  pub outstanding_now : is_made (event_at c k) ≡ 1 → AreOutstanding c f.number f.outstanding.items
  outstanding_now is =
      record {
        inside = λ e there. omega (arith, flies.inside e there, flies.bound);
        before = λ e there. flies.done e (flies.inside e there);
        are = λ e there q within after up_to.
            elim (cases_lt q k) [
              | inl early ↦ flies.not_told e there q early after
              | inr late ↦
                  elim (cases_eq q k) [
                    | inl same ↦ subst (λ (z : ℕ). tells c z e ≡ false) (sym same) (submitted_tells is e)
                    | inr unlike ↦
                        absurd (omega (arith, up_to, made_next is, made_grows c.events.items (k + 1) q (omega arith)))
                  ]
            ];
        all = λ e inside before flying.
            flies.all e (flies.whole e inside before)
            (λ q early after. flying q (omega arith) after (omega (arith, made_grows c.events.items q k (omega arith), flies.number)));
      }

  not_told_more : (e : ℕ) → IsNotTold c k e → tells c k e ≡ false → IsNotTold c (k + 1) e
  not_told_more e before now q early after =
      elim (cases_eq q k) [
        | inl same ↦ subst (λ (z : ℕ). tells c z e ≡ false) (sym same) now
        | inr unlike ↦ before q (omega arith) after
      ]

  pub submitted : (g : Flying) → is_made (event_at c k) ≡ 1 → g.number ≡ f.number + 1
      → length g.waits.items ≡ (made_at c.made.items f.number).end → AreLasts (IsLeftWait accepted es ss c) g.waits.items
      → WithRange f.outstanding.items (length f.waits.items) (made_at c.made.items f.number).end g.outstanding.items
      → g.ended.items ≡ f.ended.items → AddsKeys (UsesBetween accepted es ss c f.outstanding.items (length f.waits.items) (made_at c.made.items f.number).end) f.used g.used
      → IsFlying accepted es ss c (k + 1) g
  submitted g is number count waits range flags adds =
      record {
        number = omega (arith, number, made_next is);
        bound = omega (arith, count, ends_within is);
        done = λ e low.
            let inside : e < length c.entries.items = omega (arith, count, ends_within is) in
            omega (arith, number, course.own e f.number inside (number_within is) (omega (arith, count)));
        whole = λ e inside before.
            elim (cases_lt e (made_at c.made.items f.number).end) [
              | inl low ↦ omega (arith, count)
              | inr high ↦ absurd (omega (arith, number, before, course.others e f.number inside (number_within is) high))
            ];
        waits = waits;
        rising = range.rising;
        inside = λ e there.
            elim (range.only e there) [
              | inl old ↦ omega (arith, flies.inside e old, begun is, count)
              | inr between ↦ omega (arith, between.1, count)
            ];
        not_told = λ e there.
            elim (range.only e there) [
              | inl old ↦ not_told_more e (flies.not_told e old) (submitted_tells is e)
              | inr between ↦ λ q early after.
                  absurd (omega (arith, after, own is e between.0 between.1, made_grows c.events.items q k (omega arith), flies.number))
            ];
        all = λ e low not_told.
            elim (cases_lt e (length f.waits.items)) [
              | inl old ↦ range.kept e (flies.all e old (λ q early after. not_told q (omega arith) after))
              | inr new ↦ range.more e new (omega (arith, count))
            ];
        flags = ap length flags ∙ flies.flags;
        ended = λ n within.
            ap (λ (xs : List Bool). get_or xs n false) flags ∙ flies.ended n within
            ∙ sym (ended_more n ∙ or_none (has_ended c k n) (is_number n (ended_by (event_at c k))) (made_ends (event_at c k) n is));
        used = λ key.
            subst (λ (to : ℕ). (has_key g.used key ≡ true) ↔ UsesBelow accepted es ss c to key) (sym count)
            (below_more accepted es ss c f.number (length f.waits.items) (made_at c.made.items f.number).end f.outstanding.items f.used g.used (outstanding_now is) (own is) (begun is) adds flies.used key);
      }

  -- ---- another event

  pub told : (g : Flying) → (is_made (event_at c k) ≡ 1 → ⊥) → g.number ≡ f.number → g.waits.items ≡ f.waits.items
      → g.outstanding.items ≡ filter (λ e. not (tells c k e)) f.outstanding.items → Marks (ended_by (event_at c k)) f.ended.items g.ended.items
      → g.used ≡ f.used → IsFlying accepted es ss c (k + 1) g
  told g is number waits left marks uses =
      let same : made_before c.events.items (k + 1) ≡ f.number = omega (arith, made_more c.events.items k Submitted lt, made_none (event_at c k) is, flies.number) in
      let p : ℕ → Bool = λ e. not (tells c k e) in
      let old : (e : ℕ) → Contains g.outstanding.items e → Contains f.outstanding.items e × (p e ≡ true) =
      λ e there. filter_only p f.outstanding.items e (subst (λ (xs : List ℕ). Contains xs e) left there) in
      record {
        number = omega (arith, number, same);
        bound = omega (arith, ap length waits, flies.bound);
        done = λ e low. omega (arith, number, flies.done e (omega (arith, ap length waits)));
        whole = λ e inside before. omega (arith, ap length waits, flies.whole e inside (omega (arith, number)));
        waits = subst (AreLasts (IsLeftWait accepted es ss c)) (sym waits) flies.waits;
        rising = subst (λ (xs : List ℕ). IsRising xs) (sym left) (rising_filter p f.outstanding.items flies.rising);
        inside = λ e there. omega (arith, ap length waits, flies.inside e (old e there).0);
        not_told = λ e there. not_told_more e (flies.not_told e (old e there).0) (not_true (tells c k e) (old e there).1);
        all = λ e low not_told.
            let before : e < length f.waits.items = omega (arith, ap length waits) in
            let here : tells c k e ≡ false = not_told k (omega arith) (omega (arith, flies.done e before, flies.number)) in
            subst (λ (xs : List ℕ). Contains xs e) (sym left)
            (filter_keeps p f.outstanding.items e (flies.all e before (λ q early after. not_told q (omega arith) after)) (ap not here));
        flags = marks.count ∙ flies.flags;
        ended = λ n within.
            marked_each (ended_by (event_at c k)) f.ended.items g.ended.items n marks (omega (arith, flies.flags)) ∙ ap (λ b. b || is_number n (ended_by (event_at c k))) (flies.ended n within) ∙ sym (ended_more n);
        used = λ key.
            subst (λ (xs : List (Option ℕ)). (has_key g.used key ≡ true) ↔ UsesBelow accepted es ss c (length xs) key) (sym waits)
            (subst (λ (keys : Accepted). (has_key keys key ≡ true) ↔ UsesBelow accepted es ss c (length f.waits.items) key) (sym uses) (flies.used key));
      }

-- ---- all events

pub all_done : (accepted : Accepted) (es : List (List ℕ)) (ss : List Submission) (c : Course) (k : ℕ) (f : Flying) → IsCourse c → length c.events.items ≡ k → IsFlying accepted es ss c k f
    → length f.waits.items ≡ length c.entries.items
all_done accepted es ss c k f course end flies =
    elim (cases_lt (length f.waits.items) (length c.entries.items)) [
      | inl short ↦
          let made : submission_of c (length f.waits.items) < f.number =
          omega (arith, course.made (length f.waits.items) short, course.count, flies.number, ap (made_before c.events.items) end) in
          absurd (omega (arith, flies.whole (length f.waits.items) short made))
      | inr le ↦ omega (arith, flies.bound)
    ]

-- ---- one more wait

pub wait_of : (accepted : Accepted) (es : List (List ℕ)) (ss : List Submission) (c : Course) (n e : ℕ) (xs : List ℕ) (o : Option ℕ) → AreOutstanding c n xs → AreBelow e xs → submission_of c e ≡ n
    → IsGreatest (λ a. Contains xs a × IsLeftConflict accepted es ss c a e) o → IsGreatest (λ a. (a < e) × IsLeftWait accepted es ss c a e) o
wait_of accepted es ss c n e xs o are below own last =
    greatest_same (λ a. Contains xs a × IsLeftConflict accepted es ss c a e) (λ a. (a < e) × IsLeftWait accepted es ss c a e) o
    (λ a (there, conflict). (
      below a there,
      (
        record {
          inside = are.inside a there;
          before = omega (arith, own, are.before a there);
          in_flight = subst (λ (m : ℕ). IsOutstanding c a m) (sym own) (are.are a there);
          conflict = conflict.0;
        },
        conflict.1,
      ),
    ))
    (λ a (lt, wait). (
      are.all a wait.0.inside (omega (arith, own, wait.0.before)) (subst (λ (m : ℕ). IsOutstanding c a m) own wait.0.in_flight),
      (wait.0.conflict, wait.1),
    ))
    last

-- ---- if none is left

pub none_left : (accepted : Accepted) (es : List (List ℕ)) (ss : List Submission) (c : Course) (left : List (Option ℕ)) → length c.members.items ≡ length left
    → AreLasts (IsLeftWait accepted es ss c) left → ((k : ℕ) → k < length left → get_or left k None ≡ None) → NoneIsLeft accepted es ss c
none_left accepted es ss c left count lasts none earlier later lt wait =
    let known = wait.0.conflict in
    let inside : later < length left = omega (arith, slice_get_within c.members.items later known.1 known.3, count) in
    let is : slice_get left later ≡ Some None = slice_get-get_or left later None inside ∙ ap Some (none later inside) in
    lasts later None is earlier (lt, wait)

pub some_left : (accepted : Accepted) (es : List (List ℕ)) (ss : List Submission) (c : Course) (left : List (Option ℕ)) (k earlier : ℕ) → k < length left
    → AreLasts (IsLeftWait accepted es ss c) left → get_or left k None ≡ Some earlier → NoneIsLeft accepted es ss c → ⊥
some_left accepted es ss c left k earlier inside lasts is none =
    let last = lasts k (Some earlier) (slice_get-get_or left k None inside ∙ ap Some is) in
    none earlier k last.0.0 last.0.1

pub all_none : (accepted : Accepted) (es : List (List ℕ)) (ss : List Submission) (c : Course) (left : List (Option ℕ)) → AreLasts (IsLeftWait accepted es ss c) left
    → NoneIsLeft accepted es ss c → (k : ℕ) → k < length left → get_or left k None ≡ None
all_none accepted es ss c left lasts none k inside = by_wait (get_or left k None) refl where
  by_wait : (o : Option ℕ) → get_or left k None ≡ o → get_or left k None ≡ None
  by_wait None e = e
  by_wait (Some earlier) e = absurd (some_left accepted es ss c left k earlier inside lasts e none)

-- ---- if nothing is accepted

pub unaccepted : (none : Accepted) (es : List (List ℕ)) (ss : List Submission) (c : Course) (waits : List (Option ℕ)) → ((key : List ℕ) → has_key none key ≡ false)
    → AreLasts (IsLeftWait none es ss c) waits → AreLasts (IsMissingWait c) waits
unaccepted none es ss c waits nothing lasts b last at =
    greatest_same (λ a. (a < b) × IsLeftWait none es ss c a b) (λ a. (a < b) × IsMissingWait c a b) last
    (λ a (lt, wait). (lt, wait.0))
    (λ a (lt, wait). (lt, (wait, λ accepted. let no : false ≡ true = sym (nothing accepted.0) ∙ accepted.2 in absurd cc)))
    (lasts b last at)
