-- Lines that fit a recording.
use Rattle.std.proofs.Common.{◌≡◌, ℕ, zero, suc, ◌+◌, ◌<◌, ◌≤◌, inl, inr, Bool, true, false, List, [], ◌∷◌, ◌++◌, length, length-append, map, take, get_or, Some, None, refl, sym, ap, subst, ◌∙◌, arith}
use Rattle.std.specs.Prelude.{if◌then◌else◌, not, nat_lt, ◌==◌}
use Rattle.std.proofs.lemmas.Bool.{cases_eq, ltb-true}
use Rattle.std.proofs.lemmas.List.{length-map, get_or_append_left, get_or_push, take_more}
use Rattle.std.proofs.lemmas.Option.{slice_get-get_or}
use Rattle.dsa_descriptor.specs.Places.{code_at}
use Rattle.dsa_recording.specs.Submissions.{head_at}
use Rattle.dsa_recording.specs.declared.stream.Submission.{Submission}
use Rattle.dsa_waits.specs.declared.event.Event.{Event}
use Rattle.dsa_waits.specs.declared.event.Event.TheVariants as event
use Rattle.dsa_waits.specs.declared.event.Queue.{Queue}
use Rattle.dsa_waits.specs.declared.fitting.Misfit.TheVariants.{Number, Member, Recording}
use Rattle.dsa_waits.specs.declared.lines.Line.{Line}
use Rattle.dsa_waits.specs.declared.lines.Line.TheVariants.{Submitted, Happened}
use Rattle.dsa_waits.specs.Fitting.{AreQueues, FitAll, event_of, line_at, made_by, members_of, misfit_number, misfit_of, queues_of}
use Rattle.dsa_waits.specs.Recorded.{FitsRecording, bytes_of, no_submission, submission_at}
use Rattle.dsa_waits.specs.Waits.{is_made, no_queue}
use Rattle.dsa_waits.proofs.Courses.{made_grows, made_more, none_before}

-- ---- one line

member_by : (b c d : Bool) → (if not b then Some Number else if not c then Some Number else if not d then Some Member else None) ≡ None
    → (b ≡ true) × (c ≡ true) × (d ≡ true)
member_by true true true h = (refl, refl, refl)
member_by true true false h = let never : Some Member ≡ None = h in absurd cc
member_by true false d h = let never : Some Number ≡ None = h in absurd cc
member_by false c d h = let never : Some Number ≡ None = h in absurd cc

batch_by : (b : Bool) (size m : ℕ) → m < (if b then size else 0) → (b ≡ true) × (m < size)
batch_by true size m lt = (refl, lt)
batch_by false size m lt = absurd (omega (arith, lt))

number_by : (b : Bool) → (if b then None else Some Number) ≡ None → b ≡ true
number_by true h = refl
number_by false h = let never : Some Number ≡ None = h in absurd cc

number_fits : (ss : List Submission) (made n : ℕ) → made ≤ length ss → misfit_number made n ≡ None → n < length ss
number_fits ss made n few h = omega (arith, ltb-true n made (number_by (nat_lt n made) h))

pub line_fits : (es : List (List ℕ)) (ss : List Submission) (made : ℕ) (line : Line) → made ≤ length ss → misfit_of es ss made line ≡ None → FitsRecording ss (event_of line)
line_fits es ss made (Submitted l) few h = tt
line_fits es ss made (Happened event.Submitted) few h = tt
line_fits es ss made (Happened (event.MemberEnded n m)) few h =
    let all = member_by (nat_lt n made) (nat_lt n (length ss)) (nat_lt m (members_of (submission_at ss n))) h in
    let batch = batch_by (submission_at ss n).is_batch (submission_at ss n).size m (ltb-true m (members_of (submission_at ss n)) all.2) in
    (submission_at ss n, slice_get-get_or ss n no_submission (ltb-true n (length ss) all.1), batch.0, batch.1)
line_fits es ss made (Happened (event.Watched n)) few h = number_fits ss made n few h
line_fits es ss made (Happened (event.Ended n status)) few h = number_fits ss made n few h
line_fits es ss made (Happened (event.Known n)) few h = number_fits ss made n few h

-- ---- all

at_map : (lines : List Line) (k : ℕ) (d : Event) → k < length lines → get_or (map event_of lines) k d ≡ event_of (line_at lines k)
at_map [] k d lt = absurd (omega arith)
at_map (l ∷ lines) zero d lt = refl
at_map (l ∷ lines) (suc k) d lt = at_map lines k d (omega arith)

pub all_fit : (es : List (List ℕ)) (ss : List Submission) (lines : List Line) (k : ℕ) (d : Event) → FitAll es ss lines → k < length (map event_of lines)
    → FitsRecording ss (get_or (map event_of lines) k d)
all_fit es ss lines k d fit within =
    let lt : k < length lines = omega (arith, length-map lines event_of) in
    let few : made_by lines k ≤ length ss = omega (arith, made_grows (map event_of lines) k (length lines) (omega arith), fit.all) in
    subst (FitsRecording ss) (sym (at_map lines k d lt)) (line_fits es ss (made_by lines k) (line_at lines k) few (fit.fit k lt))

-- ---- one more line

made_by_four : (b c d e : Bool) → (if not b then Some Number else if not c then Some Number else if not d then Some Recording else if not e then Some Recording else None) ≡ None
    → c ≡ true
made_by_four true true d e h = refl
made_by_four true false d e h = let never : Some Number ≡ None = h in absurd cc
made_by_four false c d e h = let never : Some Number ≡ None = h in absurd cc

one_queue : (es : List (List ℕ)) (ss : List Submission) (made : ℕ) (line : Line) → misfit_of es ss made line ≡ None → length (queues_of line) ≡ is_made (event_of line)
one_queue es ss made (Submitted l) h = refl
one_queue es ss made (Happened event.Submitted) h = let never : Some Number ≡ None = h in absurd cc
one_queue es ss made (Happened (event.MemberEnded n m)) h = refl
one_queue es ss made (Happened (event.Watched n)) h = refl
one_queue es ss made (Happened (event.Ended n status)) h = refl
one_queue es ss made (Happened (event.Known n)) h = refl

few_next : (es : List (List ℕ)) (ss : List Submission) (made : ℕ) (line : Line) → made ≤ length ss → misfit_of es ss made line ≡ None
    → made + is_made (event_of line) ≤ length ss
few_next es ss made (Submitted l) few h =
    let low : made < length ss =
    ltb-true made (length ss)
    (made_by_four (l.number == made) (nat_lt made (length ss)) (l.code == code_at (bytes_of es (head_at (submission_at ss made))))
    (l.members == members_of (submission_at ss made)) h) in
    omega (arith, low)
few_next es ss made (Happened event.Submitted) few h = let never : Some Number ≡ None = h in absurd cc
few_next es ss made (Happened (event.MemberEnded n m)) few h = omega (arith, few)
few_next es ss made (Happened (event.Watched n)) few h = omega (arith, few)
few_next es ss made (Happened (event.Ended n status)) few h = omega (arith, few)
few_next es ss made (Happened (event.Known n)) few h = omega (arith, few)

by_more : (lines : List Line) (k : ℕ) → k < length lines → made_by lines (k + 1) ≡ made_by lines k + is_made (event_of (line_at lines k))
by_more lines k lt =
    made_more (map event_of lines) k event.Submitted (omega (arith, length-map lines event_of)) ∙ ap (λ v. made_by lines k + is_made v) (at_map lines k event.Submitted lt)

pub queues_next : (es : List (List ℕ)) (ss : List Submission) (lines : List Line) (k : ℕ) (queues queues' : List Queue) → k < length lines
    → misfit_of es ss (made_by lines k) (line_at lines k) ≡ None → queues' ≡ queues ++ queues_of (line_at lines k) → AreQueues lines k queues → AreQueues lines (k + 1) queues'
queues_next es ss lines k queues queues' lt fits is are =
    record {
      count = omega (arith, ap length is, length-append queues (queues_of (line_at lines k)), one_queue es ss (made_by lines k) (line_at lines k) fits, are.count, by_more lines k lt);
      each = λ j l low at.
          elim (cases_eq j k) [
            | inl same ↦
                let here : line_at lines k ≡ Submitted l = subst (λ (z : ℕ). line_at lines z ≡ Submitted l) same at in
                let all : queues' ≡ queues ++ l.queue ∷ [] = is ∙ ap (λ (z : Line). queues ++ queues_of z) here in
                ap (λ (z : ℕ). get_or queues' (made_by lines z) no_queue) same ∙ ap (λ (q : List Queue). get_or q (made_by lines k) no_queue) all
                ∙ get_or_push queues l.queue no_queue (made_by lines k) are.count
            | inr unlike ↦
                let before : j < k = omega arith in
                let one : is_made (event_of (line_at lines j)) ≡ 1 = ap (λ (z : Line). is_made (event_of z)) at in
                let inside : made_by lines j < length queues =
                omega (arith, by_more lines j (omega arith), one, made_grows (map event_of lines) (j + 1) k (omega arith), are.count) in
                ap (λ (q : List Queue). get_or q (made_by lines j) no_queue) is
                ∙ get_or_append_left queues (queues_of (line_at lines k)) no_queue (made_by lines j) inside ∙ are.each j l before at
          ];
    }

pub few_more : (es : List (List ℕ)) (ss : List Submission) (lines : List Line) (k : ℕ) (queues queues' : List Queue) → misfit_of es ss (made_by lines k) (line_at lines k) ≡ None
    → queues' ≡ queues ++ queues_of (line_at lines k) → AreQueues lines k queues → length queues ≤ length ss → length queues' ≤ length ss
few_more es ss lines k queues queues' fits is are few =
    omega (
      arith,
      ap length is,
      length-append queues (queues_of (line_at lines k)),
      one_queue es ss (made_by lines k) (line_at lines k) fits,
      are.count,
      few_next es ss (made_by lines k) (line_at lines k) (omega (arith, are.count)) fits,
    )

pub events_next : (lines : List Line) (k : ℕ) (events events' : List Event) → k < length lines → events' ≡ events ++ event_of (line_at lines k) ∷ []
    → events ≡ take k (map event_of lines) → events' ≡ take (k + 1) (map event_of lines)
events_next lines k events events' lt is so_far =
    is ∙ ap (λ (vs : List Event). vs ++ event_of (line_at lines k) ∷ []) so_far
    ∙ ap (λ (v : Event). take k (map event_of lines) ++ v ∷ []) (sym (at_map lines k event.Submitted lt))
    ∙ sym (take_more (map event_of lines) k event.Submitted (omega (arith, length-map lines event_of)))

pub no_queues : (lines : List Line) → AreQueues lines 0 []
no_queues lines = record { count = sym (none_before (map event_of lines)); each = λ j l low at. absurd (omega arith) }
