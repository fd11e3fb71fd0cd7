-- Bytes in dumps of memory, and the stream of a portal, step by step.
use Rattle.std.proofs.Common.{ℕ, ◌≡◌, ◌≢◌, ◌+◌, ◌<◌, ◌≤◌, Bool, true, false, List, [], ◌∷◌, ◌++◌, Option, Some, None, length, get_or, drop, take, Result, Ok, Err, inl, refl, sym, ap, ◌∙◌, length-append, arith}
use Rattle.std.specs.Prelude.{if◌then◌else◌, option_map, is_some, IfOk}
use Rattle.std.proofs.Math.Dec.{eqb}
use Rattle.std.proofs.lemmas.List.{append_assoc, append-nil, drop_all, drop_more, take_all, take_more, take-append-drop}
use Rattle.dsa_recording.specs.declared.dumps.Dump.{Dump}
use Rattle.dsa_recording.specs.Dumps.{covers, part_of, bytes_at, put_before, with_members, joined, stream_of, StagesStream, IsStagingFault, AnswersPortal, AnswersStaged}
use Rattle.dsa_recording.specs.declared.answer.AuditAnswer.{AuditAnswer}
use Rattle.dsa_recording.specs.declared.answer.AuditOptions.{AuditOptions}
use Rattle.dsa_recording.specs.Answers.{AnswersRecording}
use Rattle.dsa_recording.specs.Inputs.{SpellsRecording}
use Rattle.dsa_recording.specs.declared.dumps.StagingFault.{StagingFault}
use Rattle.dsa_recording.specs.declared.dumps.StagingFault.TheVariants.{Length, Unstaged, TooLong, Memory}
use Rattle.dsa_descriptor.specs.Lists.{entries}

-- ---- bytes in dumps

here : {A : Type 0} (b : Bool) (f : A → List ℕ) (r : Option A) (x : List ℕ) (more : Option (List ℕ)) → option_map f r ≡ (if b then Some x else None)
    → is_some r ≡ true → option_map f r ≡ (if b then Some x else more)
here true f r x more e s = e
here false f (Some y) x more e s = let never : Some (f y) ≡ None = e in absurd cc
here false f None x more e s = absurd cc

not_here : {A : Type 0} (b : Bool) (f : A → List ℕ) (r : Option A) (x : List ℕ) (more : Option (List ℕ)) → option_map f r ≡ (if b then Some x else None)
    → is_some r ≡ false → (if b then Some x else more) ≡ more
not_here true f (Some y) x more e s = absurd cc
not_here true f None x more e s = let never : Some x ≡ None = sym e in absurd cc
not_here false f r x more e s = refl

first_of : (ds : List Dump) (i : ℕ) (d : Dump) → i < length ds → d ≡ get_or ds i d → drop i ds ≡ d ∷ drop (i + 1) ds
first_of ds i d lt is = drop_more ds i d lt ∙ ap (λ (z : Dump). z ∷ drop (i + 1) ds) (sym is)

unfolded : (at size : ℕ) (d : Dump) (ds : List Dump) → bytes_at at size (d ∷ ds) ≡ (if covers at size d then Some (part_of at size d) else bytes_at at size ds)
unfolding bytes_at
unfolded at size d ds = refl

pub found_here : {A : Type 0} (f : A → List ℕ) (r : Option A) (ds : List Dump) (i : ℕ) (d : Dump) (at size : ℕ) → i < length ds → d ≡ get_or ds i d
    → bytes_at at size (drop i ds) ≡ bytes_at at size ds → option_map f r ≡ (if covers at size d then Some (part_of at size d) else None)
    → is_some r ≡ true → option_map f r ≡ bytes_at at size ds
found_here f r ds i d at size lt is so_far e s =
    here (covers at size d) f r (part_of at size d) (bytes_at at size (drop (i + 1) ds)) e s
    ∙ sym (unfolded at size d (drop (i + 1) ds)) ∙ ap (bytes_at at size) (sym (first_of ds i d lt is)) ∙ so_far

pub found_later : {A : Type 0} (f : A → List ℕ) (r : Option A) (ds : List Dump) (i : ℕ) (d : Dump) (at size : ℕ) → i < length ds → d ≡ get_or ds i d
    → bytes_at at size (drop i ds) ≡ bytes_at at size ds → option_map f r ≡ (if covers at size d then Some (part_of at size d) else None)
    → is_some r ≡ false → bytes_at at size (drop (i + 1) ds) ≡ bytes_at at size ds
found_later f r ds i d at size lt is so_far e s =
    sym (not_here (covers at size d) f r (part_of at size d) (bytes_at at size (drop (i + 1) ds)) e s)
    ∙ sym (unfolded at size d (drop (i + 1) ds)) ∙ ap (bytes_at at size) (sym (first_of ds i d lt is)) ∙ so_far

pub found_nowhere : (ds : List Dump) (i at size : ℕ) → length ds ≤ i → bytes_at at size (drop i ds) ≡ bytes_at at size ds → (if eqb size 0 then Some [] else None) ≡ bytes_at at size ds
unfolding bytes_at
found_nowhere ds i at size le so_far = sym (ap (bytes_at at size) (drop_all i ds le)) ∙ so_far

-- ---- the stream

-- one entry more
one_more : (here rest back : Option (List ℕ)) (acc ms : List ℕ) → joined here rest ≡ Some acc → ((front : List ℕ) → rest ≡ Some front → back ≡ Some (front ++ ms))
    → joined here back ≡ Some (acc ++ ms)
one_more None rest back acc ms e step = absurd (let no : ◌≡◌ {A = Option (List ℕ)} None (Some acc) = e in cc)
one_more (Some front) None back acc ms e step = absurd (let no : ◌≡◌ {A = Option (List ℕ)} None (Some acc) = e in cc)
one_more (Some front) (Some tail) back acc ms e step =
    let whole : front ++ tail ≡ acc = cc in
    ap (put_before front) (step tail refl) ∙ ap Some (sym (append_assoc front tail ms) ∙ ap (λ (l : List ℕ). l ++ ms) whole)

append_entry : (ds : List Dump) (es : List (List ℕ)) (e acc ms : List ℕ) → stream_of ds es ≡ Some acc → with_members ds e ≡ Some ms
    → stream_of ds (es ++ e ∷ []) ≡ Some (acc ++ ms)
unfolding stream_of
append_entry ds [] e acc ms so_far has =
    let none : [] ≡ acc = cc in
    ap (λ (o : Option (List ℕ)). joined o (Some [])) has ∙ ap Some (append-nil ms ∙ ap (λ (l : List ℕ). l ++ ms) none)
append_entry ds (x ∷ es) e acc ms so_far has =
    one_more (with_members ds x) (stream_of ds es) (stream_of ds (es ++ e ∷ [])) acc ms so_far (λ front is. append_entry ds es e front ms is has)

pub staged_more : (ds : List Dump) (es : List (List ℕ)) (at : ℕ) (e ms acc next last : List ℕ) → at < length es → e ≡ get_or es at []
    → Some (e ++ ms) ≡ with_members ds e → next ≡ acc ++ e → last ≡ next ++ ms
    → stream_of ds (take at es) ≡ Some acc → stream_of ds (take (at + 1) es) ≡ Some last
staged_more ds es at e ms acc next last lt is has one two so_far =
    let written : acc ++ (e ++ ms) ≡ last = sym (two ∙ ap (λ (l : List ℕ). l ++ ms) one ∙ append_assoc acc e ms) in
    ap (stream_of ds) (take_more es at [] lt ∙ ap (λ (z : List ℕ). take at es ++ z ∷ []) (sym is))
    ∙ append_entry ds (take at es) e acc (e ++ ms) so_far (sym has)
    ∙ ap Some written

pub staged_none : (ds : List Dump) (es : List (List ℕ)) → stream_of ds (take 0 es) ≡ Some []
unfolding stream_of
staged_none ds es = refl

pub staged_all : (ds : List Dump) (es : List (List ℕ)) (at : ℕ) (acc : List ℕ) → length es ≤ at
    → stream_of ds (take at es) ≡ Some acc → stream_of ds es ≡ Some acc
staged_all ds es at acc le so_far = sym (ap (stream_of ds) (take_all at es le)) ∙ so_far

-- ---- where there is no stream

put_none : (a : List ℕ) → put_before a None ≡ None
put_none a = refl

none_joined : (o : Option (List ℕ)) → joined o None ≡ None
none_joined None = refl
none_joined (Some front) = refl

no_stream_of : (ds : List Dump) (before : List (List ℕ)) (e : List ℕ) (after : List (List ℕ)) → with_members ds e ≡ None
    → stream_of ds (before ++ e ∷ after) ≡ None
unfolding stream_of
no_stream_of ds [] e after none = ap (λ (o : Option (List ℕ)). joined o (stream_of ds after)) none
no_stream_of ds (first ∷ before) e after none =
    ap (joined (with_members ds first)) (no_stream_of ds before e after none) ∙ none_joined (with_members ds first)

pub unstaged : (ds : List Dump) (es : List (List ℕ)) (at : ℕ) → at < length es → with_members ds (get_or es at []) ≡ None → stream_of ds es ≡ None
unstaged ds es at lt none =
    let parts : es ≡ take at es ++ drop at es = sym (take-append-drop at es) in
    let first : drop at es ≡ get_or es at [] ∷ drop (at + 1) es = drop_more es at [] lt in
    ap (stream_of ds) (parts ∙ ap (λ (l : List (List ℕ)). take at es ++ l) first)
    ∙ no_stream_of ds (take at es) (get_or es at []) (drop (at + 1) es) none

-- a stream is at least as long as its front and what comes next
joined_long : (here rest : Option (List ℕ)) (acc front : List ℕ) (n : ℕ) → joined here rest ≡ Some acc → here ≡ Some front
    → ((tail : List ℕ) → rest ≡ Some tail → n ≤ length tail) → length front + n ≤ length acc
joined_long None rest acc front n e is step = absurd (let no : ◌≡◌ {A = Option (List ℕ)} None (Some acc) = e in cc)
joined_long (Some x) None acc front n e is step = absurd (let no : ◌≡◌ {A = Option (List ℕ)} None (Some acc) = e in cc)
joined_long (Some x) (Some tail) acc front n e is step =
    let whole : x ++ tail ≡ acc = cc in
    let same : x ≡ front = cc in
    omega (arith, step tail refl, ap length whole, ap length same, length-append x tail)

front_long : (here rest back : Option (List ℕ)) (front stream : List ℕ) (n : ℕ) → joined here rest ≡ Some front → joined here back ≡ Some stream
    → ((r : List ℕ) → rest ≡ Some r → (tail : List ℕ) → back ≡ Some tail → length r + n ≤ length tail) → length front + n ≤ length stream
front_long None rest back front stream n e w step = absurd (let no : ◌≡◌ {A = Option (List ℕ)} None (Some front) = e in cc)
front_long (Some h) None back front stream n e w step = absurd (let no : ◌≡◌ {A = Option (List ℕ)} None (Some front) = e in cc)
front_long (Some h) (Some r) back front stream n e w step =
    let parts : h ++ r ≡ front = cc in
    let long : length h + (length r + n) ≤ length stream = joined_long (Some h) back stream h (length r + n) w refl (λ tail is. step r refl tail is) in
    omega (arith, long, ap length parts, length-append h r)

stream_long : (ds : List Dump) (before : List (List ℕ)) (e : List ℕ) (after : List (List ℕ)) (front more stream : List ℕ) → stream_of ds before ≡ Some front
    → with_members ds e ≡ Some more → stream_of ds (before ++ e ∷ after) ≡ Some stream → length front + length more ≤ length stream
unfolding stream_of
stream_long ds [] e after front more stream so_far has whole =
    let none : [] ≡ front = cc in
    let long : length more + 0 ≤ length stream = joined_long (with_members ds e) (stream_of ds after) stream more 0 whole has (λ tail is. omega arith) in
    omega (arith, long, ap length none)
stream_long ds (x ∷ before) e after front more stream so_far has whole =
    front_long (with_members ds x) (stream_of ds before) (stream_of ds (before ++ e ∷ after)) front stream (length more) so_far whole
    (λ r is tail there. stream_long ds before e after r more tail is has there)

long_stream : (ds : List Dump) (es : List (List ℕ)) (at : ℕ) (front more stream : List ℕ) → at < length es → stream_of ds (take at es) ≡ Some front
    → with_members ds (get_or es at []) ≡ Some more → stream_of ds es ≡ Some stream → length front + length more ≤ length stream
long_stream ds es at front more stream lt so_far has whole =
    let parts : es ≡ take at es ++ (get_or es at [] ∷ drop (at + 1) es) =
    sym (take-append-drop at es) ∙ ap (λ (l : List (List ℕ)). take at es ++ l) (drop_more es at [] lt) in
    stream_long ds (take at es) (get_or es at []) (drop (at + 1) es) front more stream so_far has (sym (ap (stream_of ds) parts) ∙ whole)

pub no_stream : (ds : List Dump) (portal : List ℕ) (fault : StagingFault) → fault ≢ Memory → IsStagingFault ds portal fault
    → (stream : List ℕ) → ¬ StagesStream ds portal stream
no_stream ds portal Length unlike stands = λ stream staged. stands staged.whole
no_stream ds portal (Unstaged at) unlike stands = λ stream staged.
    let never : Some stream ≡ None = sym staged.all ∙ unstaged ds (entries portal) at stands.1.1.inside stands.1.2 in
    absurd cc
no_stream ds portal (TooLong at) unlike stands = λ stream staged.
    let long = long_stream ds (entries portal) at stands.1.0 stands.1.1 stream stands.1.2.inside stands.1.2.all stands.1.3 staged.all in
    absurd (omega (arith, long, stands.1.4, staged.few))
no_stream ds portal Memory unlike stands = absurd (unlike refl)

-- ---- the answer

-- the answer of a portal is that of the input that spells it
pub of_portal : {E : Type 0} (r : Result AuditAnswer E) (options : AuditOptions) (ds : List Dump) (input portal : List ℕ)
    → SpellsRecording input portal → IfOk r (AnswersPortal options ds portal) → IfOk r (AnswersStaged options ds input)
of_portal (Ok x) options ds input portal s ok = inl (portal, s, ok)
of_portal (Err e) options ds input portal s ok = tt

-- the answer of a stream is that of the portal that has it
pub of_stream : {E : Type 0} (r : Result AuditAnswer E) (options : AuditOptions) (ds : List Dump) (portal stream : List ℕ)
    → StagesStream ds portal stream → IfOk r (AnswersRecording options stream) → IfOk r (AnswersPortal options ds portal)
of_stream (Ok x) options ds portal stream s ok = inl (stream, s, ok)
of_stream (Err e) options ds portal stream s ok = tt
