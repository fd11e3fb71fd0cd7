-- What the parts of a recording come to, part by part.
use Rattle.std.proofs.Common.{◌≡◌, ◌≢◌, ◌≤◌, ◌/◌, ℕ, ◌+◌, inl, inr, true, false, List, [], ◌∷◌, ◌++◌, Option, Some, None, length, map, is_some, take, drop, take-append-drop, refl, sym, ap, subst, ◌∙◌, arith, length-append, append-nil, append_assoc}
use Rattle.std.proofs.KnownBytes.{Consumes-trans}
use Rattle.std.proofs.Math.Seq.{take-append_seam}
use Rattle.std.specs.Io.KnownBytes.{Consumes}
use Rattle.std.specs.Prelude.{Result, Ok, Err, OnOk}
use Rattle.dsa_descriptor.specs.Lists.{entries}
use Rattle.dsa_descriptor.proofs.Entries.{length-chunks}
use Rattle.dsa_recording.specs.declared.accepted.Accepted.{Accepted}
use Rattle.dsa_recording.specs.declared.answer.AuditAnswer.{AuditAnswer}
use Rattle.dsa_recording.specs.declared.answer.AuditOptions.{AuditOptions}
use Rattle.dsa_recording.specs.declared.foreign.Foreign.{Foreign}
use Rattle.dsa_recording.specs.declared.stream.StreamFault.{StreamFault}
use Rattle.dsa_recording.specs.declared.stream.StreamFault.TheVariants.{Length, CutOff, Memory}
use Rattle.dsa_recording.specs.declared.stream.Submission.{Submission}
use Rattle.dsa_recording.specs.Answers.{Refuses}
use Rattle.dsa_forms.specs.Forms.{IsText}
use Rattle.dsa_recording.specs.Inputs.{AnswersInput}
use Rattle.dsa_recording.specs.Inputs.SpellsRecording.{as_it_stands}
use Rattle.dsa_recording.specs.Foreign.{AnswersEntries, HasOwnMembers, LacksMembers}
use Rattle.dsa_recording.specs.declared.reading.ReadFault.{ReadFault}
use Rattle.dsa_recording.specs.declared.reading.ReadFault.TheVariants.{Failed, TooLong, Memory as NoMemory}
use Rattle.dsa_recording.specs.Parts.{AnswersRead, AnswersWhole, HasOutcomeAfter, IsReadWhole, IsSoFarBy}
use Rattle.dsa_recording.specs.Streams.{IsStreamFault, ReadsStream, ReadsUpTo, end_of, submission_at}
use Rattle.dsa_recording.proofs.Chain.{whole_not_cut}
use Rattle.dsa_recording.proofs.Extended.{outcome_joined, reads_first, reads_second}
use Rattle.dsa_recording.proofs.Lacking.{lacks_after, lacks_before, own_joined}
use Rattle.dsa_recording.proofs.Middle.{end_moved, entries_joined, moved, reads_joined, submission_moved}

-- the bytes so far are a recording
so_far_reads : (o : Option Foreign) (options : AuditOptions) (bytes : List ℕ) (status : ℕ) (used : Accepted) → IsSoFarBy o options bytes status used → (list : List Submission) × ReadsStream bytes list
so_far_reads None options bytes status used (own, has) = (has.report.submissions, has.is_report.submissions)
so_far_reads (Some foreign) options bytes status used (list, reads, lacks) = (list, reads)

pub passed : {E : Type 0} (r : Result Unit E) (o : Option Foreign) (options : AuditOptions) (part : List ℕ) (status : ℕ) (used : Accepted) → is_some o ≡ true
    → OnOk r ((list : List Submission) × ReadsStream part list)
    → OnOk r ((bytes : List ℕ) → IsSoFarBy o options bytes status used → IsSoFarBy o options (bytes ++ part) status used)
passed (Ok x) (Some foreign) options part status used e (list, reads) = λ bytes lacks. lacks_before bytes part list lacks reads
passed (Ok x) None options part status used e reads = absurd cc
passed (Err x) o options part status used e reads = tt

pub lacking_now : (o : Option Foreign) (options : AuditOptions) (bytes part : List ℕ) (status : ℕ) (used : Accepted) → is_some o ≡ false → IsSoFarBy o options bytes status used
    → LacksMembers part → LacksMembers (bytes ++ part)
lacking_now None options bytes part status used e (own, has) lacks = lacks_after bytes part has.report.submissions has.is_report.submissions lacks
lacking_now (Some foreign) options bytes part status used e so_far lacks = absurd cc

pub added : {E : Type 0} (r : Result Unit E) (o next : Option Foreign) (options : AuditOptions) (part : List ℕ) (old new : ℕ) (used more : Accepted) → is_some o ≡ false → next ≡ o
    → HasOwnMembers part → OnOk r (HasOutcomeAfter options part old new used more)
    → OnOk r ((bytes : List ℕ) → IsSoFarBy o options bytes old used → IsSoFarBy next options (bytes ++ part) new more)
added (Ok x) None next options part old new used more e same own after = λ bytes (own', has).
    subst (λ (o : Option Foreign). IsSoFarBy o options (bytes ++ part) new more) (sym same) (
      own_joined bytes part has.report.submissions after.report.submissions has.is_report.submissions after.is_report.submissions own' own,
      outcome_joined options bytes part old new used more has after,
    )
added (Ok x) (Some foreign) next options part old new used more e same own after = absurd cc
added (Err x) o next options part old new used more e same own after = tt

-- ---- a recording that ends early

cut_after : (a b : List ℕ) (ss list : List Submission) (at : ℕ) → ReadsStream a ss → IsStreamFault b (CutOff at) → ReadsStream (a ++ b) list → ⊥
cut_after a b ss list at first (whole, (before, reads, lt, cut)) all =
    let es : List (List ℕ) = entries a in
    let fs : List (List ℕ) = entries b in
    let joined : entries (a ++ b) ≡ es ++ fs = entries_joined a b first.whole in
    let there : ReadsUpTo (es ++ fs) 0 (ss ++ map (moved (length es)) before) (length es + at) =
    reads_joined (es ++ fs) 0 (length es) (length es + at) ss (map (moved (length es)) before) (reads_first es fs (length es) ss first.all) (reads_second es fs at before reads) in
    let long : length (es ++ fs) ≡ length es + length fs = length-append es fs in
    let same : submission_at (es ++ fs) (length es + at) ≡ moved (length es) (submission_at fs at) =
    subst (λ (l : List (List ℕ)). submission_at (es ++ l) (length es + at) ≡ moved (length es) (submission_at fs at)) (append-nil fs) (submission_moved es fs [] at lt) in
    let end : end_of (submission_at (es ++ fs) (length es + at)) ≡ length es + end_of (submission_at fs at) =
    ap end_of same ∙ end_moved (length es) (submission_at fs at) in
    let read_all : ReadsUpTo (es ++ fs) 0 list (length (es ++ fs)) = subst (λ (l : List (List ℕ)). ReadsUpTo l 0 list (length l)) joined all.all in
    whole_not_cut (es ++ fs) 0 (length es + at) list (ss ++ map (moved (length es)) before) read_all there (omega (arith, lt, long)) (omega (arith, cut, long, end))

none_after : (a b : List ℕ) (ss : List Submission) (fault : StreamFault) → ReadsStream a ss → fault ≢ Memory → IsStreamFault b fault
    → (list : List Submission) → ¬ ReadsStream (a ++ b) list
none_after a b ss Length first unlike part list all =
    let long : length (a ++ b) ≡ length a + length b = length-append a b in
    part (omega (arith, long, first.whole, all.whole))
none_after a b ss (CutOff at) first unlike cut list all = cut_after a b ss list at first cut all
none_after a b ss Memory first unlike fault list all = unlike refl

-- the refusal of a recording whose last bytes have a fault
pub faulted : (o : Option Foreign) (options : AuditOptions) (bytes last : List ℕ) (status : ℕ) (used : Accepted) (fault : StreamFault) (answer : AuditAnswer) → IsSoFarBy o options bytes status used
    → fault ≢ Memory → IsStreamFault last fault → Refuses answer → AnswersEntries options (bytes ++ last) answer
faulted o options bytes last status used fault answer so_far unlike is refused =
    let read = so_far_reads o options bytes status used so_far in
    let none : (list : List Submission) → ¬ ReadsStream (bytes ++ last) list = none_after bytes last read.0 fault read.1 unlike is in
    inl (λ list reads lacks. none list reads, inr (refused, none))

-- ---- what is read

text_front : (xs ys : List ℕ) → IsText (xs ++ ys) → IsText xs
text_front [] ys text = tt
text_front (x ∷ xs) ys (here, text) = (here, text_front xs ys text)

-- bytes of an entry have one
has_entry : (bytes : List ℕ) → 64 ≤ length bytes → entries bytes ≢ []
has_entry bytes long none =
    let count : length (entries bytes) ≡ length bytes / 64 = length-chunks (length bytes / 64) bytes in
    let no : length (entries bytes) ≡ 0 = ap length none in
    omega (arith, count, no, long)

-- the parts and the last of the buffer have an entry, if what was read first has
pub some_entry : (first bytes more buffer last : List ℕ) → 64 ≤ length first → first ++ more ≡ bytes ++ buffer → last ≡ buffer
    → entries (bytes ++ last) ≢ []
some_entry first bytes more buffer last long whole is =
    let same : first ++ more ≡ bytes ++ last = whole ∙ ap (λ (l : List ℕ). bytes ++ l) (sym is) in
    let enough : 64 ≤ length (first ++ more) = omega (arith, length-append first more, long) in
    has_entry (bytes ++ last) (subst (λ (l : List ℕ). 64 ≤ length l) same enough)

-- the answer to the parts and the last of the buffer is that of all that was read
pub answered : (options : AuditOptions) (first bytes more buffer last : List ℕ) (a : AuditAnswer) → ¬ IsText first → first ++ more ≡ bytes ++ buffer → last ≡ buffer
    → AnswersEntries options (bytes ++ last) a → AnswersInput options (first ++ more) a
answered options first bytes more buffer last a no_text whole is answer =
    let same : bytes ++ last ≡ first ++ more = ap (λ (l : List ℕ). bytes ++ l) is ∙ sym whole in
    inl (first ++ more, as_it_stands (λ text. no_text (text_front first more text)) refl, subst (λ (l : List ℕ). AnswersEntries options l a) same answer)

-- a part moves from the buffer to the parts
pub read_on : (first more bytes buffer next part kept now there filled : List ℕ) (size : ℕ) → first ++ more ≡ bytes ++ buffer → now ≡ buffer → there ≡ buffer
    → part ≡ take size now → kept ≡ drop size there → filled ≡ kept ++ next → first ++ (more ++ next) ≡ (bytes ++ part) ++ filled
read_on first more bytes buffer next part kept now there filled size whole is is' part_is kept_is filled_is =
    let cut : part ++ kept ≡ buffer =
    ap (λ (l : List ℕ). l ++ kept) (part_is ∙ ap (take size) is) ∙ (ap (λ (l : List ℕ). take size buffer ++ l) (kept_is ∙ ap (drop size) is') ∙ take-append-drop size buffer) in
    sym (append_assoc first more next) ∙ (ap (λ (l : List ℕ). l ++ next) (whole ∙ ap (λ (l : List ℕ). bytes ++ l) (sym cut))
    ∙ (ap (λ (l : List ℕ). l ++ next) (sym (append_assoc bytes part kept)) ∙ (append_assoc (bytes ++ part) kept next ∙ ap (λ (l : List ℕ). (bytes ++ part) ++ l) (sym filled_is))))

-- a recording that begins with a part which is a text is read as a whole
is_read_whole : (options : AuditOptions) (first more : List ℕ) → IsText first → length first ≡ 1048576 → IsReadWhole options (first ++ more)
is_read_whole options first more text full =
    let part : take 1048576 (first ++ more) ≡ first = ap (λ n. take n (first ++ more)) (sym full) ∙ take-append_seam first more in
    inr (subst IsText (sym part) text)

-- what is read of it after that part is what is read of all
pub read_whole : (options : AuditOptions) (old middle new : Option (List ℕ)) (first : List ℕ) (result : Result AuditAnswer ReadFault)
    → Consumes old middle first → IsText first → length first ≡ 1048576 → AnswersWhole options first middle new result → AnswersRead options old new result
read_whole options old middle new first (Ok answer) begun text full (more, read, ended, answers) =
    (first ++ more, Consumes-trans old middle new first more begun read, ended, answers)
read_whole options old middle new first (Err Failed) begun text full x = tt
read_whole options old middle new first (Err TooLong) begun text full (more, read, long) =
    (first ++ more, Consumes-trans old middle new first more begun read, long, is_read_whole options first more text full)
read_whole options old middle new first (Err NoMemory) begun text full x = tt
