-- What is written for jobs, step by step.
use Rattle.std.proofs.Common.{◌≡◌, ◌⊎◌, inl, inr, ℕ, zero, suc, ◌+◌, ◌<◌, ◌≤◌, Option, Some, None, List, [], ◌∷◌, ◌++◌, length, take, refl, sym, ap, ◌∙◌, subst, append_assoc, append-nil, length-append, arith}
use Rattle.std.specs.Io.KnownBytes.{Appends}
use Rattle.std.proofs.KnownBytes.{Appends-nil, Appends-trans}
use Rattle.std.proofs.Math.Seq.{take-append-add}
use Rattle.dsa_report.specs.Answer.{Answer}
use Rattle.dsa_report.specs.Gives.{WritesAnswer, WritesPrefix}
use Rattle.dsa_jobs.specs.declared.line.Line.{Line}
use Rattle.dsa_jobs.specs.Jobs.{lines_of, ended_of, jobs_of}
use Rattle.dsa_jobs.specs.Writes.{AnswersEach, WritesLines, WritesPart}
use Rattle.dsa_jobs.specs.Held.{Holds, HasNoNewline, HasServed, with_newlines}
use Rattle.dsa_jobs.proofs.Splits.{jobs_joined, ended_joined, last_is_job, with_newlines-append, no_newline-append, have_no_newline-append}

-- one more line answers one more text
answers_more : (texts : List (List ℕ)) (bytes text line : List ℕ) (status : ℕ) → AnswersEach texts bytes → Answer text line status
    → AnswersEach (texts ++ (text ∷ [])) (bytes ++ line)
answers_more [] bytes text line status none answer = (line, status, [], answer, refl, ap (λ (t : List ℕ). t ++ line) none ∙ sym (append-nil line))
answers_more (first ∷ texts) bytes text line status (front, state, later, is, rest, joined) answer = (
  front,
  state,
  later ++ line,
  is,
  answers_more texts later text line status rest answer,
  ap (λ (t : List ℕ). t ++ line) joined ∙ append_assoc front later line,
)

-- nothing was read, and nothing was written
pub served_none : (line : Line) (known : Option (List ℕ)) → Holds line [] → HasServed [] line known known
served_none line known held = record {
  ended = [];
  begun = [];
  parts = refl;
  plain = tt;
  unended = tt;
  held = held;
  written = ([], refl, Appends-nil known);
}

-- bytes without a newline were read
pub served_added : (seen part : List ℕ) (line grown : Line) (start known : Option (List ℕ)) → HasServed seen line start known → HasNoNewline part
    → ((text : List ℕ) → Holds line text → Holds grown (text ++ part)) → HasServed (seen ++ part) grown start known
served_added seen part line grown start known so_far plain holds = record {
  ended = so_far.ended;
  begun = so_far.begun ++ part;
  parts = ap (λ (t : List ℕ). t ++ part) so_far.parts ∙ append_assoc _ so_far.begun part;
  plain = so_far.plain;
  unended = no_newline-append so_far.begun part so_far.unended plain;
  held = holds so_far.begun so_far.held;
  written = so_far.written;
}

-- what was read of a line, and its newline
parts_ended : (seen : List ℕ) (line : Line) (start known : Option (List ℕ)) (so_far : HasServed seen line start known)
    → seen ++ (10 ∷ []) ≡ with_newlines (so_far.ended ++ (so_far.begun ∷ []))
parts_ended seen line start known so_far =
    ap (λ (t : List ℕ). t ++ (10 ∷ [])) so_far.parts ∙ append_assoc (with_newlines so_far.ended) so_far.begun (10 ∷ [])
    ∙ sym (with_newlines-append so_far.ended so_far.begun)

-- a newline was read, and the line that it ends was answered
pub served_line : (seen : List ℕ) (line cleared : Line) (start old new : Option (List ℕ)) → HasServed seen line start old
    → ((text : List ℕ) → Holds line text → (status : ℕ) × WritesAnswer text status old new) → Holds cleared [] → HasServed (seen ++ (10 ∷ [])) cleared start new
served_line seen line cleared start old new so_far answers empty =
    let (status, wrote) = answers so_far.begun so_far.held in
    let (bytes, answer, grown) = wrote in
    let (before, each, first) = so_far.written in
    record {
      ended = so_far.ended ++ (so_far.begun ∷ []);
      begun = [];
      parts = parts_ended seen line start old so_far ∙ sym (append-nil _);
      plain = have_no_newline-append so_far.ended so_far.begun so_far.plain so_far.unended;
      unended = tt;
      held = empty;
      written = (before ++ bytes, answers_more so_far.ended before so_far.begun bytes status each answer, Appends-trans start old new before bytes first grown);
    }

-- a part of one more line was written
part_more : (texts later : List (List ℕ)) (text : List ℕ) (start old new : Option (List ℕ)) → WritesLines texts start old → WritesPrefix text old new
    → WritesPart ((texts ++ (text ∷ [])) ++ later) start new
part_more texts later text start old new (before, each, first) (line, status, n, answer, short, part) = (
  texts ++ (text ∷ []),
  later,
  before ++ line,
  length before + n,
  refl,
  answers_more texts before text line status each answer,
  omega (arith, short, length-append before line),
  subst (Appends start new) (sym (take-append-add before line n)) (Appends-trans start old new before (take n line) first part),
)

-- writing failed within the line of a job that a newline ends
pub part_of_line : (seen more : List ℕ) (line : Line) (start old new : Option (List ℕ)) → HasServed seen line start old
    → ((text : List ℕ) → Holds line text → WritesPrefix text old new) → WritesPart (jobs_of ((seen ++ (10 ∷ [])) ++ more)) start new
part_of_line seen more line start old new so_far prefix =
    let ended = so_far.ended ++ (so_far.begun ∷ []) in
    let jobs : jobs_of ((seen ++ (10 ∷ [])) ++ more) ≡ ended ++ jobs_of more =
    ap (λ (t : List ℕ). jobs_of (t ++ more)) (parts_ended seen line start old so_far)
    ∙ jobs_joined ended more (have_no_newline-append so_far.ended so_far.begun so_far.plain so_far.unended) in
    subst (λ (ts : List (List ℕ)). WritesPart ts start new) (sym jobs)
    (part_more so_far.ended (jobs_of more) so_far.begun start old new so_far.written (prefix so_far.begun so_far.held))

-- the jobs of all that was read
jobs_seen : (seen : List ℕ) (line : Line) (start known : Option (List ℕ)) (so_far : HasServed seen line start known)
    → jobs_of seen ≡ so_far.ended ++ jobs_of so_far.begun
jobs_seen seen line start known so_far = ap jobs_of so_far.parts ∙ jobs_joined so_far.ended so_far.begun so_far.plain

-- the lines that were read to their newlines
pub ended_served : (seen : List ℕ) (line : Line) (start known : Option (List ℕ)) → HasServed seen line start known → WritesLines (ended_of seen) start known
ended_served seen line start known so_far =
    let is : ended_of seen ≡ so_far.ended = ap ended_of so_far.parts ∙ ended_joined so_far.ended so_far.begun so_far.plain so_far.unended in
    subst (λ (ts : List (List ℕ)). WritesLines ts start known) (sym is) so_far.written

begun_is_job : (begun : List ℕ) → HasNoNewline begun → ((begun ≡ []) → ⊥) → jobs_of begun ≡ begun ∷ []
begun_is_job [] plain some = absurd (some refl)
begun_is_job (c ∷ cs) plain some = last_is_job c cs plain

jobs_last : (seen : List ℕ) (line : Line) (start known : Option (List ℕ)) (so_far : HasServed seen line start known)
    → ((text : List ℕ) → Holds line text → (text ≡ []) → ⊥) → jobs_of seen ≡ so_far.ended ++ (so_far.begun ∷ [])
jobs_last seen line start known so_far some =
    jobs_seen seen line start known so_far
    ∙ ap (λ (ts : List (List ℕ)). so_far.ended ++ ts) (begun_is_job so_far.begun so_far.unended (some so_far.begun so_far.held))

-- nothing is left of the text
pub all_ended : (seen : List ℕ) (line : Line) (start known : Option (List ℕ)) → ((text : List ℕ) → Holds line text → text ≡ []) → HasServed seen line start known
    → WritesLines (jobs_of seen) start known
unfolding lines_of
all_ended seen line start known none so_far =
    let is : jobs_of seen ≡ so_far.ended =
    jobs_seen seen line start known so_far ∙ ap (λ (t : List ℕ). so_far.ended ++ jobs_of t) (none so_far.begun so_far.held) ∙ append-nil so_far.ended in
    subst (λ (ts : List (List ℕ)). WritesLines ts start known) (sym is) so_far.written

-- the last line was answered
pub last_served : (seen : List ℕ) (line : Line) (start old new : Option (List ℕ)) → ((text : List ℕ) → Holds line text → (text ≡ []) → ⊥)
    → ((text : List ℕ) → Holds line text → (status : ℕ) × WritesAnswer text status old new) → HasServed seen line start old → WritesLines (jobs_of seen) start new
last_served seen line start old new some answers so_far =
    let (status, wrote) = answers so_far.begun so_far.held in
    let (bytes, answer, grown) = wrote in
    let (before, each, first) = so_far.written in
    subst (λ (ts : List (List ℕ)). WritesLines ts start new) (sym (jobs_last seen line start old so_far some))
    (before ++ bytes, answers_more so_far.ended before so_far.begun bytes status each answer, Appends-trans start old new before bytes first grown)

-- writing failed within its line
pub last_part : (seen : List ℕ) (line : Line) (start old new : Option (List ℕ)) → ((text : List ℕ) → Holds line text → (text ≡ []) → ⊥)
    → ((text : List ℕ) → Holds line text → WritesPrefix text old new) → HasServed seen line start old → WritesPart (jobs_of seen) start new
last_part seen line start old new some prefix so_far =
    subst (λ (ts : List (List ℕ)). WritesPart ts start new) (sym (jobs_last seen line start old so_far some ∙ sym (append-nil _)))
    (part_more so_far.ended [] so_far.begun start old new so_far.written (prefix so_far.begun so_far.held))
