-- What is gathered of the lines of a text, one line after another.
use Rattle.std.proofs.Common.{◌≡◌, ℕ, ◌+◌, Bool, false, Some, List, [], ◌∷◌, ◌++◌, length, map, refl, sym, ap, subst, ◌∙◌, append_assoc, length-append, arith}
use Rattle.std.proofs.lemmas.List.{append-nil}
use Rattle.dsa_operations.specs.OperationFields.{OperationFields, all_spelled}
use Rattle.dsa_lines.specs.declared.fault.TextFault.{TextFault}
use Rattle.dsa_lines.specs.declared.text_list.Gathered.{Gathered}
use Rattle.dsa_lines.specs.declared.text_list.OperationLine.{OperationLine}
use Rattle.dsa_lines.specs.Words.{words_of}
use Rattle.dsa_lines.specs.Texts.{all_fields, line_fields}
use Rattle.dsa_lines.specs.Barriers.{line_kind, line_marks, marks_from}
use Rattle.dsa_lines.specs.TextLists.{HasAll, HasMore, NamesLine, NumberedLine, Stops, StopsAt, line_shown, numbered, operation_lines}
use Rattle.dsa_lines.proofs.AnswerLemmas.{stops_there}
use Rattle.dsa_lines.proofs.Marks.{marks_next, no_marks}
use Rattle.dsa_lines.proofs.TextLemmas.{fields_more, no_fields, spelling_append}

-- what was gathered of the lines before those that are left; the next one has this number
pub record Sofar (keep : Bool) (whole left : List (List ℕ)) (number : ℕ) (pending : Bool) (g : Gathered) : Type 0 where
  pub before : List (List ℕ)
  pub done : List OperationFields
  pub whole_is : whole ≡ before ++ left
  pub number_is : number ≡ length before + 1
  pub spelled : all_fields before ≡ Some done
  pub bytes : g.bytes.items ≡ all_spelled done
  pub marks : g.marks.items ++ marks_from keep pending left ≡ marks_from keep false whole
  pub numbers : map line_shown g.lines.items ++ operation_lines number left ≡ operation_lines 1 whole

pub nothing_yet : (keep : Bool) (whole : List (List ℕ)) (g : Gathered) → g.bytes.items ≡ [] → g.marks.items ≡ [] → g.lines.items ≡ [] → Sofar keep whole whole 1 false g
nothing_yet keep whole g bytes marks lines = record {
  before = [];
  done = [];
  whole_is = refl;
  number_is = refl;
  spelled = no_fields;
  bytes = bytes;
  marks = ap (λ (ms : List Bool). ms ++ marks_from keep false whole) marks;
  numbers = ap (λ ls. map line_shown ls ++ operation_lines 1 whole) lines;
}

lines_next : (number : ℕ) (line : List ℕ) (lines : List (List ℕ)) → operation_lines number (line ∷ lines) ≡ numbered number line (line_kind (words_of line)) ++ operation_lines (number + 1) lines
unfolding operation_lines
lines_next number line lines = refl

no_numbers : (number : ℕ) → operation_lines number [] ≡ []
unfolding operation_lines
no_numbers number = refl

-- what is added moves from what is left to what was gathered
moved : {A : Type 0} (before after here rest all whole : List A) → after ≡ before ++ here → all ≡ here ++ rest → before ++ all ≡ whole → after ++ rest ≡ whole
moved before after here rest all whole pushed is so_far =
    ap (λ xs. xs ++ rest) pushed ∙ append_assoc before here rest ∙ ap (λ xs. before ++ xs) (sym is) ∙ so_far

-- with one line more
pub more : (keep pending next : Bool) (whole all lines : List (List ℕ)) (line : List ℕ) (number : ℕ) (g g' : Gathered) → Sofar keep whole all number pending g
    → all ≡ line ∷ lines → HasMore keep pending number line g g' next → Sofar keep whole lines (number + 1) next g'
more keep pending next whole all lines line number g g' s is m =
    record {
      before = s.before ++ line ∷ [];
      done = s.done ++ m.here;
      whole_is = s.whole_is ∙ ap (λ (ls : List (List ℕ)). s.before ++ ls) is ∙ sym (append_assoc s.before (line ∷ []) lines);
      number_is = omega (arith, s.number_is, length-append s.before (line ∷ []));
      spelled = fields_more s.before line s.done m.here s.spelled m.spelled;
      bytes = m.bytes ∙ ap (λ (b : List ℕ). b ++ all_spelled m.here) s.bytes ∙ sym (spelling_append s.done m.here);
      marks = moved g.marks.items g'.marks.items (line_marks keep pending (line_kind (words_of line))) (marks_from keep next lines) (marks_from keep pending all) _ m.marks
          (ap (marks_from keep pending) is ∙ marks_next keep pending line lines ∙ ap (λ (p : Bool). line_marks keep pending (line_kind (words_of line)) ++ marks_from keep p lines) (sym m.next_is)) s.marks;
      numbers = moved (map line_shown g.lines.items) (map line_shown g'.lines.items) (numbered number line (line_kind (words_of line))) (operation_lines (number + 1) lines) (operation_lines number all) _ m.lines
          (ap (operation_lines number) is ∙ lines_next number line lines) s.numbers;
    }

ended : {A : Type 0} (gathered rest whole : List A) → rest ≡ [] → gathered ++ rest ≡ whole → gathered ≡ whole
ended gathered rest whole none e = sym (append-nil gathered) ∙ ap (λ xs. gathered ++ xs) (sym none) ∙ e

-- when no line is left
pub all_gathered : (keep pending : Bool) (whole : List (List ℕ)) (number : ℕ) (g : Gathered) → Sofar keep whole [] number pending g → HasAll keep whole g
all_gathered keep pending whole number g s = record {
  operations = s.done;
  spelled = ap all_fields (s.whole_is ∙ append-nil s.before) ∙ s.spelled;
  bytes = s.bytes;
  marks = ended g.marks.items (marks_from keep pending []) _ (no_marks keep pending) s.marks;
  numbers = ended (map line_shown g.lines.items) (operation_lines number []) _ (no_numbers number) s.numbers;
}

-- when the next line leaves the grammar, or memory runs out
pub stopped : (keep pending : Bool) (whole all lines : List (List ℕ)) (line : List ℕ) (number : ℕ) (g : Gathered) (fault : TextFault) → Sofar keep whole all number pending g
    → all ≡ line ∷ lines → StopsAt number (line_fields (words_of line)) fault → Stops whole fault
stopped keep pending whole all lines line number g fault s is stops =
    stops_there number (line_fields (words_of line)) whole fault (λ outside. record {
      before = s.before;
      line = line;
      after = lines;
      lines_are = s.whole_is ∙ ap (λ (ls : List (List ℕ)). s.before ++ ls) is;
      number_is = s.number_is;
      spelled = (s.done, s.spelled);
      outside = outside;
    }) stops

-- ---- the line of a fault

pub listed_names : (lines slice : List OperationLine) (numbers : List NumberedLine) (reported : TextFault) → slice ≡ lines → map line_shown lines ≡ numbers
    → NamesLine (map line_shown slice) reported → NamesLine numbers reported
listed_names lines slice numbers reported same shown names = subst (λ ls. NamesLine ls reported) (ap (map line_shown) same ∙ shown) names
