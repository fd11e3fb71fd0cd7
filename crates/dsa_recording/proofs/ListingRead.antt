-- The list of a recording spells its operations.
use Rattle.std.proofs.Common.{◌≡◌, ℕ, suc, Bool, true, false, cond, Option, Some, None, List, [], ◌∷◌, ◌++◌, drop, length, refl, sym, ap, subst, ◌∙◌, append_assoc, arith}
use Rattle.std.specs.Prelude.{◌==◌, codes, decimal, map, slice_index_or}
use Rattle.std.specs.Fmt.{digits}
use Rattle.std.specs.List.{AllByRecursion, sum_by}
use Rattle.dsa_audit.specs.declared.member.Member.{Member}
use Rattle.dsa_audit.specs.declared.member.Member.TheVariants.{Known, Unknown}
use Rattle.dsa_audit.specs.declared.needless.FenceUse.{FenceUse}
use Rattle.dsa_audit.specs.declared.needless.FenceUse.TheVariants.{NoFence, Needed, Held, Guarding, Signalling, GuardingAndSignalling, Needless}
use Rattle.dsa_audit.specs.declared.member.Unseen.{Unseen}
use Rattle.dsa_audit.specs.declared.member.Unseen.TheVariants.{Blank, Operation, Nested, Owner, Empty, Wrap}
use Rattle.dsa_descriptor.specs.Places.{code_at, flags_at}
use Rattle.dsa_operations.specs.declared.operation.Operation.{Operation as AnyOperation}
use Rattle.dsa_operations.specs.OperationFields.{OperationFields, AreListedFields, operation_fields}
use Rattle.dsa_operations.proofs.Same.{listed_of}
use Rattle.dsa_operations.specs.declared.listed_op.ListedOp.{ListedOp}
use Rattle.dsa_operations.specs.Listed.{listed_op}
use Rattle.dsa_lines.specs.Text.{line_text}
use Rattle.dsa_lines.specs.Texts.{lines_of, line_fields, all_fields, TextSpells}
use Rattle.dsa_lines.specs.Words.{words_of}
use Rattle.dsa_lines.proofs.LineLemmas.{is_line, line_append, canonical_is_line}
use Rattle.dsa_lines.proofs.Marks.{barrier_spells}
use Rattle.dsa_lines.proofs.ReadAgain.{line_before, nothing, digits_line, comment_after, comment_read, commented_read}
use Rattle.dsa_ranges.specs.declared.span.Touched.{Touched}
use Rattle.dsa_recording.specs.declared.stream.Submission.{Submission}
use Rattle.dsa_recording.specs.declared.submission.Audited.{Audited}
use Rattle.dsa_recording.specs.Listings.{stand_in, barrier_for, fence_line, is_apart_from_added, left_out, operation_line, plain_words, known_line, member_line, member_lines, submission_lines, left_words, left_count, listing_text, op_in_list, expects_bit, known_operation, member_operation, member_operations, listed_operations}
use Rattle.dsa_recording.specs.Furthers.{code_name}
use Rattle.dsa_recording.specs.EntryWords.{in_brackets, operation_words}
use Rattle.dsa_recording.specs.Totals.{member_count}
use Rattle.dsa_recording.specs.Words.{unseen_words}

-- ---- a line

-- the line is one, and spells these operations
record Reads (line : List ℕ) (here : List OperationFields) : Type 0 where
  is : is_line line ≡ true
  spells : line_fields (words_of line) ≡ Some here

decimal_line : (n : ℕ) → is_line (decimal n) ≡ true
decimal_line n = digits_line 10 n (omega arith) (omega arith)

chosen : (b : Bool) (this other : List ℕ) → is_line this ≡ true → is_line other ≡ true → is_line (cond b this other) ≡ true
chosen true this other here there = here
chosen false this other here there = there

name_line : (code : ℕ) → is_line (code_name code) ≡ true
name_line code =
    chosen (code == 0x00) (codes "no-op") _ refl
    (chosen (code == 0x02) (codes "drain") _ refl
    (chosen (code == 0x07) (codes "create delta") _ refl
    (chosen (code == 0x0a) (codes "translation fetch") _ refl
    (chosen (code == 0x10) (codes "CRC") _ refl
    (chosen (code == 0x11) (codes "copy with CRC") _ refl
    (chosen (code == 0x12) (codes "DIF check") _ refl
    (chosen (code == 0x13) (codes "DIF insert") _ refl
    (chosen (code == 0x14) (codes "DIF strip") _ refl
    (chosen (code == 0x15) (codes "DIF update") _ refl
    (chosen (code == 0x17) (codes "DIX generate") _ refl
    (chosen (code == 0x20) (codes "cache flush") _ refl refl)))))))))))

named_line : (name : List ℕ) → is_line name ≡ true → is_line (in_brackets name) ≡ true
named_line [] e = refl
named_line (letter ∷ letters) e =
    line_append (codes " (") ((letter ∷ letters) ++ codes ")") refl (line_append (letter ∷ letters) (codes ")") e refl)

operation_is_line : (code : ℕ) → is_line (operation_words code) ≡ true
operation_is_line code =
    line_append (codes "operation 0x") (digits 16 false code ++ in_brackets (code_name code)) refl
    (line_append (digits 16 false code) (in_brackets (code_name code)) (digits_line 16 code (omega arith) (omega arith)) (named_line (code_name code) (name_line code)))

plain_is_line : (code : ℕ) → is_line (plain_words code) ≡ true
plain_is_line code =
    chosen (code == 0) (codes "left out: a no-op") (codes "left out: " ++ operation_words code) refl
    (line_append (codes "left out: ") (operation_words code) refl (operation_is_line code))

unseen_line : (why : Unseen) (code : ℕ) → is_line (unseen_words why code) ≡ true
unseen_line Blank code = refl
unseen_line Operation code = line_append (codes "not looked at: ") (operation_words code) refl (operation_is_line code)
unseen_line Nested code = refl
unseen_line Owner code = refl
unseen_line Empty code = refl
unseen_line Wrap code = refl

left_out_reads : (number : ℕ) (why : List ℕ) → is_line why ≡ true → Reads (left_out number why) []
left_out_reads number why e =
    let reason : is_line (codes ", " ++ why) ≡ true = line_append (codes ", ") why refl e in
    let place : is_line (decimal number ++ (codes ", " ++ why)) ≡ true = line_append (decimal number) (codes ", " ++ why) (decimal_line number) reason in
    let comment : is_line (codes " entry " ++ (decimal number ++ (codes ", " ++ why))) ≡ true = line_append (codes " entry ") (decimal number ++ (codes ", " ++ why)) refl place in
    record { is = comment; spells = comment_read (codes " entry " ++ (decimal number ++ (codes ", " ++ why))) comment }

operation_reads : (number : ℕ) (e : List ℕ) (op : ListedOp) → AreListedFields (stand_in number e op) → Reads (operation_line number e op) (stand_in number e op ∷ [])
operation_reads number e op listed =
    let f : OperationFields = stand_in number e op in
    let comment : is_line (codes " entry " ++ decimal number) ≡ true = line_append (codes " entry ") (decimal number) refl (decimal_line number) in
    record {
      is = line_append (line_text f) (codes " # entry " ++ decimal number) (canonical_is_line f listed) comment;
      spells = commented_read f (codes " entry " ++ decimal number) listed comment;
    }

-- whether it is apart from added records, and whether a list has what it expects
apart_reads : (apart fits : Bool) (number : ℕ) (e : List ℕ) (op : ListedOp) → AllByRecursion AreListedFields (cond apart (cond fits (stand_in number e op ∷ []) []) [])
    → Reads
    (cond apart (cond fits (operation_line number e op) (left_out number (codes "left out: its check expects another result than 0 or 1")))
    (left_out number (codes "left out: it touches addresses that this list keeps for records")))
    (cond apart (cond fits (stand_in number e op ∷ []) []) [])
apart_reads true true number e op all = operation_reads number e op all.0
apart_reads true false number e op all = left_out_reads number (codes "left out: its check expects another result than 0 or 1") refl
apart_reads false fits number e op all = left_out_reads number (codes "left out: it touches addresses that this list keeps for records") refl

known_reads : (count number : ℕ) (e : List ℕ) (t : Touched) (op : Option ListedOp) → AllByRecursion AreListedFields (known_operation count number e t op)
    → Reads (known_line count number e t op) (known_operation count number e t op)
known_reads count number e t None all = left_out_reads number (plain_words (code_at e)) (plain_is_line (code_at e))
known_reads count number e t (Some op) all = apart_reads (is_apart_from_added count t) (expects_bit (op_in_list op (flags_at e))) number e op all

member_reads : (count number : ℕ) (e : List ℕ) (m : Member) → AllByRecursion AreListedFields (member_operation count number e m)
    → Reads (member_line count number e m) (member_operation count number e m)
member_reads count number e (Known t) all = known_reads count number e t (listed_op e) all
member_reads count number e (Unknown why) all = left_out_reads number (unseen_words why (code_at e)) (unseen_line why (code_at e))

-- ---- lines

listed_parts : (fs gs : List OperationFields) → AllByRecursion AreListedFields (fs ++ gs) → AllByRecursion AreListedFields fs × AllByRecursion AreListedFields gs
listed_parts [] gs all = (tt, all)
listed_parts (f ∷ fs) gs all = let rest = listed_parts fs gs all.1 in ((all.0, rest.0), rest.1)

-- the line of a barrier for a fence
barrier_reads : (kind : List ℕ) (number : ℕ) → is_line kind ≡ true → Reads (barrier_for kind number) []
barrier_reads kind number e =
    let reason : is_line (codes " fence of entry " ++ decimal number) ≡ true = line_append (codes " fence of entry ") (decimal number) refl (decimal_line number) in
    let comment : is_line (32 ∷ (kind ++ (codes " fence of entry " ++ decimal number))) ≡ true = line_append (32 ∷ []) (kind ++ (codes " fence of entry " ++ decimal number)) refl (line_append kind (codes " fence of entry " ++ decimal number) e reason) in
    record {
      is = line_append (codes "barrier") (codes " # " ++ (kind ++ (codes " fence of entry " ++ decimal number))) refl comment;
      spells = ap line_fields (comment_after (codes "barrier") (32 ∷ (kind ++ (codes " fence of entry " ++ decimal number))) comment) ∙ barrier_spells;
    }

kind_read : (kind : List ℕ) (number : ℕ) (rest : List ℕ) (more : List OperationFields) → is_line kind ≡ true → TextSpells rest more → TextSpells ((barrier_for kind number ++ 10 ∷ []) ++ rest) more
kind_read kind number rest more e spells =
    let reads : Reads (barrier_for kind number) [] = barrier_reads kind number e in
    line_before (barrier_for kind number) rest [] more reads.is reads.spells spells

fence_reads : (number : ℕ) (used : FenceUse) (rest : List ℕ) (more : List OperationFields) → TextSpells rest more → TextSpells (fence_line number used ++ rest) more
fence_reads number NoFence rest more e = e
fence_reads number (Needed earlier later) rest more e = e
fence_reads number Held rest more e = kind_read (codes "held") number rest more refl e
fence_reads number (Guarding earlier) rest more e = kind_read (codes "guarding") number rest more refl e
fence_reads number (Signalling awaited) rest more e = kind_read (codes "signalling") number rest more refl e
fence_reads number (GuardingAndSignalling earlier awaited) rest more e = kind_read (codes "guarding and signalling") number rest more refl e
fence_reads number Needless rest more e = e

-- the lines of members are before others
members_read : (es : List (List ℕ)) (at : ℕ) (ms : List Member) (uses : List FenceUse) (rest : List ℕ) (more : List OperationFields) → AllByRecursion AreListedFields (member_operations es at ms)
    → TextSpells rest more → TextSpells (member_lines es at ms uses ++ rest) (member_operations es at ms ++ more)
unfolding member_lines member_operations
members_read es at [] uses rest more all e = e
members_read es at (m ∷ ms) uses rest more all e =
    let entry : List ℕ = slice_index_or es at [] in
    let line : List ℕ = member_line (length es) at entry m in
    let here : List OperationFields = member_operation (length es) at entry m in
    let parts = listed_parts here (member_operations es (suc at) ms) all in
    let reads : Reads line here = member_reads (length es) at entry m parts.0 in
    let fence : List ℕ = fence_line at (slice_index_or uses 0 NoFence) in
    let lines : List ℕ = member_lines es (suc at) ms (drop 1 uses) in
    ap (λ (t : List ℕ). all_fields (lines_of t)) (append_assoc fence ((line ++ 10 ∷ []) ++ lines) rest ∙ ap (λ (t : List ℕ). fence ++ t) (append_assoc (line ++ 10 ∷ []) lines rest))
    ∙ fence_reads at (slice_index_or uses 0 NoFence) ((line ++ 10 ∷ []) ++ (lines ++ rest)) (here ++ (member_operations es (suc at) ms ++ more))
    (line_before line (lines ++ rest) here (member_operations es (suc at) ms ++ more) reads.is reads.spells
    (members_read es (suc at) ms (drop 1 uses) rest more parts.1 e))
    ∙ ap Some (sym (append_assoc here (member_operations es (suc at) ms) more))

listed_reads : (es : List (List ℕ)) (ss : List Submission) (audits : List Audited) → AllByRecursion AreListedFields (listed_operations es ss audits)
    → TextSpells (submission_lines es ss audits) (listed_operations es ss audits)
unfolding submission_lines listed_operations
listed_reads es [] audits all = nothing
listed_reads es (s ∷ ss) [] all = nothing
listed_reads es (s ∷ ss) (a ∷ audits) all =
    let parts = listed_parts (member_operations es s.first a.members.items) (listed_operations es ss audits) all in
    members_read es s.first a.members.items a.audit.reduced.uses.items (submission_lines es ss audits) (listed_operations es ss audits) parts.0 (listed_reads es ss audits parts.1)

-- ---- the line that says how many are left out

left_comment : (left total : ℕ) → Reads (left_words left total) []
left_comment left total =
    let last : List ℕ = codes " operations, each for the reason in its comment: no plan has them, and no cost counts them" in
    let of_all : is_line (codes " of " ++ (decimal total ++ last)) ≡ true = line_append (codes " of ") (decimal total ++ last) refl (line_append (decimal total) last (decimal_line total) refl) in
    let comment : is_line (codes " left out: " ++ (decimal left ++ (codes " of " ++ (decimal total ++ last)))) ≡ true =
    line_append (codes " left out: ") (decimal left ++ (codes " of " ++ (decimal total ++ last))) refl (line_append (decimal left) (codes " of " ++ (decimal total ++ last)) (decimal_line left) of_all) in
    record { is = comment; spells = comment_read (codes " left out: " ++ (decimal left ++ (codes " of " ++ (decimal total ++ last)))) comment }

left_read : (empty none : Bool) (left total : ℕ) (rest : List ℕ) (more : List OperationFields) → TextSpells rest more
    → TextSpells (cond empty (codes "# this list is empty: the recording has no operations" ++ 10 ∷ []) (cond none [] (left_words left total ++ 10 ∷ [])) ++ rest) more
left_read true none left total rest more e =
    let comment : List ℕ = codes " this list is empty: the recording has no operations" in
    line_before (35 ∷ comment) rest [] more refl (comment_read comment refl) e
left_read false true left total rest more e = e
left_read false false left total rest more e =
    let reads : Reads (left_words left total) [] = left_comment left total in
    line_before (left_words left total) rest [] more reads.is reads.spells e

all_listed : (os : List AnyOperation) → AllByRecursion AreListedFields (map operation_fields os)
all_listed [] = tt
all_listed (o ∷ os) = (listed_of o, all_listed os)

pub listing_is_read : (es : List (List ℕ)) (ss : List Submission) (audits : List Audited) (os : List AnyOperation) → listed_operations es ss audits ≡ map operation_fields os
    → TextSpells (listing_text es ss audits) (listed_operations es ss audits)
listing_is_read es ss audits os e =
    let left : ℕ = left_count es ss audits in
    left_read (sum_by member_count audits == 0) (left == 0) left (sum_by member_count audits) (submission_lines es ss audits) (listed_operations es ss audits)
    (listed_reads es ss audits (subst (AllByRecursion AreListedFields) (sym e) (all_listed os)))
