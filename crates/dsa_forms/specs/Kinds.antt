-- What an input is, by looking: a list or a recording as bytes or in a dump, a job, or lines (this project's choice).
use Rattle.std.specs.Prelude.{ℕ, ◌≡◌, ◌==◌, Bool, false, List, [], ◌∷◌, ◌++◌, codes, if◌then◌else◌}
use Rattle.std.specs.List.{AllByRecursion, list_any}
use Rattle.dsa_descriptor.specs.Lists.{entries}
use Rattle.dsa_descriptor.specs.Places.{code_at}
use Rattle.dsa_forms.specs.declared.kinds.InputKind.{InputKind}
use Rattle.dsa_forms.specs.declared.kinds.InputKind.TheVariants.{Bytes, Job, Dump, Lines}
use Rattle.dsa_forms.specs.Forms.{after_gap, begins_with_digits}

-- a byte is 0: no text has one, and each descriptor has some in its reserved bytes
abbrev pub is_binary : List ℕ → Bool
is_binary input = list_any (λ c. c == 0) input

-- the first byte is a brace
abbrev pub begins_with_brace : List ℕ → Bool
begins_with_brace [] = false
begins_with_brace (c ∷ cs) = c == 123

-- what an input is: bytes as they are, if it is binary; else a job, if its first byte that is no blank is a brace; a dump, if
-- its first word is of hexadecimal digits; else lines
abbrev pub kind_of : List ℕ → InputKind
kind_of input =
    if is_binary input then Bytes else
    if begins_with_brace (after_gap input) then Job else
    if begins_with_digits input then Dump else Lines

-- the entry is the descriptor of a batch (linux/idxd.h, DSA_OPCODE_BATCH)
abbrev pub is_batch : List ℕ → Bool
is_batch e = code_at e == 1

-- bytes are those of a recording, and not of a list, if some entry of 64 bytes is a batch: no list has one
abbrev pub has_batch : List ℕ → Bool
has_batch bytes = list_any is_batch (entries bytes)

-- ---- laws

-- with what lines of operations begin, also those that disassemble writes of a portal and a staging area
abbrev pub first_words : List (List ℕ)
first_words =
    codes "move" ∷ codes "fill" ∷ codes "compare" ∷ codes "delta" ∷ codes "dualcast" ∷ codes "barrier" ∷ codes "fence"
    ∷ codes "batch" ∷ codes "unknown" ∷ codes "#" ∷ []

-- a text that begins so is taken as lines, whatever comes after
abbrev pub LinesAreLines : Type 0
LinesAreLines =
    (rest : List ℕ) → is_binary rest ≡ false → AllByRecursion (λ word. kind_of (word ++ rest) ≡ Lines) first_words

-- inputs of each kind
abbrev pub SampleKinds : Type 0
SampleKinds =
    (kind_of [] ≡ Lines)
    × (kind_of (codes " \n barrier\n") ≡ Lines)
    × (kind_of (codes "add, and no digits") ≡ Lines)
    × (kind_of (codes "[[false,true]]") ≡ Lines)
    × (kind_of (codes "\n {") ≡ Job)
    × (kind_of (codes "00000000: 0000 0c03  ....\n") ≡ Dump)
    × (kind_of (codes "\n00000000  00 00 |..|\n") ≡ Dump)
    × (kind_of (codes "000c03") ≡ Dump)
    × (kind_of (123 ∷ 0 ∷ []) ≡ Bytes)
