use Rattle.std.proofs.Common.{◌≡◌, ℕ, List, ◌++◌, true, false, sym, ap, ◌∙◌}
use Rattle.std.specs.Prelude.{codes, decimal, string_bytes}
use Rattle.std.proofs.lemmas.List.{append-nil}
use Rattle.dsa_lines.specs.Numbers.{hex}
use Rattle.dsa_lines.specs.Text.{text_of}
use Rattle.dsa_lines.specs.Stagings.{status_at, finished_at, byte_words, IsRecord}
use Rattle.dsa_lines.proofs.StagingTexts.{written_is}
use Rattle.dsa_lines.proofs.staged_record.written_text.Goals as goal

-- its status and how many finished
abbrev front : ℕ → ℕ → List ℕ
front status finished = codes ": status " ++ (hex status ++ (codes ", " ++ (decimal finished ++ codes " finished")))

pub returns-then-is_plain : goal.returns-then-is_plain
returns-then-is_plain c =
    let bytes = c.args.bytes.now in
    let is : IsRecord bytes = record { whole = c.told-bytes; are_bytes = c.fits-bytes } in
    c.in_ok-text.ensures ∙ ap (front (status_at bytes)) c.finished_at.ensures
    ∙ sym (append-nil (front (status_at bytes) (finished_at bytes)))
    ∙ sym (written_is true bytes is (sym c.is_plain.ensures ∙ c.if-is_plain.true))

pub returns : goal.returns
returns c =
    let bytes = c.args.bytes.now in
    let is : IsRecord bytes = record { whole = c.told-bytes; are_bytes = c.fits-bytes } in
    let text : string_bytes c.push_str.new.self ≡ front (status_at bytes) (finished_at bytes) ++ text_of (byte_words bytes) =
    cc (c.in_ok-push_str.ensures.bytes, c.in_ok-text.ensures, c.deref.ensures, c.in_ok-more.ensures, c.finished_at.ensures) in
    text ∙ sym (written_is false bytes is (sym c.is_plain.ensures ∙ c.if-is_plain.false))
