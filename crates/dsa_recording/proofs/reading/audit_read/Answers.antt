use Rattle.std.proofs.Common.{◌≡◌, ◌≤◌, [], ◌++◌, ap, arith, length, max, refl, subst, sym, ◌∙◌}
use Rattle.std.specs.Io.KnownBytes.{Consumes}
use Rattle.dsa_forms.specs.Forms.{IsText}
use Rattle.dsa_recording.proofs.Streamed.{read_whole}
use Rattle.dsa_recording.proofs.reading.audit_read.Goals as goal

pub returns-then-is_text : goal.returns-then-is_text
returns-then-is_text g c =
    let filled = c.in_ok-fill.ensures in
    let first = c.fill.new.buffer.items in
    let empty : c.new-first.result.items ≡ [] = c.new-first.ensures.items in
    let all : first ≡ filled.0 = filled.2 ∙ ap (λ xs. xs ++ filled.0) empty in
    let none : length c.new-first.result.items ≡ 0 = ap length empty in
    let least : 1048576 ≤ length first = filled.4 c.if-branch.false in
    let most : length first ≤ max 1048576 0 = subst (λ n. length first ≤ max 1048576 n) none filled.5 in
    let full : length first ≡ 1048576 = omega arith in
    read_whole c.args.options _ _ _ first c.audit_whole-then-is_text.result
    (subst (λ xs. Consumes (g.R.Read.remaining c.args.reader.now) (g.R.Read.remaining c.fill.new.reader) xs) (sym all) filled.1)
    (subst IsText c.deref-2.ensures.value (c.if-is_text.ensures.0 refl))
    full
    c.audit_whole-then-is_text.ensures
