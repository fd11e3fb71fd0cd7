use Rattle.std.proofs.Common.{sym, ◌∙◌}
use Rattle.std.proofs.lemmas.Result.{err_from_is_err_and}
use Rattle.std.specs.Prelude.{Err}
use Rattle.dsa_descriptor.proofs.Entries.{no_other, one_entries_spelling, owner_by, refused_read, sound_by, sound_or_fault_by}
use Rattle.dsa_descriptor.proofs.reading_entries.read_plain.Goals as goal

pub invariant_of-result : goal.invariant_of-result
invariant_of-result g c =
    let read = c.in_ok-read.ensures.ok in
    record {
      one_owner = owner_by _ _ _ c.are_entries.ensures c.args.bytes.now c.in_ok-read.read.entries.items read.0 read.1;
      marked = λ some. absurd (some c.new.ensures.items);
    }

pub returns-clause-only : goal.returns-clause-only
returns-clause-only g c es is one =
    one_entries_spelling _ _ _ c.are_entries.ensures c.in_ok-read.read.entries.items es (sym c.in_ok-read.ensures.ok.0 ∙ is)

pub returns-clause-refused : goal.returns-clause-refused
returns-clause-refused g c fault other first =
    absurd (sound_or_fault_by _ c.args.bytes.now fault c.in_ok-read.ensures.ok.1 other first)

pub returns-in_err-read-clause-only : goal.returns-in_err-read-clause-only
returns-in_err-read-clause-only g c es is one =
    let p = err_from_is_err_and c.from_residual.result c.from_residual.ensures.1 in
    rw (p.1, p.2) (no_other _ c.args.bytes.now c.in_err-read.field-0.0 (sound_by _ _ _ c.are_entries.ensures c.args.bytes.now es is one) c.in_err-read.ensures.err)

pub returns-in_err-read-clause-refused : goal.returns-in_err-read-clause-refused
returns-in_err-read-clause-refused g c fault other first =
    let p = err_from_is_err_and c.from_residual.result c.from_residual.ensures.1 in
    rw (p.1, p.2) (refused_read _ _ _ c.are_entries.ensures _ (λ list. list.entries.items) c.args.bytes.now (Err c.in_err-read.field-0.0) tt c.in_err-read.ensures.err fault other first)
