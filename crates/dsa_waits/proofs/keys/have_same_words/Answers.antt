use Rattle.std.proofs.Common.{◌≡◌, ℕ, Some, slice_get, sym, ap, ◌∙◌, ◌++◌, eqb-true}
use Rattle.std.specs.Prelude.{codes, decimal}
use Rattle.std.proofs.lemmas.Option.{slice_get-get_or}
use Rattle.dsa_descriptor.specs.Places.{code_at, u32_at}
use Rattle.dsa_recording.specs.EntryKeys.{entry_key, operation_name}
use Rattle.dsa_waits.proofs.keys.have_same_words.Goals as goal

pub returns : goal.returns
returns c so =
    let one = c.in-Some.one.now in
    let other = c.in-Some-get.other.now in
    let first : slice_get c.args.all.now c.args.first ≡ Some one =
    slice_get-get_or c.args.all.now c.args.first one c.in-Some.ensures.lookup.3.0 ∙ ap Some (sym (c.in-Some.ensures.lookup.3.1 one)) in
    let second : slice_get c.args.all.now c.args.second ≡ Some other =
    slice_get-get_or c.args.all.now c.args.second other c.in-Some-get.ensures.lookup.3.0 ∙ ap Some (sym (c.in-Some-get.ensures.lookup.3.1 other)) in
    let code : code_at one ≡ code_at other = sym c.of-one.ensures.code ∙ (c.if-one-other.false ∙ c.of-other.ensures.code) in
    let size : u32_at 32 one ≡ u32_at 32 other = sym c.of-one.ensures.size ∙ (eqb-true c.of-one.result.size c.of-other.result.size so ∙ c.of-other.ensures.size) in
    ap entry_key first
    ∙ (ap (λ (n : ℕ). operation_name n ++ (codes ", " ++ (decimal (u32_at 32 one) ++ codes " bytes"))) code
    ∙ (ap (λ (n : ℕ). operation_name (code_at other) ++ (codes ", " ++ (decimal n ++ codes " bytes"))) size ∙ ap entry_key (sym second)))
