-- What is left can be written as a list, read again and planned.
use Rattle.std.proofs.Common.{◌≡◌, ◌≢◌, ◌⊎◌, inl, inr, ℕ, Bool, List, [], length, map, Err, sym, ap, ◌∙◌}
use Rattle.dsa_descriptor.specs.Descriptors.{fields}
use Rattle.dsa_descriptor.specs.Fences.{barriers_of, marked_spelling, unfenced_list}
use Rattle.dsa_descriptor.specs.Fields.{Fields}
use Rattle.dsa_descriptor.proofs.Marked.{marked_list_reads_back}
use Rattle.dsa_splitter.specs.Pieces.{piece_barriers}
use Rattle.dsa_splitter.proofs.Marks.{whole_marks}
use Rattle.dsa_calls.specs.Fenced.{PlansWith}
use Rattle.dsa_calls.specs.Lists.{IsListOf}
use Rattle.dsa_calls.proofs.Over.{said_of_list}
use Rattle.dsa_resume.specs.Laws.{RestCanBeListed}

counted : (marks : List Bool) (n : ℕ) → (marks ≡ []) ⊎ (length marks ≡ n) → marks ≢ [] → length marks ≡ n
counted marks n (inl none) some = absurd (some none)
counted marks n (inr count) some = count

pub rest_can_be_listed : RestCanBeListed
rest_can_be_listed s rest again =
    let fs : List Fields = map fields rest.pieces in
    let bytes : List ℕ = marked_spelling fs rest.barriers in
    let (spelled, marks) = marked_list_reads_back rest.pieces rest.barriers again.count in
    let listed : IsListOf (unfenced_list bytes) rest.pieces = record { spelled = spelled; owner = again.one_owner } in
    let barriers : barriers_of bytes ≡ rest.barriers = marks ∙ again.kept in
    record {
      read = record {
        operations = rest.pieces;
        listed = listed;
        split = again.split;
        pieces_are = sym again.own;
        barriers_are =
            sym (whole_marks rest.pieces s.greatest_transfer rest.barriers again.whole (counted rest.barriers (length rest.pieces) again.count))
            ∙ ap (λ (bs : List Bool). piece_barriers s.greatest_transfer fs bs) (sym barriers);
      };
      accepted = λ fault plans. again.accepted fault (said_of_list (λ gs o. PlansWith (barriers_of bytes) s gs o) (unfenced_list bytes) rest.pieces (Err fault) listed plans);
    }
