-- Descriptors as operations of a list.
use Rattle.std.proofs.Common.{◌≡◌, ℕ, List, Some, sym, ap, subst, ◌∙◌}
use Rattle.std.specs.Prelude.{map, option_map, slice_get}
use Rattle.std.proofs.lemmas.Option.{slice_get-map}
use Rattle.dsa_descriptor.specs.declared.descriptor.Descriptor.{Descriptor}
use Rattle.dsa_descriptor.specs.Descriptors.{fields}
use Rattle.dsa_descriptor.specs.Fields.{Fields}
use Rattle.dsa_ranges.specs.Ranges.{ConflictAt, Conflicts, SpansConflict}
use Rattle.dsa_resume.proofs.Again.{mapped}
use Rattle.dsa_operations.specs.declared.operation.Operation.{Operation}
use Rattle.dsa_operations.specs.declared.operation.Operation.TheVariants as operation
use Rattle.dsa_lists.specs.Laws.{DescriptorsConflictAlike}
use Rattle.dsa_operations.specs.Operations.{OperationConflictAt, reads_of, writes_of}

-- what is at a place of a list that is made of another
pub made_there : {A B : Type 0} (f : A → B) (xs : List A) (k : ℕ) (x : A) → slice_get xs k ≡ Some x → slice_get (map f xs) k ≡ Some (f x)
made_there f xs k x e = slice_get-map f xs k ∙ ap (option_map f) e

-- two operations conflict
abbrev OperationsConflict : Operation → Operation → Type 0
OperationsConflict o p = SpansConflict (reads_of o) (writes_of o) (reads_of p) (writes_of p)

module _ (ds : List Descriptor) (i j : ℕ) where
  of_descriptors : ConflictAt (map fields ds) i j → OperationConflictAt (map operation.Descriptor ds) i j
  of_descriptors (f, g, at_f, at_g, c) =
      let d = mapped fields ds i f at_f in
      let e = mapped fields ds j g at_g in
      let left : Conflicts (fields d.0) g = subst (λ (h : Fields). Conflicts h g) (sym d.2) c in
      let both : Conflicts (fields d.0) (fields e.0) = subst (λ (h : Fields). Conflicts (fields d.0) h) (sym e.2) left in
      (operation.Descriptor d.0, operation.Descriptor e.0, made_there operation.Descriptor ds i d.0 d.1, made_there operation.Descriptor ds j e.0 e.1, both)

  of_operations : OperationConflictAt (map operation.Descriptor ds) i j → ConflictAt (map fields ds) i j
  of_operations (o, p, at_o, at_p, c) =
      let d = mapped operation.Descriptor ds i o at_o in
      let e = mapped operation.Descriptor ds j p at_p in
      let left : OperationsConflict (operation.Descriptor d.0) p = subst (λ (h : Operation). OperationsConflict h p) (sym d.2) c in
      let both : OperationsConflict (operation.Descriptor d.0) (operation.Descriptor e.0) = subst (λ (h : Operation). OperationsConflict (operation.Descriptor d.0) h) (sym e.2) left in
      (fields d.0, fields e.0, made_there fields ds i d.0 d.1, made_there fields ds j e.0 e.1, both)

pub conflict_alike : DescriptorsConflictAlike
conflict_alike ds i j = (of_descriptors ds i j, of_operations ds i j)
