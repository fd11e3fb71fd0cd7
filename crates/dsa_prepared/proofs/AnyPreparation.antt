-- Preparing a list that may have checksums: its one first cause, and what it says of a list of descriptors.
use Rattle.std.proofs.Common.{◌≡◌, ◌⊎◌, inl, inr, Bool, List, map, Ok, Err, refl, sym, ap, subst, ◌∙◌}
use Rattle.std.specs.Prelude.{ℕ, IfErr, IfOk, Result}
use Rattle.std.specs.List.{AllByRecursion, flat_map}
use Rattle.dsa_descriptor.specs.declared.descriptor.Descriptor.{Descriptor}
use Rattle.dsa_descriptor.specs.declared.fault.ListFault.{ListFault}
use Rattle.dsa_descriptor.specs.declared.span.Span.{Span}
use Rattle.dsa_descriptor.specs.Fences.{barriers_of, unfenced_list}
use Rattle.dsa_descriptor.proofs.Listed.{list_is}
use Rattle.dsa_operations.specs.declared.operation.Operation.{Operation}
use Rattle.dsa_operations.specs.declared.operation.Operation.TheVariants as operation
use Rattle.dsa_operations.specs.Operations.{spelling_of}
use Rattle.dsa_settings.specs.Settings.{Limits}
use Rattle.dsa_calls.specs.declared.fault.PlanFault.TheVariants.{List as InList, Memory}
use Rattle.dsa_calls.specs.Fenced.{PlansFenced}
use Rattle.dsa_calls.specs.Lists.{IsListOf}
use Rattle.dsa_calls.specs.Planned.{Submission}
use Rattle.dsa_lists.specs.AnyLists.{IsOfDescriptors, PlansAnyList, counted}
use Rattle.dsa_lists.specs.Submissions.{AreReady, IsOperationSubmission, OperationSubmission}
use Rattle.dsa_lists.proofs.AnyLists.{no_descriptors, of_planned, one_any_plan, planned_any}
use Rattle.dsa_lists.proofs.Left.{spelt_alike}
use Rattle.dsa_lists.proofs.Ready.{one_operations}
use Rattle.dsa_prepared.specs.Regions.{OperationLies}
use Rattle.dsa_prepared.specs.declared.fault.PrepareFault.{PrepareFault}
use Rattle.dsa_prepared.specs.declared.fault.PrepareFault.TheVariants.{Plan as InPlan, RegionWrap, RegionOrder, Outside}
use Rattle.dsa_prepared.specs.Templates.{Template}
use Rattle.dsa_prepared.specs.Preparing.{IsAnyCostedOf, IsCostedOf, IsFirstAnyPrepareFault, IsFirstPrepareFault, IsKept, IsPlaceFault, SpellOperations}
use Rattle.dsa_prepared.proofs.Preparation.{SaysOne, never_both, no_cause, one_cause, place_first, refused_by, same_fault}

-- descriptors that the bytes spell are spelt as operations
spelt_as : (list : List ℕ) (ds : List Descriptor) (os : List Operation) → IsListOf (unfenced_list list) ds → os ≡ map operation.Descriptor ds → SpellOperations list os
spelt_as list ds os listed is = listed.spelled ∙ list_is ds ∙ sym (spelt_alike ds) ∙ ap (flat_map spelling_of) (sym is)

module _ (list : List ℕ) (s : Limits) where
  abbrev pub AnyPlanned : Type 0
  AnyPlanned = (p : OperationSubmission) × PlansAnyList list s (Ok p)

  pub says_any : SaysOne (λ f. PlansAnyList list s (Err f)) AnyPlanned (SpellOperations list)
  says_any =
      record {
        either = λ f refused planned. never_both planned.0 f (one_any_plan list s (Ok planned.0) (Err f) planned.1 refused);
        one = λ f g p q. same_fault {X = OperationSubmission} f g (one_any_plan list s (Err f) (Err g) p q);
        same = λ os ps a b. one_operations list os ps a b;
      }

  -- what planning a list of descriptors answers
  counted_plan : (p : Submission) → PlansFenced list s (Ok p) → AnyPlanned
  counted_plan p plans = (counted p, planned_any list s p plans)

  module _ (rs : List Span) where
    -- what is prepared has no cause
    pub no_cause_of_any : (os : List Operation) (t : Template) (cost : ℕ) → IsAnyCostedOf list s rs os t cost → (f : PrepareFault) → IsFirstAnyPrepareFault list s rs f → ⊥
    no_cause_of_any os t cost (inl (of, (ds, (k, costs), is))) =
        no_cause (λ f. PlansAnyList list s (Err f)) AnyPlanned (SpellOperations list) says_any s rs (counted_plan k.submission (inr (ds, k.listed, k.planned))) k.kept.regions os (spelt_as list ds os k.listed is)
        (subst (λ (xs : List Operation). AllByRecursion (OperationLies rs s.greatest_transfer) xs) (sym is) k.kept.lie)
    no_cause_of_any os t cost (inr (none, (k, costs))) =
        no_cause (λ f. PlansAnyList list s (Err f)) AnyPlanned (SpellOperations list) says_any s rs
        (k.submission, inr (none, inr (os, k.ready.spelt, k.ready.owner, k.planned))) k.kept.regions os k.ready.spelt k.kept.lie

    -- and one cause at most is the first
    pub one_any_cause : (f g : PrepareFault) → IsFirstAnyPrepareFault list s rs f → IsFirstAnyPrepareFault list s rs g → f ≡ g
    one_any_cause = one_cause (λ f. PlansAnyList list s (Err f)) AnyPlanned (SpellOperations list) says_any s rs

    pub refused_any_by : {X : Type 0} (Kept : X → Type 0) → ((x : X) → Kept x → (f : PrepareFault) → IsFirstAnyPrepareFault list s rs f → ⊥) → (r : Result X PrepareFault) → IfOk r Kept
        → IfErr r (λ f. (f ≡ InPlan Memory) ⊎ IsFirstAnyPrepareFault list s rs f) → (f : PrepareFault) → IsFirstAnyPrepareFault list s rs f → (r ≡ Err f) ⊎ (r ≡ Err (InPlan Memory))
    refused_any_by Kept = refused_by (λ f. PlansAnyList list s (Err f)) AnyPlanned (SpellOperations list) says_any s rs Kept

    -- ---- lists of descriptors

    pub costed_any : (ds : List Descriptor) (t : Template) (cost : ℕ) → IsCostedOf list s rs ds t cost → IsAnyCostedOf list s rs (map operation.Descriptor ds) t cost
    costed_any ds t cost (k, costs) = inl ((ds, k.listed), (ds, (k, costs), refl))

    pub first_any : (f : PrepareFault) → ((cause : ListFault) → f ≡ InPlan (InList cause) → ⊥) → IsFirstPrepareFault list s rs f → IsFirstAnyPrepareFault list s rs f
    first_any (InPlan f) other h = inl (of_planned list s (Err f) (λ cause is. let same : f ≡ InList cause = cc in other cause (ap InPlan same)) h, (Err f, h, refl))
    first_any (RegionWrap i) other h = (counted_plan h.0.0 h.0.1, h.1)
    first_any (RegionOrder i) other h = (counted_plan h.0.0 h.0.1, h.1)
    first_any (Outside i) other (planned, regions, (os, (ds, listed, is), first)) = (counted_plan planned.0 planned.1, regions, (os, spelt_as list ds os listed is, first))

    pub first_any_or : (f : PrepareFault) → ((cause : ListFault) → f ≡ InPlan (InList cause) → ⊥) → (f ≡ InPlan Memory) ⊎ IsFirstPrepareFault list s rs f → (f ≡ InPlan Memory) ⊎ IsFirstAnyPrepareFault list s rs f
    first_any_or f other (inl memory) = inl memory
    first_any_or f other (inr first) = inr (first_any f other first)

    -- bytes that are no list of descriptors
    pub none_prepared : (f : PrepareFault) → (cause : ListFault) × (f ≡ InPlan (InList cause)) → (f ≡ InPlan Memory) ⊎ IsFirstPrepareFault list s rs f → ¬ IsOfDescriptors list
    none_prepared f (cause, is) (inl memory) of = let no_one : InPlan Memory ≡ InPlan (InList cause) = sym memory ∙ is in cc
    none_prepared f (cause, is) (inr first) of = no_descriptors list s cause (subst (λ (g : PrepareFault). IsFirstPrepareFault list s rs g) is first) of

    -- ---- lists of operations

    pub operations_costed : ¬ IsOfDescriptors list → (os : List Operation) (marks : List Bool) (p : OperationSubmission) (t : Template) → AreReady list s os → marks ≡ barriers_of list →
        IsOperationSubmission s os marks p → IsKept s rs os os p.plan t → IsAnyCostedOf list s rs os t p.cost
    operations_costed none os marks p t ready is planned kept = inr (
      none,
      (
        record {
          ready = ready;
          submission = p;
          planned = subst (λ (of : List Bool). IsOperationSubmission s os of p) is planned;
          kept = kept;
        },
        refl,
      ),
    )

    pub operations_placed : ¬ IsOfDescriptors list → (os : List Operation) (marks : List Bool) (p : OperationSubmission) (f : PrepareFault) → AreReady list s os → marks ≡ barriers_of list →
        IsOperationSubmission s os marks p → (f ≡ InPlan Memory) ⊎ IsPlaceFault s rs os f → (f ≡ InPlan Memory) ⊎ IsFirstAnyPrepareFault list s rs f
    operations_placed none os marks p f ready is planned (inl memory) = inl memory
    operations_placed none os marks p f ready is planned (inr place) =
        let plans : PlansAnyList list s (Ok p) = inr (none, inr (os, ready.spelt, ready.owner, subst (λ (of : List Bool). IsOperationSubmission s os of p) is planned)) in
        inr (place_first (λ g. PlansAnyList list s (Err g)) AnyPlanned (SpellOperations list) says_any s rs os f (p, plans) ready.spelt place)
