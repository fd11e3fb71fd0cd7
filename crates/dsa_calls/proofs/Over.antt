-- A call over the bytes of a list comes to one outcome, where its call over descriptors does.
use Rattle.std.proofs.Common.{◌≡◌, inl, inr, if◌then◌else◌, Bool, true, false, ℕ, List, map, Result, Ok, Err, refl, sym, ap, subst, ◌∙◌}
use Rattle.dsa_descriptor.specs.declared.descriptor.Descriptor.{Descriptor}
use Rattle.dsa_descriptor.specs.declared.fault.ListFault.{ListFault}
use Rattle.dsa_descriptor.specs.declared.fault.ListFault.TheVariants.{Memory as ListMemory}
use Rattle.dsa_descriptor.specs.Fields.{Fields}
use Rattle.dsa_descriptor.specs.Descriptors.{fields}
use Rattle.dsa_descriptor.specs.Causes.{list_is_memory}
use Rattle.dsa_descriptor.specs.Lists.{IsFirstListFault}
use Rattle.dsa_descriptor.proofs.Listed.{one_list_spelling, sound_from_spelling, sound_or_fault, first_list_fault_is_one}
use Rattle.dsa_calls.specs.declared.fault.PlanFault.{PlanFault}
use Rattle.dsa_calls.specs.declared.fault.PlanFault.TheVariants.{List as InList, Memory}
use Rattle.dsa_calls.specs.Fault.{list_cause}
use Rattle.dsa_calls.specs.Lists.{IsListOf, OverList, OrMemory, IsOrMemory}

-- the list was refused
pub list_refused : {X Y : Type 0} (shown : X → Y) (Says : List Fields → Result Y PlanFault → Type 0) (bytes : List ℕ) (cause : ListFault) (fault : PlanFault) → fault ≡ list_cause cause → IsFirstListFault bytes cause
    → OrMemory shown (OverList Says bytes) (Err fault)
list_refused shown Says bytes cause fault is first = go (list_is_memory cause) refl is
  where
    go : (b : Bool) → list_is_memory cause ≡ b → fault ≡ (if b then Memory else InList cause) → OrMemory shown (OverList Says bytes) (Err fault)
    go true e same = inl same
    go false e same = inr (inl (cause, (λ f. let g = ap list_is_memory f in cc), first, ap Err same))

-- bytes that spell descriptors of one owner have no fault
pub no_list_fault : (bytes : List ℕ) (ds : List Descriptor) (fault : ListFault) → IsListOf bytes ds → (fault ≡ ListMemory → ⊥) → IsFirstListFault bytes fault → ⊥
no_list_fault bytes ds fault is other first = sound_or_fault bytes fault (sound_from_spelling bytes ds is.spelled is.owner) other first

-- bytes spell one list
pub one_list : (bytes : List ℕ) (ds es : List Descriptor) → IsListOf bytes ds → IsListOf bytes es → es ≡ ds
one_list bytes ds es is is' = one_list_spelling es ds (sym is'.spelled ∙ is.spelled)

pub one_over_list : {X : Type 0} (Says : List Fields → Result X PlanFault → Type 0) → ((fs : List Fields) (o p : Result X PlanFault) → Says fs o → Says fs p → o ≡ p)
    → (bytes : List ℕ) (o p : Result X PlanFault) → OverList Says bytes o → OverList Says bytes p → o ≡ p
one_over_list Says one bytes o p (inl (f, nf, first, is)) (inl (g, ng, first', is')) =
    is ∙ ap (λ (c : ListFault). Err (InList c)) (first_list_fault_is_one bytes f g nf ng first first') ∙ sym is'
one_over_list Says one bytes o p (inl (f, nf, first, is)) (inr (ds, list, says)) = absurd (no_list_fault bytes ds f list nf first)
one_over_list Says one bytes o p (inr (ds, list, says)) (inl (g, ng, first', is')) = absurd (no_list_fault bytes ds g list ng first')
one_over_list Says one bytes o p (inr (ds, list, says)) (inr (es, list', says')) =
    let same : es ≡ ds = one_list bytes ds es list list' in
    one (map fields ds) o p says (subst (λ (xs : List Descriptor). Says (map fields xs) p) same says')

-- an answer that is an outcome, or an allocation failure, is the one outcome, or an allocation failure
pub only_outcome : {X Y : Type 0} (shown : X → Y) (Outcome : Result Y PlanFault → Type 0) → ((o p : Result Y PlanFault) → Outcome o → Outcome p → o ≡ p)
    → (r : Result X PlanFault) → OrMemory shown Outcome r → (o : Result Y PlanFault) → Outcome o → IsOrMemory shown o r
only_outcome shown Outcome one (Ok x) h o says = one o (Ok (shown x)) says h
only_outcome shown Outcome one (Err fault) (inl is) o says = inl is
only_outcome shown Outcome one (Err fault) (inr h) o says = inr (one o (Err fault) says h)

-- what a call says of bytes that spell descriptors it says of these
pub said_of_list : {X : Type 0} (Says : List Fields → Result X PlanFault → Type 0) (bytes : List ℕ) (ds : List Descriptor) (o : Result X PlanFault) → IsListOf bytes ds → OverList Says bytes o
    → Says (map fields ds) o
said_of_list Says bytes ds o listed (inl (fault, other, first, is)) = absurd (no_list_fault bytes ds fault listed other first)
said_of_list Says bytes ds o listed (inr (es, listed', says)) = subst (λ (xs : List Descriptor). Says (map fields xs) o) (one_list bytes ds es listed listed') says
