-- The outcome of a call over the bytes of a list.
use Rattle.std.specs.Prelude.{◌≡◌, ◌≢◌, ◌⊎◌, ℕ, List, map, Result, Ok, Err}
use Rattle.dsa_descriptor.specs.declared.descriptor.Descriptor.{Descriptor}
use Rattle.dsa_descriptor.specs.declared.fault.ListFault.{ListFault}
use Rattle.dsa_descriptor.specs.declared.fault.ListFault.TheVariants.{Memory as ListMemory}
use Rattle.dsa_descriptor.specs.Fields.{Fields}
use Rattle.dsa_descriptor.specs.Descriptors.{fields}
use Rattle.dsa_descriptor.specs.Lists.{list_spelling, HaveOneOwner, IsFirstListFault}
use Rattle.dsa_calls.specs.declared.fault.PlanFault.{PlanFault}
use Rattle.dsa_calls.specs.declared.fault.PlanFault.TheVariants.{List as InList, Memory}

-- the bytes spell these descriptors, all of one owner
pub record IsListOf (bytes : List ℕ) (ds : List Descriptor) : Type 0 where
  pub spelled : bytes ≡ list_spelling (map fields ds)
  pub owner : HaveOneOwner (map fields ds)

-- the outcome of a call over the bytes of a list: the first fault of the bytes as a list, or what the call says of the
-- descriptors that they spell
abbrev pub OverList : {X : Type 0} → (List Fields → Result X PlanFault → Type 0) → List ℕ → Result X PlanFault → Type 0
OverList Says bytes outcome =
    ((fault : ListFault) × (fault ≢ ListMemory) × IsFirstListFault bytes fault × (outcome ≡ Err (InList fault)))
    ⊎ ((ds : List Descriptor) × IsListOf bytes ds × Says (map fields ds) outcome)

-- what a call answers that may also fail to allocate, seen by `shown`
abbrev pub OrMemory : {X Y : Type 0} → (X → Y) → (Result Y PlanFault → Type 0) → Result X PlanFault → Type 0
OrMemory shown Outcome (Ok x) = Outcome (Ok (shown x))
OrMemory shown Outcome (Err fault) = (fault ≡ Memory) ⊎ Outcome (Err fault)

-- the answer is that outcome, or an allocation failure
abbrev pub IsOrMemory : {X Y : Type 0} → (X → Y) → Result Y PlanFault → Result X PlanFault → Type 0
IsOrMemory shown outcome (Ok x) = outcome ≡ Ok (shown x)
IsOrMemory shown outcome (Err fault) = (fault ≡ Memory) ⊎ (outcome ≡ Err fault)
