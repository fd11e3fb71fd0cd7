-- What checking with a certificate from C promises.
use Rattle.std.specs.Prelude.{ℕ, List, length, Ok, Err}
use Rattle.dsa_settings.specs.Plan.{Plan}
use Rattle.dsa_settings.specs.Settings.{tariff_of}
use Rattle.dsa_settings.specs.Legal.{IsLeast}
use Rattle.dsa_emission.specs.EmissionFaults.{IsEmissionAs}
use Rattle.dsa_plan.specs.Certificate.{Contents}
use Rattle.dsa_calls.specs.declared.checking.FencedFault.{FencedFault}
use Rattle.dsa_calls.specs.declared.checking.FencedFault.TheVariants.{Call, OtherPiece}
use Rattle.dsa_calls.specs.Checked.{ChecksSubmitted}
use Rattle.dsa_operations.specs.declared.operation.Operation.{Operation}
use Rattle.dsa_operations.specs.Operations.{OperationConflictAt, operation_kind}
use Rattle.dsa_lists.specs.AnyLists.{ChecksAnyList, IsLeastEmissionOfAnyList}
use Rattle.dsa_c.specs.declared.settings.RawSettings.{RawSettings}
use Rattle.dsa_c.specs.declared.refusal.RawRefusal.{RawRefusal}
use Rattle.dsa_c.specs.Preparing.{refusal_at}
use Rattle.dsa_c.specs.Raw.{limits_of, AreSettings, RefusesUnder, refusal_of}

-- checking answers this cost, and no legal plan of the operations that the bytes submit costs less, whoever wrote the
-- certificate
pub record IsCheckedCost (s : RawSettings) (table portal staging : List ℕ) (c : Contents) (cost : ℕ) : Type 0 where
  pub settings : AreSettings s table
  pub checks : ChecksSubmitted operation_kind OperationConflictAt portal staging (limits_of s table) c (Ok cost)
  pub least :
      (plan : Plan) (operations : List Operation) → IsEmissionAs operation_kind (limits_of s table) portal staging plan operations →
      IsLeast (OperationConflictAt operations) (limits_of s table).greatest_batch (tariff_of (limits_of s table)) (length operations) plan

-- why checking refuses
abbrev pub RefusesCheck : RawSettings → List ℕ → List ℕ → List ℕ → Contents → RawRefusal → Type 0
RefusesCheck s table portal staging c r = RefusesUnder refusal_of (λ l fault. ChecksSubmitted operation_kind OperationConflictAt portal staging l c (Err fault)) s table r

-- ---- for a list

-- the refusal of a cause why bytes are refused for a list; number 66 for a piece that is not the list's (this project's
-- choice)
abbrev pub list_refusal_of : FencedFault → RawRefusal
list_refusal_of (Call fault) = refusal_of fault
list_refusal_of (OtherPiece piece) = refusal_at 66 piece 0

-- checking for the list, which may have checksums and whose fences are barriers, answers this cost, so the bytes submit its
-- pieces by a plan that keeps the barriers, and no legal plan that does costs less, whoever wrote the certificate
pub record IsCheckedListCost (s : RawSettings) (table list portal staging : List ℕ) (c : Contents) (cost : ℕ) : Type 0 where
  pub settings : AreSettings s table
  pub checks : ChecksAnyList list portal staging (limits_of s table) c (Ok cost)
  pub least : IsLeastEmissionOfAnyList list portal staging (limits_of s table) cost

-- why checking for the list refuses
abbrev pub RefusesCheckList : RawSettings → List ℕ → List ℕ → List ℕ → List ℕ → Contents → RawRefusal → Type 0
RefusesCheckList s table list portal staging c r =
    RefusesUnder list_refusal_of (λ l fault. ChecksAnyList list portal staging l c (Err fault)) s table r
