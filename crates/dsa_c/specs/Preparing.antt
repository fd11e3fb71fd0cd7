-- What preparing into an array of the caller and filling from it promise.
use Rattle.std.specs.Prelude.{◌≡◌, ◌⊎◌, ℕ, ◌+◌, ◌*◌, ◌<◌, ◌≤◌, List, length, slice_index_or}
use Rattle.dsa_descriptor.specs.declared.span.Span.{Span}
use Rattle.dsa_descriptor.specs.Causes.{index_list}
use Rattle.dsa_calls.specs.declared.fault.PlanFault.TheVariants.{Memory}
use Rattle.dsa_operations.specs.declared.operation.Operation.{Operation}
use Rattle.dsa_prepared.specs.declared.fault.PrepareFault.{PrepareFault}
use Rattle.dsa_prepared.specs.declared.fault.PrepareFault.TheVariants.{Plan, RegionWrap, RegionOrder, Outside}
use Rattle.dsa_prepared.specs.declared.fault.FillFault.{FillFault}
use Rattle.dsa_prepared.specs.declared.row.Row.{Row}
use Rattle.dsa_prepared.specs.Causes.{fill_number, fill_indices}
use Rattle.dsa_prepared.specs.Filling.{CanFill, IsFirstFillFault}
use Rattle.dsa_prepared.specs.Preparing.{IsAnyCostedOf, IsFirstAnyPrepareFault}
use Rattle.dsa_prepared.specs.Rows.{ArePrepared, rows_of, template_in}
use Rattle.dsa_prepared.specs.Templates.{Template, filled_portal, filled_staging}
use Rattle.dsa_c.specs.declared.preparing.RawInfo.{RawInfo}
use Rattle.dsa_c.specs.declared.settings.RawSettings.{RawSettings}
use Rattle.dsa_c.specs.declared.refusal.RawRefusal.{RawRefusal}
use Rattle.dsa_c.specs.Raw.{limits_of, AreSettings, RefusesSettings, written, refusal_of}

-- a refusal of this number that names these places
abbrev pub refusal_at : ℕ → ℕ → ℕ → RawRefusal
refusal_at number first second = record { number = number; inner = 0; first = first; second = second }

-- the refusal of a cause why a list is not prepared
abbrev pub prepare_refusal_of : PrepareFault → RawRefusal
prepare_refusal_of (Plan fault) = refusal_of fault
prepare_refusal_of (RegionWrap region) = refusal_at 100 region 0
prepare_refusal_of (RegionOrder region) = refusal_at 101 region 0
prepare_refusal_of (Outside operation) = refusal_at 102 operation 0

-- the refusal of an array that is too small for the rows: number 92, and how many rows are needed (this project's choice)
abbrev pub no_room_for_rows : ℕ → RawRefusal
no_room_for_rows rows = refusal_at 92 rows 0

-- so many rows are enough for a list of so many pieces over so many regions: a header, one for each region, and three for
-- each piece
abbrev pub prepared_room : ℕ → ℕ → ℕ
prepared_room regions pieces = 1 + regions + 3 * pieces

-- what was prepared: the cost of the plan, the number of pieces, and how much there is to keep and to fill
abbrev pub info_of : Template → ℕ → RawInfo
info_of t cost =
    record {
      cost = cost;
      pieces = t.pieces;
      rows = length (rows_of t);
      portal_len = 64 * length t.portal;
      staging_len = 64 * length t.staging + 32 * t.batches;
    }

-- the list, whose fences are barriers, is prepared as this template: the bytes without their fences spell these operations,
-- which may be checksums, and the plan costs this
pub record IsPreparedFor (s : RawSettings) (table list : List ℕ) (regions : List Span) (t : Template) (cost : ℕ) : Type 0 where
  pub settings : AreSettings s table
  pub operations : List Operation
  pub prepared : IsAnyCostedOf list (limits_of s table) regions operations t cost

-- the rows of the prepared list are at the front of the array, whose rest is unchanged; reading them gives the template, and
-- they can be filled
pub record IsPreparedInto (s : RawSettings) (table list : List ℕ) (regions : List Span) (rows new_rows : List Row) (info : RawInfo) : Type 0 where
  pub template : Template
  pub cost : ℕ
  pub prepared : IsPreparedFor s table list regions template cost
  pub fits : length (rows_of template) ≤ length rows
  pub rows_is : new_rows ≡ written (rows_of template) rows
  pub read : template_in (rows_of template) ≡ template
  pub fillable : ArePrepared (rows_of template)
  pub info_is : info ≡ info_of template cost

-- Why nothing is written: the numbers are no settings, and one is named; an allocation failed; preparing refuses the list
-- for this fault; or the rows of the prepared list don't fit, and so many are needed.
abbrev pub RefusesPrepare : RawSettings → List ℕ → List ℕ → List Span → ℕ → RawRefusal → Type 0
RefusesPrepare s table list regions room r =
    RefusesSettings s table r
    ⊎ ((r ≡ refusal_of Memory) × AreSettings s table)
    ⊎ ((fault : PrepareFault) × AreSettings s table × IsFirstAnyPrepareFault list (limits_of s table) regions fault × (r ≡ prepare_refusal_of fault))
    ⊎ ((t : Template) × (cost : ℕ) × IsPreparedFor s table list regions t cost × (room < length (rows_of t)) × (r ≡ no_room_for_rows (length (rows_of t))))

-- ---- filling

-- the refusal of rows that are no prepared list: number 111 (this project's choice)
abbrev pub not_prepared : RawRefusal
not_prepared = refusal_at 111 0 0

-- the refusal of a cause why nothing is filled
abbrev pub fill_refusal_of : FillFault → RawRefusal
fill_refusal_of fault = refusal_at (fill_number fault) (slice_index_or (index_list (fill_indices fault)) 0 0) (slice_index_or (index_list (fill_indices fault)) 1 0)

-- the bytes of the rows' template for these bases are at the front of the buffers, whose rest is unchanged
pub record IsFilledInto (rows : List Row) (bases : List ℕ) (staging : ℕ) (portal new_portal area new_area : List ℕ) : Type 0 where
  pub prepared : ArePrepared rows
  pub can : CanFill (template_in rows) bases staging
  pub portal_is : new_portal ≡ written (filled_portal (template_in rows) bases staging) portal
  pub area_is : new_area ≡ written (filled_staging (template_in rows) bases staging) area

-- why nothing is written: the rows are no prepared list, or this is the first cause of filling them
abbrev pub RefusesFill : List Row → List ℕ → ℕ → ℕ → ℕ → RawRefusal → Type 0
RefusesFill rows bases staging portal_len area_len r =
    ((r ≡ not_prepared) × (¬ ArePrepared rows))
    ⊎ ((fault : FillFault) × ArePrepared rows × IsFirstFillFault (template_in rows) bases staging portal_len area_len fault × (r ≡ fill_refusal_of fault))
