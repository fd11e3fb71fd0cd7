-- What a prepared submission keeps.
use Rattle.std.specs.Prelude.{ℕ, zero, suc, max, Bool, List, [], ◌∷◌, ◌++◌, drop, length, map, replicate, slice_index, slice_index_or, slice_set, take, ◌*◌, if◌then◌else◌}
use Rattle.std.specs.List.{flat_map}
use Rattle.dsa_descriptor.specs.declared.op.Op.{Op}
use Rattle.dsa_descriptor.specs.declared.op.Op.TheVariants.{Move, Fill, Compare, ComparePattern, ApplyDelta, Dualcast}
use Rattle.dsa_descriptor.specs.declared.span.Span.{Span}
use Rattle.dsa_operations.specs.declared.operation.Operation.{Operation}
use Rattle.dsa_operations.specs.declared.operation.Operation.TheVariants as operation
use Rattle.dsa_settings.specs.Plan.{Group, Plan}
use Rattle.dsa_emission.specs.Emission.{is_batch, batch_count, batched_count, place_of}
use Rattle.dsa_emission.specs.declared.place.Place.{Place}
use Rattle.dsa_prepared.specs.declared.entry.Entry.{Entry}
use Rattle.dsa_prepared.specs.declared.tie.Tie.{Tie}
use Rattle.dsa_prepared.specs.Entries.{place_in, filled, entry_of, fenced_entries, batch_entry_of}

-- a planned submission, with each address as a region and an offset
pub record Template : Type 0 where
  -- the regions as they were when the list was planned
  pub regions : List Span
  -- the unit of each region: its new base has to be congruent to its old base modulo this
  pub units : List ℕ
  -- the addresses that have to agree in their low 12 bits, in pairs
  pub ties : List Tie
  -- the entries of the portal, and of the batches in the staging area
  pub portal : List Entry
  pub staging : List Entry
  -- how many records of batches come after them
  pub batches : ℕ
  -- how many pieces there are; the staging area has 96 bytes for each
  pub pieces : ℕ

-- the template of these
abbrev pub template : List Span → List ℕ → List Tie → List Entry → List Entry → ℕ → ℕ → Template
template regions units ties portal staging batches pieces =
    record {
      regions = regions;
      units = units;
      ties = ties;
      portal = portal;
      staging = staging;
      batches = batches;
      pieces = pieces;
    }

-- the parts of the numbers below n, one after another
abbrev pub gathered : {X : Type 0} → (ℕ → List X) → ℕ → List X
gathered part zero = []
gathered part (suc n) = gathered part n ++ part n

-- ---- entries

-- the entry of a group: of its piece, or of its batch
abbrev pub group_entries : List Span → ℕ → Place → Group → List Operation → List Entry
group_entries rs total place group pieces =
    if is_batch group
    then batch_entry_of total place group pieces ∷ []
    else map (entry_of rs Bool.false) (take (length group) (drop place.start pieces))

-- what a group has in the staging area
abbrev pub group_staged : List Span → Place → Group → List Operation → List Entry
group_staged rs place group pieces = if is_batch group then fenced_entries rs group (drop place.start pieces) else []

-- the entries of the portal, group by group
abbrev pub portal_entries : List Span → Plan → List Operation → List Entry
portal_entries rs plan pieces =
    gathered (λ number. group_entries rs (batched_count plan) (place_of plan number) (slice_index_or plan number []) pieces) (length plan)

-- the entries of the staging area, group by group
abbrev pub staging_entries : List Span → Plan → List Operation → List Entry
staging_entries rs plan pieces = gathered (λ number. group_staged rs (place_of plan number) (slice_index_or plan number []) pieces) (length plan)

-- ---- alignment

-- the units, with that of this region raised to at least this one
abbrev pub raised : List ℕ → ℕ → ℕ → List ℕ
raised units region unit = slice_set units region (max (slice_index units region) unit)

-- the units, after a delta's destination has to be a multiple of 8
abbrev pub op_asked : List Span → List ℕ → Op → List ℕ
op_asked rs units (Move src dst) = units
op_asked rs units (Fill pattern dst) = units
op_asked rs units (Compare src src2 expected) = units
op_asked rs units (ComparePattern src pattern expected) = units
op_asked rs units (ApplyDelta delta dst record_size) = raised units (place_in rs dst).0 8
op_asked rs units (Dualcast src dst dst2) = units

-- and after a completion record has to be a multiple of 32 (specification 341204, restrictions)
abbrev pub asked : List Span → List ℕ → Operation → List ℕ
asked rs units (operation.Descriptor d) = op_asked rs (raised units (place_in rs d.record_at).0 32) d.op
asked rs units (operation.Checksum c) = raised units (place_in rs c.record_at).0 32

-- the units after these operations, from given ones
abbrev pub units_from : List Span → List ℕ → List Operation → List ℕ
units_from rs units [] = units
units_from rs units (o ∷ os) = units_from rs (asked rs units o) os

-- the units that operations require, from 1 for each region
abbrev pub units_of : List Span → List Operation → List ℕ
units_of rs operations = units_from rs (replicate (length rs) 1) operations

-- the low 12 bits of a dualcast's destinations have to be equal
abbrev pub op_ties : List Span → Op → List Tie
op_ties rs (Move src dst) = []
op_ties rs (Fill pattern dst) = []
op_ties rs (Compare src src2 expected) = []
op_ties rs (ComparePattern src pattern expected) = []
op_ties rs (ApplyDelta delta dst record_size) = []
op_ties rs (Dualcast src dst dst2) =
    record {
      region = (place_in rs dst).0;
      offset = (place_in rs dst).1;
      other = (place_in rs dst2).0;
      other_offset = (place_in rs dst2).1;
    }
    ∷ []

-- the ties of an operation; a checksum has none
abbrev pub tied : List Span → Operation → List Tie
tied rs (operation.Descriptor d) = op_ties rs d.op
tied rs (operation.Checksum c) = []

-- the ties of all operations
abbrev pub ties_of : List Span → List Operation → List Tie
ties_of rs operations = flat_map (tied rs) operations

-- ---- all of it

-- the template of operations, their pieces and the plan of these; pieces are aligned if their operations are
abbrev pub template_of : List Span → List Operation → Plan → List Operation → Template
template_of rs operations plan pieces =
    template rs (units_of rs operations) (ties_of rs operations) (portal_entries rs plan pieces) (staging_entries rs plan pieces) (batch_count plan) (length pieces)

-- the bytes to submit for new bases and a new staging address
abbrev pub filled_portal : Template → List ℕ → ℕ → List ℕ
filled_portal t bases staging = filled bases staging t.portal

-- the bytes of the staging area, with zero records of the batches
abbrev pub filled_staging : Template → List ℕ → ℕ → List ℕ
filled_staging t bases staging = filled bases staging t.staging ++ replicate (32 * t.batches) 0
