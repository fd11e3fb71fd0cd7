-- A planned submission on other buffers.
use Rattle.std.specs.Prelude.{ℕ, ◌≡◌, ◌<◌, Bool, List, map}
use Rattle.std.specs.List.{AllByRecursion}
use Rattle.dsa_descriptor.specs.declared.descriptor.Descriptor.{Descriptor}
use Rattle.dsa_descriptor.specs.Descriptors.{fields}
use Rattle.dsa_descriptor.specs.Fields.{Fields}
use Rattle.dsa_descriptor.specs.Spans.{ApartFrom, IsAddressable}
use Rattle.dsa_settings.specs.Settings.{Limits}
use Rattle.dsa_emission.specs.Emission.{portal_bytes, staging_bytes}
use Rattle.dsa_settings.specs.Staging.{staging_area}
use Rattle.dsa_splitter.specs.Rules.{piece_total}
use Rattle.dsa_calls.specs.Fenced.{IsSubmissionWith}
use Rattle.dsa_calls.specs.Planned.{Submission}
use Rattle.dsa_prepared.specs.Relocated.{relocated_fields}
use Rattle.dsa_prepared.specs.Regions.{Region, base_span, new_span, relocated, AreDisjoint, LiesWhole}

-- the settings with another staging address
abbrev pub staged_at : ℕ → Limits → Limits
staged_at staging s = record s { staging = staging }

-- the submission of the same plan, certificate and cost for these pieces
abbrev pub with_pieces : Limits → List Descriptor → Submission → Submission
with_pieces s pieces p =
    record {
      pieces = pieces;
      plan = p.plan;
      certificate = p.certificate;
      cost = p.cost;
      portal = portal_bytes s p.plan (map fields pieces);
      staging = staging_bytes p.plan (map fields pieces);
    }

-- when a submission of these operations may be relocated with these regions, its staging area to another address
pub record MayRelocate (rs : List Region) (staging : ℕ) (s : Limits) (fs : List Fields) : Type 0 where
  pub apart : AreDisjoint rs
  -- no region goes past 2^64
  pub addressable : AllByRecursion (λ r. IsAddressable (new_span r)) rs
  -- nor into the new staging area
  pub clear : ApartFrom (staging_area staging (piece_total s.greatest_transfer fs)) (map new_span rs)
  -- each range and the row of records of each operation lie in one region
  pub operations : AllByRecursion (LiesWhole (map base_span rs) s.greatest_transfer) fs

-- the submission of the relocated operations and their barriers, if they have any, is that of the same plan, certificate
-- and cost for the relocated pieces
abbrev pub SubmissionRelocates : Type 0
SubmissionRelocates =
    (rs : List Region) (staging : ℕ) (s : Limits) (fs : List Fields) (barriers : List Bool) (p : Submission) (pieces : List Descriptor) →
    0 < s.greatest_transfer → MayRelocate rs staging s fs → IsSubmissionWith barriers s fs p →
    map fields pieces ≡ map (relocated_fields (relocated rs)) (map fields p.pieces) →
    IsSubmissionWith barriers (staged_at staging s) (map (relocated_fields (relocated rs)) fs) (with_pieces (staged_at staging s) pieces p)
