-- A computed sample: one move of 4,100 bytes in two pieces of 4,096 and 4, and its buffers at other addresses.
use Rattle.std.specs.Prelude.{ℕ, List, [], ◌∷◌}
use Rattle.dsa_descriptor.specs.declared.op.Op.TheVariants.{Move}
use Rattle.dsa_descriptor.specs.Fields.{Fields}
use Rattle.dsa_image.specs.Samples.{sample}
use Rattle.dsa_settings.specs.Settings.{Limits, limits}
use Rattle.dsa_settings.specs.Settings.BatchPrices.{SamePrice}
use Rattle.dsa_prepared.specs.Regions.{Region}

-- the source, the destination and the records; the source goes to after the destination, and to an odd address
abbrev pub sample_regions : List Region
sample_regions =
    record { base = 0x1000; len = 4100; new_base = 0x900001 }
    ∷ record { base = 0x4000; len = 4100; new_base = 0x600000 }
    ∷ record { base = 0x8000; len = 64; new_base = 0x7000 }
    ∷ []

-- pieces of at most 4,096 bytes, and batches of at most 16
abbrev pub sample_settings : Limits
sample_settings = limits 16 4096 100 (SamePrice 100) 10 0x10000000

-- where the staging area goes
abbrev pub sample_staging : ℕ
sample_staging = 0x20000000

-- a move of 4,100 bytes, which has two pieces
abbrev pub sample_list : List Fields
sample_list = sample 0x0c 0x8000 4100 (Move 0x1000 0x4000) ∷ []

-- the same list on the new buffers
abbrev pub relocated_sample : List Fields
relocated_sample = sample 0x0c 0x7000 4100 (Move 0x900001 0x600000) ∷ []
