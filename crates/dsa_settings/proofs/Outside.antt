-- A setting outside its limits.
use Rattle.dsa_settings.specs.Settings.{AreInLimits, Limits}
use Rattle.dsa_settings.specs.Outside.{IsFirstOutside}
use Rattle.dsa_settings.specs.declared.setting.Setting.{Setting}
use Rattle.dsa_settings.specs.declared.setting.Setting.TheVariants.{GreatestBatch, GreatestTransfer, Lone, Fence, Staging, Batch}

-- with one setting outside its limits not all are in theirs
pub outside_refuses : (setting : Setting) (s : Limits) → IsFirstOutside setting s → ¬ AreInLimits s
outside_refuses GreatestBatch s (before, wrong) within = wrong (within.least_batch, within.most_batch)
outside_refuses GreatestTransfer s (before, wrong) within =
    wrong (within.least_transfer, within.most_transfer, within.transfer_by_eights)
outside_refuses Lone s (before, wrong) within = wrong within.most_lone
outside_refuses Fence s (before, wrong) within = wrong within.most_fence
outside_refuses Staging s (before, wrong) within = wrong (within.most_staging, within.staging_by_lines)
outside_refuses Batch s (before, wrong) within = wrong within.batch_prices
