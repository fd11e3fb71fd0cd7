use Rattle.std.proofs.Common.{◌≡◌, true, false, refl}
use Rattle.dsa_recording.specs.Flaws.OverwritesBatch.{meets_record, data_meet_list, record_meets_list}
use Rattle.dsa_recording.proofs.Flawed.{overwrites_none, overwrites_by_record}
use Rattle.dsa_recording.proofs.flaws.overwrites_batch.Goals as goal

pub returns-then-meets_record : goal.returns-then-meets_record
returns-then-meets_record c = (λ _. meets_record (c.meets_record.ensures.0 c.if-meets_record.true), λ _. refl)

pub returns-then-data_meet_list : goal.returns-then-data_meet_list
returns-then-data_meet_list c = (λ _. data_meet_list (c.data_meet_list.ensures.0 c.if-data_meet_list.true), λ _. refl)

pub returns-then-is_in_own_descriptor : goal.returns-then-is_in_own_descriptor
returns-then-is_in_own_descriptor c = (
  λ (h : false ≡ true). absurd cc,
  λ o.
      absurd (overwrites_none c.args.head.now c.args.k c.args.entry.now o
      (λ met. let so = c.meets_record.ensures.1 met in absurd cc)
      (λ met. let so = c.data_meet_list.ensures.1 met in absurd cc)
      (c.is_in_own_descriptor.ensures.0 c.if-is_in_own_descriptor.true)),
)

pub returns : goal.returns
returns c = (
  λ so. record_meets_list (c.record_meets_list.ensures.0 so) (λ own. let inside = c.is_in_own_descriptor.ensures.1 own in absurd cc),
  λ o.
      c.record_meets_list.ensures.1 (overwrites_by_record c.args.head.now c.args.k c.args.entry.now o
      (λ met. let so = c.meets_record.ensures.1 met in absurd cc)
      (λ met. let so = c.data_meet_list.ensures.1 met in absurd cc)),
)
