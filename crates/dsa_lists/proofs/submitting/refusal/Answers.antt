use Rattle.std.proofs.Common.{ℕ, length, map, subst, arith}
use Rattle.dsa_settings.specs.Staging.{staging_area}
use Rattle.dsa_calls.specs.Judge.{FitTransfer}
use Rattle.dsa_operations.specs.Operations.{size_of}
use Rattle.dsa_lists.specs.Submissions.{NoneHas, TouchesArea}
use Rattle.dsa_lists.proofs.submitting.refusal.Goals as goal

pub returns : goal.returns
returns c =
    let operations = c.args.operations.now in
    record {
      few = omega (arith, c.if-operations-gt-MOST_PIECES.false);
      short = subst (λ (n : ℕ). FitTransfer n (map size_of operations)) c.greatest_transfer.ensures.value c.in_default.ensures;
      clear = subst (λ (first : ℕ). NoneHas (TouchesArea (staging_area first (length operations))) operations) c.staging.ensures.value c.in_default-first_meeting.ensures;
    }
