use Rattle.dsa_core.specs.DescriptorMachine.{descriptor_machine}
use Rattle.dsa_flight.specs.Hosted.{hosted_machine}
use Rattle.dsa_flight.specs.Spans.{any_read_spans, any_written_spans}
use Rattle.dsa_flight.proofs.Spans.{descriptors_tell, hosted_tell}
use Rattle.dsa_ranges.specs.Ranges.{read_spans, written_spans}
use Rattle.dsa_tracker.proofs.Honest.{tracker_ends_in_turn}
use Rattle.dsa_tracker.proofs.laws.tracker_ends_in_turn.Goals as goal

pub returns : goal.returns
returns c =
    record {
      descriptors = tracker_ends_in_turn descriptor_machine read_spans written_spans descriptors_tell;
      hosted = tracker_ends_in_turn hosted_machine any_read_spans any_written_spans hosted_tell;
    }
