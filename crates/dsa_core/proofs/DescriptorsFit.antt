-- The parts of the work of descriptors fit each other.
use Rattle.std.proofs.Common.{List, refl}
use Rattle.std.specs.List.{All}
use Rattle.dsa_descriptor.specs.Fields.{Fields}
use Rattle.dsa_descriptor.specs.Profile.{IsListed, RegionsApart}
use Rattle.dsa_image.proofs.Parcels.{work_memory, work_answer, work_held}
use Rattle.dsa_core.specs.DescriptorWork.{descriptor_work}
use Rattle.dsa_core.specs.Work.{IsWork}
use Rattle.dsa_core.proofs.DescriptorSteps.{descriptor_local, memory_is_fold, statuses_are}

-- what is listed has its regions apart
apart : (ds : List Fields) → All IsListed ds → All (λ d. RegionsApart d.op d.size) ds
apart ds all k d lt = (all k d lt).regions_apart

pub descriptors_fit : IsWork descriptor_work
descriptors_fit =
    record {
      are_listed = λ d. d.listed;
      local = descriptor_local;
      memory_is = λ ds m all. memory_is_fold ds m (apart ds all);
      statuses_are = λ ds m all. statuses_are ds m (apart ds all);
      status_is = λ d m p. refl;
      has_place = λ i. i.place;
      stored_is = λ m i o gives reads k. record { memory = work_memory m i o gives reads k; answer = work_answer m i o gives reads k };
      targets_held = work_held;
    }
