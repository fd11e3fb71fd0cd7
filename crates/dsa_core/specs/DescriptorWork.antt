-- Descriptors as engines work them.
use Rattle.std.specs.Prelude.{IsSome}
use Rattle.dsa_descriptor.specs.declared.descriptor.Descriptor.{Descriptor}
use Rattle.dsa_descriptor.specs.Descriptors.{fields}
use Rattle.dsa_descriptor.specs.Fields.{Fields}
use Rattle.dsa_descriptor.specs.Profile.{IsListed}
use Rattle.dsa_image.specs.declared.inputs.Inputs.{Inputs}
use Rattle.dsa_image.specs.declared.outputs.Outputs.{Outputs}
use Rattle.dsa_image.specs.declared.partial.Partial.{Partial}
use Rattle.dsa_image.specs.Changes.{new_bytes}
use Rattle.dsa_image.specs.Effects.{fold_done, record_from, statuses}
use Rattle.dsa_image.specs.Gathered.{AreReadIn}
use Rattle.dsa_image.specs.Memory.{changed}
use Rattle.dsa_image.specs.Worked.{AreWorkOf}
use Rattle.dsa_core.specs.DescriptorMachine.{descriptor_machine}
use Rattle.dsa_core.specs.Work.{Work}

-- descriptors as engines work them, line by line from copies of what each line reads
abbrev pub descriptor_work : Work Descriptor Fields Partial Inputs Outputs
descriptor_work =
    record {
      shown = fields;
      machine = descriptor_machine;
      listed = IsListed;
      executed = fold_done;
      statuses = statuses;
      record_from = record_from;
      piece = λ i. fields i.descriptor;
      place = λ i. i.line;
      partial = λ i. i.partial;
      reads = AreReadIn;
      gives = AreWorkOf;
      stored = λ o m. record { memory = changed m (new_bytes o); answer = o.partial };
      targets = λ o a. IsSome (new_bytes o a);
    }
