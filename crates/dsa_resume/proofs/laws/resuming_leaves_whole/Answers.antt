use Rattle.dsa_descriptor.specs.declared.descriptor.Descriptor.{Descriptor}
use Rattle.dsa_resume.specs.Work.{descriptor_work}
use Rattle.dsa_resume.proofs.Descriptors.{descriptors_in_order, is_work}
use Rattle.dsa_resume.proofs.Parting.{none_given_up, resumes_in_order}
use Rattle.dsa_resume.proofs.Resting.{rest_leaves_whole}
use Rattle.dsa_resume.proofs.laws.resuming_leaves_whole.Goals as goal

pub returns-clause-in_order : goal.returns-clause-in_order
returns-clause-in_order c = resumes_in_order descriptor_work is_work

pub returns-clause-with_barriers : goal.returns-clause-with_barriers
returns-clause-with_barriers c = rest_leaves_whole descriptor_work is_work

pub returns-clause-all : goal.returns-clause-all
returns-clause-all c = none_given_up Descriptor

pub returns-clause-leaves : goal.returns-clause-leaves
returns-clause-leaves c = descriptors_in_order
