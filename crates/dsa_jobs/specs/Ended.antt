-- The status that the program ends with.
use Rattle.std.specs.Prelude.{ℕ}
use Rattle.dsa_jobs.specs.declared.serving.Ending.{Ending}
use Rattle.dsa_jobs.specs.declared.serving.Ending.TheVariants.{AllServed, ReadFault, WriteFault}

-- 0 if the lines of all jobs were written, and 2 if reading or writing failed (this project's choice)
abbrev pub ending_status : Ending → ℕ
ending_status AllServed = 0
ending_status ReadFault = 2
ending_status WriteFault = 2
