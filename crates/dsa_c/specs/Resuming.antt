-- What resuming a list from C promises.
use Rattle.std.specs.Prelude.{◌≡◌, ◌⊎◌, ℕ, ◌<◌, ◌≤◌, ◌==◌, List, Option, Some, None, length, Ok, Err, if◌then◌else◌}
use Rattle.dsa_resume.specs.declared.fault.ResumeFault.{ResumeFault}
use Rattle.dsa_resume.specs.declared.fault.ResumeFault.TheVariants.{Plan, NotFailed, PassedBarrier, Records, SharedRecord}
use Rattle.dsa_resume.specs.declared.left.LeftOrder.{LeftOrder}
use Rattle.dsa_resume.specs.declared.left.LeftOrder.TheVariants.{AsListed, FailedFirst}
use Rattle.dsa_resume.specs.declared.rest.LeftOut.{LeftOut}
use Rattle.dsa_resume.specs.Rest.{Remainder}
use Rattle.dsa_operations.specs.declared.operation.Operation.{Operation}
use Rattle.dsa_lists.specs.Resuming.{IsListAgain, ResumesAnyList, rest_bytes}
use Rattle.dsa_c.specs.declared.resuming.RawResumed.{RawResumed}
use Rattle.dsa_c.specs.declared.settings.RawSettings.{RawSettings}
use Rattle.dsa_c.specs.declared.refusal.RawRefusal.{RawRefusal}
use Rattle.dsa_c.specs.Preparing.{refusal_at}
use Rattle.dsa_c.specs.Raw.{limits_of, AreSettings, RefusesUnder, written, refusal_of}

-- the order that a number asks for: 0 as listed, any other the failed pieces first (this project's choice)
abbrev pub order_of : ℕ → LeftOrder
order_of failed_first = if failed_first == 0 then AsListed else FailedFirst

-- the refusal of a cause why a list is not resumed; numbers 112 to 115 (this project's choice)
abbrev pub resume_refusal_of : ResumeFault → RawRefusal
resume_refusal_of (Plan fault) = refusal_of fault
resume_refusal_of Records = refusal_at 112 0 0
resume_refusal_of (SharedRecord i j) = refusal_at 113 i j
resume_refusal_of (NotFailed i) = refusal_at 114 i 0
resume_refusal_of (PassedBarrier i j) = refusal_at 115 i j

-- the refusal of a buffer that is too small for the list: number 93, and the bytes that are needed (this project's choice)
abbrev pub no_room_for_list : ℕ → RawRefusal
no_room_for_list bytes = refusal_at 93 bytes 0

-- how many pieces are left out
abbrev pub left_out_count : Option LeftOut → ℕ
left_out_count None = 0
left_out_count (Some out) = out.pieces

-- the first that stops them, 0 if none is left out
abbrev pub stopped_by : Option LeftOut → ℕ
stopped_by None = 0
stopped_by (Some out) = out.stopped_by

-- that and the length of these bytes
abbrev pub resumed_of : Remainder Operation → RawResumed
resumed_of rest =
    record { rest_len = length (rest_bytes rest); left_out = left_out_count rest.left_out; stopped_by = stopped_by rest.left_out }

-- this is what is left, and it can be planned with the same settings
pub record IsLeftOf (s : RawSettings) (table list records given_up : List ℕ) (failed_first : ℕ) (rest : Remainder Operation) : Type 0 where
  pub settings : AreSettings s table
  pub resumed : ResumesAnyList (limits_of s table) list records given_up (order_of failed_first) (Ok rest)
  pub again : IsListAgain (limits_of s table) rest

-- these are its bytes, and what is said of it
pub record IsLeftIn (s : RawSettings) (table list records given_up : List ℕ) (failed_first : ℕ) (bytes : List ℕ) (resumed : RawResumed) : Type 0 where
  pub rest : Remainder Operation
  pub left : IsLeftOf s table list records given_up failed_first rest
  pub bytes_are : bytes ≡ rest_bytes rest
  pub resumed_is : resumed ≡ resumed_of rest

-- they are at the front of the buffer, whose rest is unchanged
pub record IsResumedInto (s : RawSettings) (table list records given_up : List ℕ) (failed_first : ℕ) (buffer new_buffer : List ℕ) (resumed : RawResumed) : Type 0 where
  pub bytes : List ℕ
  pub left : IsLeftIn s table list records given_up failed_first bytes resumed
  pub fits : length bytes ≤ length buffer
  pub buffer_is : new_buffer ≡ written bytes buffer

-- why nothing is written: resuming refuses the list; or what is left does not fit, and so many bytes are needed
abbrev pub RefusesResume : RawSettings → List ℕ → List ℕ → List ℕ → List ℕ → ℕ → ℕ → RawRefusal → Type 0
RefusesResume s table list records given_up failed_first room r =
    RefusesUnder resume_refusal_of (λ l fault. ResumesAnyList l list records given_up (order_of failed_first) (Err fault)) s table r
    ⊎ ((rest : Remainder Operation) × IsLeftOf s table list records given_up failed_first rest × (room < length (rest_bytes rest))
    × (r ≡ no_room_for_list (length (rest_bytes rest))))
