-- What a refusal of a tracker reports. Names, numbers and indices are this project's choice.
use Rattle.std.specs.Prelude.{ℕ, List, codes}
use Rattle.dsa_descriptor.specs.declared.indices.Indices.{Indices}
use Rattle.dsa_descriptor.specs.declared.indices.Indices.TheVariants.{Empty, One}
use Rattle.dsa_tracker.specs.declared.fault.TrackFault.{TrackFault}
use Rattle.dsa_tracker.specs.declared.fault.WordsFault.{WordsFault}
use Rattle.dsa_tracker.specs.declared.fault.WordsFault.TheVariants.{NotATracker, Track}
use Rattle.dsa_tracker.specs.declared.fault.TrackFault.TheVariants.{NoSlot, TooManySpans, NotOutstanding, Held, Wrap, OtherOwner, OtherPlan, FewSlots}

-- the number, the name and the indices
abbrev pub track_number : TrackFault → ℕ
track_number NoSlot = 120
track_number (TooManySpans count) = 121
track_number (NotOutstanding slot) = 122
track_number (Held slot) = 123
track_number (Wrap span) = 124
track_number (OtherOwner piece) = 125
track_number OtherPlan = 127
track_number (FewSlots count) = 128

-- its name
abbrev pub track_name : TrackFault → List ℕ
track_name NoSlot = codes "NoSlot"
track_name (TooManySpans count) = codes "TooManySpans"
track_name (NotOutstanding slot) = codes "NotOutstanding"
track_name (Held slot) = codes "Held"
track_name (Wrap span) = codes "Wrap"
track_name (OtherOwner piece) = codes "OtherOwner"
track_name OtherPlan = codes "OtherPlan"
track_name (FewSlots count) = codes "FewSlots"

-- the number that it names, if it names one
abbrev pub track_indices : TrackFault → Indices
track_indices NoSlot = Empty
track_indices (TooManySpans count) = One count
track_indices (NotOutstanding slot) = One slot
track_indices (Held slot) = One slot
track_indices (Wrap span) = One span
track_indices (OtherOwner piece) = One piece
track_indices OtherPlan = Empty
track_indices (FewSlots count) = One count

-- the number of a refusal of words
abbrev pub words_number : WordsFault → ℕ
words_number NotATracker = 126
words_number (Track fault) = track_number fault

-- and the number that it names
abbrev pub words_indices : WordsFault → Indices
words_indices NotATracker = Empty
words_indices (Track fault) = track_indices fault
