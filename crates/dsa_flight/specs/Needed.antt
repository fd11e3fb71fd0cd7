-- Of two submissions that conflict the later has to wait. Whether a wait that is left out shows depends on the data, so the
-- law speaks of pieces that show the order in which they are done: for any two submissions that conflict there are some that
-- read and write just what these do, and a flight without the wait that does not end in turn. (This project's choice.)
use Rattle.std.specs.Prelude.{◌≢◌, ℕ, ◌⊎◌, Bool, true, false, IsTrue, Some, None, List, [], ◌∷◌, if◌then◌else◌}
use Rattle.dsa_image.specs.Memory.{Memory, Holds, byte_at, changed}
use Rattle.dsa_core.specs.Machine.{Machine}
use Rattle.dsa_core.specs.Run.{Setup}
use Rattle.dsa_core.specs.declared.event.Event.{Event}
use Rattle.dsa_flight.specs.Flight.{Flight, IsFlight, AllEnded, AllFitting}
use Rattle.dsa_flight.specs.Laws.{EndsInTurn}

-- what a submission reads and writes, and a mark of its own
pub record Accesses : Type 0 where
  pub mark : ℕ
  pub reads : ℕ → Bool
  pub writes : ℕ → Bool

-- pieces that show at the address a in which order they are done: each leaves its mark wherever it writes, and its status
-- is what it read at a
abbrev pub marking : ℕ → Machine Accesses ℕ
marking a =
    record {
      start = 0;
      reads = λ d b. IsTrue (d.reads b);
      writes = λ d b. IsTrue (d.writes b);
      lines = λ d. 0;
      line = λ d t m p. record { memory = m; answer = p };
      finish = λ d m p. record {
        memory = changed m (λ b. if d.writes b then Some d.mark else None);
        answer = if d.reads a then byte_at m a else 1;
      };
    }

-- a submission of one piece
abbrev pub single : Accesses → Setup Accesses
single d = record { pieces = d ∷ []; epoch = λ i. 0; engines = 1 }

-- one writes the address, and the other reads or writes it
abbrev pub ConflictAt : Accesses → Accesses → ℕ → Type 0
ConflictAt x y a = (IsTrue (x.writes a) × (IsTrue (y.reads a) ⊎ IsTrue (y.writes a))) ⊎ (IsTrue (x.reads a) × IsTrue (y.writes a))

-- the memory has each address that it reads or writes
abbrev pub HoldsAccesses : Memory → Accesses → Type 0
HoldsAccesses m d = (a : ℕ) → IsTrue (d.reads a) ⊎ IsTrue (d.writes a) → Holds m a

-- all submissions go, and none waits
abbrev pub all_go : ℕ → Bool
all_go x = true

-- no submission waits for another
abbrev pub none_wait : ℕ → ℕ → Bool
none_wait x y = false

-- a complete flight that does not end in turn
pub record GoesWrong (a : ℕ) (x y : Accesses) (m : Memory) : Type 0 where
  pub events : List (ℕ × Event)
  pub end : Flight ℕ
  pub fits : AllFitting (marking a) (single x ∷ single y ∷ []) m
  pub flight : IsFlight (marking a) (single x ∷ single y ∷ []) all_go none_wait m events end
  pub ended : AllEnded (single x ∷ single y ∷ []) all_go end
  pub wrong : EndsInTurn (marking a) all_go (single x ∷ single y ∷ []) end.lanes m end.memory → ⊥

-- from each memory that shows marks at the address of the conflict
abbrev pub NoFewerWaits : Type 0
NoFewerWaits =
    (a : ℕ) (x y : Accesses) (m : Memory) → HoldsAccesses m x → HoldsAccesses m y → ConflictAt x y a →
    x.mark ≢ y.mark → x.mark ≢ byte_at m a → y.mark ≢ byte_at m a → GoesWrong a x y m
