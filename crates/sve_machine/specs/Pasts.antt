-- What a machine was each time that it was kept, by its memories and by the rest beside them.
use Rattle.std.specs.Prelude.{◌≡◌, List, [], ◌∷◌, length, Option, Some, None, All}
use Rattle.guest_types.specs.Memory.{Memory}
use Rattle.machine_model.specs.Debugged.{Past, is_never}
use Rattle.a64_machine.specs.Cores.{state_of}
use Rattle.sve_machine.specs.declared.decoded.CacheEntry.{CacheEntry}
use Rattle.sve_machine.specs.declared.snapshot.Snapshot.{Snapshot}
use Rattle.sve_machine.specs.DecodedWords.{IsDecodedFrom}

-- a machine of this memory and this rest
abbrev pub past_at : Memory → Snapshot → Past
past_at memory rest =
    record { state = state_of rest.core memory rest.vectors; steps = rest.steps; over = rest.over; quiet = is_never rest.vectors.stops }

abbrev pub past_by : List Memory → List Snapshot → List Past
past_by [] rests = []
past_by (memory ∷ memories) [] = []
past_by (memory ∷ memories) (rest ∷ rests) = past_at memory rest ∷ past_by memories rests

-- none where no past was begun
abbrev pub rests_of : Option (List Snapshot) → List Snapshot
rests_of None = []
rests_of (Some rests) = rests

-- as many memories as rests beside them, where a past was begun
abbrev pub AreBeside : List Memory → Option (List Snapshot) → Type 0
AreBeside memories None = Unit {0}
AreBeside memories (Some rests) = length memories ≡ length rests

-- The words that were decoded are those of the memory, and the rests stand beside the memories that are kept.
pub record IsWhole (memory : Memory) (memories : List Memory) (entries : List CacheEntry) (history : Option (List Snapshot)) : Type 0 where
  pub decoded : All (IsDecodedFrom memory) entries
  pub beside : AreBeside memories history
