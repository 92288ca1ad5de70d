-- What a machine keeps of the words that it has decoded.
use Rattle.std.specs.Prelude.{◌≡◌, ℕ, ◌+◌, ◌%◌, ◌^◌, ◌<◌, Some, None}
use Rattle.guest_types.specs.Memory.{Memory, fetched}
use Rattle.a64_code.specs.View as a64
use Rattle.sve_code.specs.View as sve
use Rattle.machine_model.specs.declared.outcome.StopKind.TheVariants.{Fetch}
use Rattle.machine_model.specs.InstructionTable as table
use Rattle.machine_model.specs.Machine.{State, Step, Stopped}
use Rattle.machine_model.specs.OneStep.{does, do_word}
use Rattle.a64_machine.specs.Prepared.{prepared_does, branch_after, BothGo}
use Rattle.a64_machine.specs.declared.prepared_form.Prepared.{Prepared}
use Rattle.sve_machine.specs.declared.decoded.CacheEntry.{CacheEntry}
use Rattle.sve_machine.specs.declared.decoded.Decoded.{Decoded}
use Rattle.sve_machine.specs.declared.decoded.Decoded.TheVariants.{Nowhere, Ready, Scalar, Vector}

-- what is done by what was decoded
abbrev pub decoded_does : Decoded → State → Step
decoded_does Nowhere s = Stopped Fetch s.pc s.pc s.memory
decoded_does (Ready prepared) s = prepared_does prepared s
decoded_does (Scalar word) s = does (table.Scalar (a64.instruction_view word)) s
decoded_does (Vector word) s = does (table.Vector (sve.instruction_view word)) s

-- the branch that may be done with it is that of the word after this place
abbrev pub HoldsAfter : Memory → ℕ → Decoded → Type 0
HoldsAfter memory pc Nowhere = Unit {0}
HoldsAfter memory pc (Ready prepared) =
    (branch : Prepared) → branch_after prepared ≡ Some branch
    → (s : State) → s.pc ≡ (pc + 4) % 2 ^ 64 → do_word (fetched memory ((pc + 4) % 2 ^ 64)) s ≡ prepared_does branch s
HoldsAfter memory pc (Scalar word) = Unit {0}
HoldsAfter memory pc (Vector word) = Unit {0}

-- a step at this place does what the entry holds
abbrev pub Holds : Memory → ℕ → CacheEntry → Type 0
Holds memory pc entry =
    ((s : State) → s.pc ≡ pc → do_word (fetched memory pc) s ≡ decoded_does entry.decoded s) × HoldsAfter memory pc entry.decoded

-- the same at the entry's own place
abbrev pub IsDecodedFrom : Memory → CacheEntry → Type 0
IsDecodedFrom memory entry = (entry.place < 2 ^ 64) × Holds memory entry.place entry

-- it is no prepared instruction
abbrev pub IsOther : Decoded → Type 0
IsOther Nowhere = Unit {0}
IsOther (Ready prepared) = ⊥
IsOther (Scalar word) = Unit {0}
IsOther (Vector word) = Unit {0}

-- no branch may be done with it
abbrev pub IsAlone : Decoded → Type 0
IsAlone Nowhere = Unit {0}
IsAlone (Ready prepared) = branch_after prepared ≡ None
IsAlone (Scalar word) = Unit {0}
IsAlone (Vector word) = Unit {0}

-- it and the branch after it go on, one after the other
abbrev pub DecodedBothGo : Decoded → (before after : State) → Type 0
DecodedBothGo Nowhere before after = ⊥
DecodedBothGo (Ready prepared) before after = BothGo prepared before after
DecodedBothGo (Scalar word) before after = ⊥
DecodedBothGo (Vector word) before after = ⊥
