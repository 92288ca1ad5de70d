-- The exit call among the words of a compiled file. A function returns where the file ends, so that its words are those of the file
-- but for this one.
use Rattle.std.specs.Prelude.{◌≡◌, ℕ, Bool, true, false, List, [], ◌∷◌, Option, Some, None}
use Rattle.std.specs.List.{filter}
use Rattle.a64_code.specs.Table.{Name, svc}
use Rattle.machine_model.specs.InstructionTable.{Listed, Scalar, Vector, listed}

-- SVC #0, as an instruction and as a word
abbrev pub exit_call : Listed
exit_call = Scalar (record { name = svc; numbers = 0 ∷ [] })

abbrev pub exit_word : ℕ
exit_word = 0xD4000001

-- whether an instruction is an SVC, with any number
abbrev pub is_svc : Name → Bool
is_svc svc = true
is_svc _ = false

abbrev pub calls_system : Listed → Bool
calls_system (Scalar i) = is_svc i.name
calls_system (Vector i) = false

abbrev pub is_system_call : (word : ℕ) → Bool
is_system_call word = elim (listed word) [ None ↦ false | Some i ↦ calls_system i ]

-- of the words one alone is an SVC, and that is SVC #0
abbrev pub HasOneExit : (words : List ℕ) → Type 0
HasOneExit words = filter is_system_call words ≡ exit_word ∷ []
