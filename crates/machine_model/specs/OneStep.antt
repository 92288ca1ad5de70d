-- One step of the machine: the fetch, the instruction of the word, and what it does (this project's own: the manual's
-- sentences on each instruction are `Effects` and `VectorEffects`).
use Rattle.std.specs.Prelude.{ℕ, Bool, false, Option, Some, None}
use Rattle.guest_types.specs.Memory.{fetched}
use Rattle.machine_model.specs.declared.outcome.StopKind.TheVariants.{Fetch, Undefined}
use Rattle.machine_model.specs.Machine.{State, Step, Stopped}
use Rattle.machine_model.specs.Effects.{act}
use Rattle.machine_model.specs.VectorEffects.{do_vector, vector_cut, field_of}
use Rattle.machine_model.specs.InstructionTable.{Listed, Scalar, Vector, listed}

-- the instruction of a word, in either table
unfoldable pub reads_word : ℕ → Option Listed
reads_word word = listed word

-- what an instruction does
abbrev pub does : Listed → State → Step
does (Scalar i) s = act i.name i.numbers s
does (Vector v) s = do_vector v s

-- what the word at PC does, where there is one
abbrev pub do_word : Option ℕ → State → Step
do_word None s = Stopped Fetch s.pc s.pc s.memory
do_word (Some word) s = elim (reads_word word) [ None ↦ Stopped Undefined s.pc word s.memory | Some i ↦ does i s ]

abbrev pub step : State → Step
step s = do_word (fetched s.memory s.pc) s

-- ---- whether a step suppresses a free element of a load that may stop early; at most one a step

abbrev pub cuts_in : Listed → State → Bool
cuts_in (Scalar i) s = false
cuts_in (Vector v) s = vector_cut v.name (field_of v.name v.numbers) s

abbrev pub word_cuts : Option ℕ → State → Bool
word_cuts None s = false
word_cuts (Some word) s = elim (reads_word word) [ None ↦ false | Some i ↦ cuts_in i s ]

abbrev pub suppresses : State → Bool
suppresses s = word_cuts (fetched s.memory s.pc) s
