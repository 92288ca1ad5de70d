-- What a command comes to: texts, programs that are loaded, and runs.
use Rattle.std.specs.Prelude.{◌≡◌, ℕ, List, [], ◌++◌, Option, Some, None, Result, Ok, Err}
use Rattle.guest_types.specs.Memory.{Memory}
use Rattle.machine_model.specs.declared.elf_fault.ElfFault.{ElfFault}
use Rattle.machine_model.specs.declared.outcome.Outcome.{Outcome as OutcomeAnswer}
use Rattle.machine_model.specs.declared.outcome.Outcome.TheVariants as outcomes
use Rattle.machine_model.specs.DumpText.{dump_text}
use Rattle.machine_model.specs.Load.{Image, load}
use Rattle.machine_model.specs.OutcomeText.{outcome_text}
use Rattle.machine_model.specs.Run.{Outcome, End, Stop, Spent, memory_left}
use Rattle.map_text.specs.declared.fault.MapFault.{MapFault}
use Rattle.command_line.specs.Line.{Extent}
use Rattle.refusals.specs.declared.refusal.Refusal.{Refusal}
use Rattle.refusals.specs.declared.refusal.Refusal.TheVariants.{Elf, Map, Memory as NoMemory}
use Rattle.refusals.specs.declared.refusal.Done.{Done}
use Rattle.refusals.specs.declared.refusal.Done.TheVariants as done
use Rattle.command_answers.specs.declared.run_report.RunReport.{RunReport}
use Rattle.command_answers.specs.Answer.{Expected}

-- a command that is done and puts this text on the output
abbrev pub ended : List ℕ → Expected
ended text = Ok (record { how = done.Ended; text = text })

-- some work is wanted, and this holds of it
abbrev pub SomeExpected : (Expected → Type 0) → (Expected → Type 0) → Type 0
SomeExpected W P = (w : Expected) × W w × P w

-- wherever some work is wanted, this holds of a work that is wanted
abbrev pub WhereExpected : (Expected → Type 0) → (Expected → Type 0) → Type 0
WhereExpected W P = (work : Expected) → W work → (w : Expected) × W w × P w

-- ---- programs and maps

abbrev pub loaded : Result Image ElfFault → Result Image Refusal
loaded (Ok image) = Ok image
loaded (Err fault) = Err (Elf fault)

-- the image of a program
abbrev pub program_of : List ℕ → Result Image Refusal
program_of bytes = loaded (load bytes)

abbrev pub mapped : Result Memory MapFault → Result Memory Refusal
mapped (Ok pages) = Ok pages
mapped (Err fault) = Err (Map fault)

-- a refusal of a program or its map is the wanted one, or want of memory
abbrev pub RefusesProgram : Expected → Refusal → Type 0
RefusesProgram wanted NoMemory = Unit {0}
RefusesProgram wanted (Elf fault) = wanted ≡ Err (Elf fault)
RefusesProgram wanted (Map fault) = wanted ≡ Err (Map fault)
RefusesProgram wanted refusal = ⊥

-- ---- runs

abbrev pub done_by : Outcome → Done
done_by (End memory result steps) = done.Ended
done_by (Stop kind pc at memory steps) = done.Stopped
done_by (Spent pc memory steps) = done.Spent

-- the same of an outcome as the machine answers it
abbrev pub done_of : OutcomeAnswer → Done
done_of (outcomes.End result) = done.Ended
done_of (outcomes.Stop stop) = done.Stopped
done_of outcomes.Spent = done.Spent

-- the dump of the bytes that are asked for
abbrev pub dump_of : Option Extent → Memory → List ℕ
dump_of None memory = []
dump_of (Some e) memory = dump_text memory e.address e.len

abbrev pub success_of : Option Extent → Outcome → Expected
success_of dump outcome = Ok (record { how = done_by outcome; text = outcome_text outcome ++ dump_of dump (memory_left outcome) })

-- what a run that was played comes to
abbrev pub run_report : RunReport → Expected
run_report p = Ok (record { how = p.done; text = p.text.items })
