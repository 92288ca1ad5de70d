-- What contracts see of the lines of a script.
use Rattle.std.specs.Prelude.{◌≡◌, ◌⊎◌, List, map, Vec, Result, Ok, Err}
use Rattle.guest_types.specs.Memory.{Memory as Pages}
use Rattle.guest_types.specs.declared.image.Image.{Image as ImageData}
use Rattle.machine_model.specs.Load.{Image}
use Rattle.elf_image.specs.Loaded.{plain}
use Rattle.pipe_run.specs.PipeRun.{Line, Fits}
use Rattle.refusals.specs.declared.refusal.Refusal.{Refusal}
use Rattle.refusals.specs.declared.refusal.Refusal.TheVariants.{TooLong, Elf, Map, Pipe, Memory, File}
use Rattle.command_answers.specs.declared.run_report.RunReport.{RunReport}
use Rattle.command_answers.specs.Answer.{Expected}
use Rattle.command_answers.specs.Works.{run_report}
use Rattle.pipe_command.specs.declared.loaded.LoadedLine.{LoadedLine}
use Rattle.pipe_command.specs.declared.loaded.LoadedScript.{LoadedScript}

abbrev pub line_view : LoadedLine → Line
line_view line = record { image = plain line.image; args = line.args.items }

abbrev pub lines_view : List LoadedLine → List Line
lines_view lines = map line_view lines

-- what a call answers, as plain data

abbrev pub plain_in : Result ImageData Refusal → Result Image Refusal
plain_in (Ok image) = Ok (plain image)
plain_in (Err refusal) = Err refusal

abbrev pub loaded_in : {A : Type 0} → Result (Vec LoadedLine A) Refusal → Result (List Line) Refusal
loaded_in (Ok lines) = Ok (lines_view lines.items)
loaded_in (Err refusal) = Err refusal

-- these lines, or a refusal
abbrev pub lines_by : List Line → Result (Unit {0}) Refusal → Result (List Line) Refusal
lines_by lines (Ok done) = Ok lines
lines_by lines (Err refusal) = Err refusal

abbrev pub script_in : Result LoadedScript Refusal → Result (List Line × Pages) Refusal
script_in (Ok script) = Ok (lines_view script.lines.items, script.map.pages.items)
script_in (Err refusal) = Err refusal

abbrev pub report_in : Result RunReport Refusal → Expected
report_in (Ok report) = run_report report
report_in (Err refusal) = Err refusal

-- a refusal is the wanted one, or want of memory
abbrev pub Refuses : {T : Type 0} → Result T Refusal → Refusal → Type 0
Refuses wanted refusal = (refusal ≡ Memory) ⊎ (wanted ≡ Err refusal)

-- a refusal by what a file holds, or want of memory
abbrev pub IsOfContent : Refusal → Type 0
IsOfContent Memory = Unit {0}
IsOfContent (Elf fault) = Unit {0}
IsOfContent (Map fault) = Unit {0}
IsOfContent (Pipe fault) = Unit {0}
IsOfContent refusal = ⊥

-- the same, or a refusal of a read
abbrev pub IsOfFiles : Refusal → Type 0
IsOfFiles TooLong = Unit {0}
IsOfFiles File = Unit {0}
IsOfFiles refusal = IsOfContent refusal

-- a map fits beside the image of a line
abbrev pub IsFitting : Pages → Line → Type 0
IsFitting pages line = Fits line.image.pages pages
