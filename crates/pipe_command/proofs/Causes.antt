-- Refusals of scripts, of maps and of the files of lines.
use mathlib.Core.Logic.{⊎_elim}
use Rattle.std.proofs.Common.{◌≡◌, ◌≢◌, ℕ, List, [], Option, Some, Result, Ok, Err, inl, inr, refl, sym, ap, ◌∙◌, subst}
use Rattle.std.specs.Prelude.{IfErr, IsErrAnd}
use Rattle.guest_types.specs.Memory.{Memory as Pages}
use Rattle.machine_model.specs.declared.elf_fault.ElfFault.{ElfFault}
use Rattle.machine_model.specs.declared.elf_fault.ElfFault.TheVariants as elf
use Rattle.machine_model.specs.Load.{Image, load}
use Rattle.elf_image.specs.Loaded.{Refuses as RefusesElf}
use Rattle.map_text.specs.declared.fault.MapFault.{MapFault}
use Rattle.map_text.specs.declared.fault.MapFault.TheVariants as maps
use Rattle.map_text.specs.Mapping.{map_of as pages_of}
use Rattle.map_text.specs.View.{Refuses as RefusesMap}
use Rattle.pipe_script.specs.declared.fault.PipeFault.{PipeFault}
use Rattle.pipe_script.specs.declared.fault.PipeFault.TheVariants as pipes
use Rattle.pipe_script.specs.Script.{script_of}
use Rattle.pipe_script.specs.View.{Refuses as RefusesScript}
use Rattle.pipe_run.specs.PipeRun.{misfit}
use Rattle.refusals.specs.declared.refusal.Refusal.{Refusal}
use Rattle.refusals.specs.declared.refusal.Refusal.TheVariants.{Usage, TooManyLive, Kernel, Elf, Asm, Memory, File, Output}
use Rattle.refusals.specs.Statuses.{of_elf, of_map, of_pipe}
use Rattle.command_answers.specs.Answer.{Answer, IsFileAnswer}
use Rattle.command_answers.specs.Reads.{and_then}
use Rattle.command_answers.specs.Works.{loaded, mapped}
use Rattle.pipe_command.specs.Pipes.{read_as, entries_of, fitted, image_in, map_alone, IsOfPipe}
use Rattle.pipe_command.specs.View.{Refuses, IsOfContent, IsOfFiles}

-- ---- by the fault of a layer below

not_loaded : (bytes : List ℕ) (pages : Pages) (line : ℕ) (fault : ElfFault) → load bytes ≡ Err fault → image_in pages line bytes ≡ Err (Elf fault)
not_loaded bytes pages line fault e = ap (λ l. and_then (loaded l) (λ image. fitted image (misfit line image.pages pages))) e

pub elf_refused : (bytes : List ℕ) (pages : Pages) (line : ℕ) (fault : ElfFault) → RefusesElf (load bytes) fault → Refuses (image_in pages line bytes) (of_elf fault)
elf_refused bytes pages line elf.Memory h = inl refl
elf_refused bytes pages line other h = inr (not_loaded bytes pages line other h)

-- an image that was loaded, by whether the map fits beside it
pub image_is : (bytes : List ℕ) (pages : Pages) (line : ℕ) (image : Image) (fault : Option PipeFault) → load bytes ≡ Ok image → misfit line image.pages pages ≡ fault → image_in pages line bytes ≡ fitted image fault
image_is bytes pages line image fault e f = ap (λ l. and_then (loaded l) (λ image. fitted image (misfit line image.pages pages))) e ∙ ap (fitted image) f

pub fit_refused : (bytes : List ℕ) (pages : Pages) (line : ℕ) (image : Image) (fault : PipeFault) → load bytes ≡ Ok image → misfit line image.pages pages ≡ Some fault → Refuses (image_in pages line bytes) (of_pipe fault)
fit_refused bytes pages line image pipes.Memory e f = inl refl
fit_refused bytes pages line image other e f = inr (image_is bytes pages line image (Some other) e f)

pub script_refused : (script : List ℕ) (fault : PipeFault) → RefusesScript (script_of script) fault → Refuses (entries_of script) (of_pipe fault)
script_refused script pipes.Memory h = inl refl
script_refused script (pipes.Clash line) h = absurd h
script_refused script (pipes.TooManyPages line) h = absurd h
script_refused script other h = inr (ap read_as h)

pub map_refused : (text : List ℕ) (none : Pages) (fault : MapFault) → none ≡ [] → RefusesMap (pages_of text none) fault → Refuses (map_alone text) (of_map fault)
map_refused text none fault empty h = by fault (subst (λ n. RefusesMap (pages_of text n) fault) empty h)
  where
    by : (fault : MapFault) → RefusesMap (pages_of text []) fault → Refuses (map_alone text) (of_map fault)
    by maps.Memory h = inl refl
    by other h = inr (ap mapped h)

-- ---- what comes of which command

pub elf_content : (fault : ElfFault) → IsOfContent (of_elf fault)
elf_content elf.Memory = tt
elf_content other = tt

pub pipe_content : (fault : PipeFault) → IsOfContent (of_pipe fault)
pipe_content pipes.Memory = tt
pipe_content other = tt

pub map_content : (fault : MapFault) → IsOfContent (of_map fault)
map_content maps.Memory = tt
map_content other = tt

pub by_content : {T : Type 0} (fault : Refusal) (result : Result T Refusal) → IsErrAnd result (λ r. r ≡ fault) → IsOfContent fault → IfErr result IsOfContent
by_content fault (Ok x) is h = absurd is
by_content fault (Err r) is h = subst IsOfContent (sym is) h

pub of_files : (refusal : Refusal) → IsOfFiles refusal → IsOfPipe (Err refusal)
of_files Usage h = absurd h
of_files (TooManyLive class need) h = absurd h
of_files (Kernel fault) h = absurd h
of_files (Asm fault) h = absurd h
of_files Output h = absurd h
of_files other h = tt

not_output : (refusal : Refusal) → IsOfFiles refusal → refusal ≢ Output
not_output Usage h e = absurd h
not_output (TooManyLive class need) h e = absurd h
not_output (Kernel fault) h e = absurd h
not_output (Asm fault) h e = absurd h
not_output Output h e = absurd h
not_output other h e = absurd cc

-- no output failed
pub files_not_output : (refusal : Refusal) (result : Answer) → result ≡ Err refusal → IsOfFiles refusal → result ≢ Err Output
files_not_output refusal result is h e = not_output refusal h (same refusal Output (sym is ∙ e))
  where
    same : (a b : Refusal) → ◌≡◌ {A = Answer} (Err a) (Err b) → a ≡ b
    same a b e = cc

-- a refusal of no file is none of what is called with it
pub not_file_either : {T U : Type 0} (refusal : Refusal) (first : Result T Refusal) (second : Result U Refusal) → first ≡ Err refusal → second ≡ Err refusal → first ≢ Err File → second ≢ Err File
not_file_either {U = U} refusal first second is also none e = none (is ∙ ap (λ r. Err r) (same refusal File (sym also ∙ e)))
  where
    same : (a b : Refusal) → ◌≡◌ {A = Result U Refusal} (Err a) (Err b) → a ≡ b
    same a b e = cc

-- ---- answers

-- a refusal that is wanted, or want of memory, is an answer
pub refusal_answers : {T : Type 0} (x y : ℕ) (wanted result : Result T Refusal) (refusal : Refusal) → result ≡ Err refusal → Refuses wanted refusal → IsFileAnswer x y wanted result
refusal_answers x y wanted result refusal is h = ⊎_elim (λ m. inr (inl (is ∙ ap (λ r. Err r) m))) (λ e. inl (is ∙ sym e)) h

-- a fault says what refuses a call
pub by_error : {T U : Type 0} (wanted : Result U Refusal) (fault : Refusal) (result : Result T Refusal) → IsErrAnd result (λ r. r ≡ fault) → Refuses wanted fault → IfErr result (Refuses wanted)
by_error wanted fault (Ok x) is h = absurd is
by_error wanted fault (Err r) is h = subst (Refuses wanted) (sym is) h
