-- What `compile` comes to, and what it leaves.
use Rattle.std.specs.Prelude.{◌≡◌, ℕ, ◌+◌, ◌*◌, ◌≤◌, List, [], length, Option, Some, None, IfSome, Ok, Err, All}
use Rattle.io_edges.specs.Files.{content}
use Rattle.machine_model.specs.Written.{file_of as file_of_words}
use Rattle.kernel_tree.specs.Plain.{Program}
use Rattle.kernel_tree.specs.Items.{size_of}
use Rattle.kernel_front.specs.Verdict.{Sound, IsVerdict}
use Rattle.reg_assign.specs.declared.interval.RegClass.{RegClass}
use Rattle.loop_form.specs.Needs.{needs_of}
use Rattle.promises.specs.declared.fault.CompileFault.{CompileFault}
use Rattle.promises.specs.declared.fault.CompileFault.TheVariants as compiling
use Rattle.promises.specs.Faithful.{FreeFaithful, FreeEnds, CloseFaithful}
use Rattle.promises.specs.OneExit.{HasOneExit}
use Rattle.promises.specs.Refusals.{too_many, need_in}
use Rattle.promises.specs.Reserved.{LeavesReserved}
use Rattle.refusals.specs.declared.refusal.Refusal.{Refusal}
use Rattle.refusals.specs.declared.refusal.Refusal.TheVariants.{Usage, TooManyLive, Elf, Map, Asm, Pipe, Memory as NoMemory, Output}
use Rattle.refusals.specs.declared.refusal.Done.TheVariants as done
use Rattle.command_answers.specs.Answer.{HeldFiles, Expected, Answer}
use Rattle.command_answers.specs.Reads.{file_of, AfterRead}
use Rattle.command_answers.specs.Works.{ended}
use Rattle.kernel_commands.specs.Kernels.{ByVerdict}

-- by the class of which too many values are live
abbrev pub compiled_by : Program → Option RegClass → Expected
compiled_by k None = ended []
compiled_by k (Some class) = Err (TooManyLive class (need_in (needs_of k) class))

-- a sound kernel is compiled, unless more of its values are live than there are registers for them
abbrev pub compiled : Program → Expected
compiled k = compiled_by k (too_many k)

-- what is wanted of the text of a kernel
abbrev pub CompileExpects : List ℕ → Expected → Type 0
CompileExpects text work = ByVerdict compiled text work

-- what is wanted of `compile` for the file under a name
abbrev pub ExpectsCompile : HeldFiles → List ℕ → Expected → Type 0
ExpectsCompile held from work = AfterRead (file_of held from) CompileExpects work

-- the refusal that a fault of the compiler is
abbrev pub of_compile : CompileFault → Refusal
of_compile (compiling.TooManyLive class need) = TooManyLive class need
of_compile compiling.Memory = NoMemory

-- The file has one segment, from 0x400000 on, of its headers and of at most so many words, each of which leaves X18, X29, X30 and SP
-- alone. One of them is an exit call, and no other calls the system.
pub record HasWords (most : ℕ) (file : List ℕ) : Type 0 where
  pub words : List ℕ
  pub few : length words ≤ most
  pub file_is : file ≡ file_of_words words
  pub reserved : All LeavesReserved words
  pub one_exit : HasOneExit words

-- The text is that of a sound kernel, and the file is faithful to it, whatever stop list a machine has: within the bound that counts
-- chunks and the free elements that are suppressed, within the close one, and within the one that counts iterations alone.
pub record CompilesTo (text file : List ℕ) : Type 0 where
  pub kernel : Program
  pub sound : IsVerdict text (Sound kernel)
  pub faithful : FreeFaithful kernel file
  pub close : CloseFaithful kernel file
  pub ends : FreeEnds kernel file
  pub code : HasWords (1000 + 60 * size_of kernel) file
  pub small : size_of kernel ≤ 1000

-- the one name has a file that is faithful to the kernel that the other had
abbrev pub IsCompiled : (old new : HeldFiles) (from to : List ℕ) → Type 0
IsCompiled old new from to = IfSome (content old from) (λ text. (file : List ℕ) × (content new to ≡ Some file) × CompilesTo text file)

-- a refusal of a sound kernel by the compiler
abbrev pub RefusesCompile : Program → Refusal → Type 0
RefusesCompile k NoMemory = Unit {0}
RefusesCompile k (TooManyLive class need) = compiled k ≡ Err (TooManyLive class need)
RefusesCompile k refusal = ⊥

-- no answer of other commands: a compilation does not stop, spends no steps, loads no program and puts nothing on the output
abbrev pub IsOfCompile : Answer → Type 0
IsOfCompile (Ok how) = how ≡ done.Ended
IsOfCompile (Err Usage) = ⊥
IsOfCompile (Err (Elf fault)) = ⊥
IsOfCompile (Err (Map fault)) = ⊥
IsOfCompile (Err Output) = ⊥
IsOfCompile (Err (Asm fault)) = ⊥
IsOfCompile (Err (Pipe fault)) = ⊥
IsOfCompile (Err refusal) = Unit {0}
