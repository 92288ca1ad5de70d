-- What a sweep leaves, and its answers.
use Rattle.std.specs.Prelude.{◌≡◌, ◌⊎◌, ℕ, List, Option, Some, IfSome, Ok, Err}
use Rattle.io_edges.specs.Files.{content}
use Rattle.sweep_run.specs.SweepText.{IsSweepFile, sweep_text}
use Rattle.refusals.specs.declared.refusal.Refusal.TheVariants.{Memory, File, Output}
use Rattle.refusals.specs.declared.refusal.Done.TheVariants as done
use Rattle.command_answers.specs.Answer.{HeldFiles, Answer}
use Rattle.command_answers.specs.Outputs.{PrintsBy}

-- the name has a file of the kernel of the number, which is faithful to it, and has at most 65,536 words
abbrev pub IsSwept : (number : ℕ) (new : HeldFiles) (to : List ℕ) → Type 0
IsSwept number new to = (file : List ℕ) × (content new to ≡ Some file) × IsSweepFile number file

-- A file of the number's kernel stands under the name, and the output gained the lines of that file's runs: all of them where the command
-- is done, and a part from the front otherwise.
pub record Sweeps (number : ℕ) (to : List ℕ) (held : Option HeldFiles) (old new : Option (List ℕ)) (status : ℕ) : Type 0 where
  pub file : List ℕ
  pub is_file : IsSweepFile number file
  pub stands : IfSome held (λ files. content files to ≡ Some file)
  pub prints : PrintsBy old new (sweep_text number file) status

-- what a sweep leaves at each status; before the first line it puts nothing
abbrev pub SweptBy : (number : ℕ) (to : List ℕ) → Option HeldFiles → (old new : Option (List ℕ)) → (status : ℕ) → Type 0
SweptBy number to held old new status =
    ((status ≡ 0) ⊎ (status ≡ 9) → Sweeps number to held old new status) × ((status ≡ 7) ⊎ (status ≡ 8) → new ≡ old)

-- the answers of the command
abbrev pub IsOfSweep : Answer → Type 0
IsOfSweep (Ok how) = how ≡ done.Ended
IsOfSweep (Err Memory) = Unit {0}
IsOfSweep (Err File) = Unit {0}
IsOfSweep (Err Output) = Unit {0}
IsOfSweep (Err refusal) = ⊥
