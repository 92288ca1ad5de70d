-- No line of a sweep is empty, and all of them tell one memory and one result: those of the kernel's own run.
use Rattle.std.specs.Prelude.{◌≡◌, ℕ, List, Some, Ok}
use Rattle.guest_types.specs.Length.{IsLength}
use Rattle.guest_types.specs.Memory.{Memory, merged}
use Rattle.machine_model.specs.Load.{Image, load}
use Rattle.machine_model.specs.Run.{End, machine_run}
use Rattle.kernel_meaning.specs.ScalarRun as scalar
use Rattle.kernel_meaning.specs.ScalarRun.{scalar_run}
use Rattle.sweep_kernel.specs.Numbers.{count_of, arguments_of}
use Rattle.sweep_kernel.specs.Tree.{kernel_of}
use Rattle.sweep_kernel.specs.Pages.{pages_of, sum_of}
use Rattle.sweep_kernel.specs.LengthLine.{length_line}
use Rattle.sweep_kernel.specs.Runs.{most_steps, AllRunsEnd}
use Rattle.sweep_run.specs.SweepText.{IsSweepFile, swept_line}

-- the run at a length ends with this memory and this result, and its line says so
pub record Tells (number : ℕ) (file : List ℕ) (memory : Memory) (result vl : ℕ) : Type 0 where
  pub steps : ℕ
  pub machine : machine_run file (arguments_of number) (pages_of number) vl most_steps ≡ Some (End memory result steps)
  pub line : swept_line number file vl ≡ length_line vl result steps (sum_of memory)

-- the kernel's own run beside the file's pages, and the lines of all lengths
pub record AllTell (number : ℕ) (file : List ℕ) : Type 0 where
  pub image : Image
  pub loaded : load file ≡ Ok image
  pub memory : Memory
  pub result : ℕ
  pub kernel : scalar_run (kernel_of number) (arguments_of number) (merged image.pages (pages_of number)) ≡ scalar.End memory result (count_of number)
  pub lines : (vl : ℕ) → IsLength vl → Tells number file memory result vl

-- the runs of a sweep's file end, and its pages are not those of the number
abbrev pub SweepRunsEnd : Type 0
SweepRunsEnd = (number : ℕ) (file : List ℕ) → (f : IsSweepFile number file) → AllRunsEnd f.words number

abbrev pub SweepLines : Type 0
SweepLines = (number : ℕ) (file : List ℕ) → IsSweepFile number file → AllTell number file
