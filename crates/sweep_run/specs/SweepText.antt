-- What a sweep writes and prints.
use Rattle.std.specs.Prelude.{◌≡◌, ℕ, ◌+◌, ◌*◌, ◌≤◌, List, [], length, flat_map, Option, Some, All}
use Rattle.std.specs.List.{range_with_len}
use Rattle.machine_model.specs.Machine.{State}
use Rattle.machine_model.specs.Run.{Outcome, End, run, machine_run}
use Rattle.machine_model.specs.Written.{file_of}
use Rattle.kernel_tree.specs.Items.{size_of}
use Rattle.promises.specs.Faithful.{FreeFaithful, FreeEnds, CloseFaithful}
use Rattle.promises.specs.Reserved.{LeavesReserved}
use Rattle.sweep_kernel.specs.Numbers.{arguments_of}
use Rattle.sweep_kernel.specs.Tree.{kernel_of}
use Rattle.sweep_kernel.specs.Pages.{pages_of, sum_of}
use Rattle.sweep_kernel.specs.LengthLine.{length_line, length_at}
use Rattle.sweep_kernel.specs.Runs.{most_steps}

-- a written file that is faithful to the kernel of a number; it has few words, no more than a compiled one has, each of which leaves
-- X18, X29, X30 and SP alone
pub record IsSweepFile (number : ℕ) (file : List ℕ) : Type 0 where
  pub words : List ℕ
  pub few : length words ≤ 65536
  pub short : length words ≤ 1000 + 60 * size_of (kernel_of number)
  pub reserved : All LeavesReserved words
  pub file_is : file ≡ file_of words
  pub faithful : FreeFaithful (kernel_of number) file
  pub close : CloseFaithful (kernel_of number) file
  pub ends : FreeEnds (kernel_of number) file

-- the line of a run at a length, where it ends
abbrev pub line_of : (vl : ℕ) → Option Outcome → List ℕ
line_of vl (Some (End memory result steps)) = length_line vl result steps (sum_of memory)
line_of vl other = []

-- the line of a run from a state on
unfoldable pub run_line : (vl : ℕ) → State → List ℕ
run_line vl s = line_of vl (Some (run most_steps 0 s))

-- the line of the file's run at a length
unfoldable pub swept_line : (number : ℕ) (file : List ℕ) (vl : ℕ) → List ℕ
swept_line number file vl = line_of vl (machine_run file (arguments_of number) (pages_of number) vl most_steps)

-- the lines of all lengths in order
unfoldable pub sweep_text : (number : ℕ) (file : List ℕ) → List ℕ
sweep_text number file = flat_map (λ place. swept_line number file (length_at place)) (range_with_len 0 16)
