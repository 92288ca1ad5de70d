-- The runs of a sweep's file end, at every vector length.
use Rattle.std.specs.Prelude.{◌≡◌, ℕ, ◌≤◌, List, length, Some}
use Rattle.guest_types.specs.Length.{IsLength}
use Rattle.guest_types.specs.Memory.{Memory, DoNotMeet, merged}
use Rattle.machine_model.specs.Run.{End, machine_run}
use Rattle.machine_model.specs.Written.{file_of, image_of_words}
use Rattle.kernel_meaning.specs.ScalarRun as scalar
use Rattle.kernel_meaning.specs.ScalarRun.{scalar_run}
use Rattle.promises.specs.Faithful.{SlowFaithful}
use Rattle.sweep_kernel.specs.Numbers.{count_of, arguments_of}
use Rattle.sweep_kernel.specs.Tree.{kernel_of}
use Rattle.sweep_kernel.specs.Pages.{pages_of}

-- the most steps of a run
abbrev pub most_steps : ℕ
most_steps = 100000000

-- the run of a program of these words ends with the memory and the result of the kernel's own run
pub record RunEnds (words : List ℕ) (seed vl : ℕ) : Type 0 where
  pub memory : Memory
  pub result : ℕ
  pub steps : ℕ
  pub machine : machine_run (file_of words) (arguments_of seed) (pages_of seed) vl most_steps ≡ Some (End memory result steps)
  pub kernel : scalar_run (kernel_of seed) (arguments_of seed) (merged (image_of_words words).pages (pages_of seed)) ≡ scalar.End memory result (count_of seed)

-- a faithful file's runs end, and its pages are not those of the seed
pub record AllRunsEnd (words : List ℕ) (seed : ℕ) : Type 0 where
  pub apart : DoNotMeet (image_of_words words).pages (pages_of seed)
  pub ends : (vl : ℕ) → IsLength vl → RunEnds words seed vl

abbrev pub FaithfulEnds : Type 0
FaithfulEnds = (words : List ℕ) (seed : ℕ) → length words ≤ 65536 → SlowFaithful (kernel_of seed) (file_of words) → AllRunsEnd words seed
