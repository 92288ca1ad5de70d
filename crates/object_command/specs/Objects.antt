-- What `object` leaves.
use Rattle.std.specs.Prelude.{◌≡◌, ℕ, ◌+◌, ◌*◌, ◌≤◌, List, length, Some, IfSome}
use Rattle.io_edges.specs.Files.{content}
use Rattle.kernel_tree.specs.Items.{size_of}
use Rattle.kernel_tree.specs.Plain.{Program}
use Rattle.kernel_front.specs.Verdict.{Sound, IsVerdict}
use Rattle.command_answers.specs.Answer.{HeldFiles}
use Rattle.object_file.specs.Object.{IsObject}
use Rattle.promises.specs.Function.{CloseFunction, FunctionEnds}

-- The file is an object of one function, of the kernel's name. Its words do what the kernel says, wherever they stand and whatever the
-- state in which they are called.
pub record HoldsFunction (k : Program) (file : List ℕ) : Type 0 where
  pub words : List ℕ
  pub object : IsObject k.name words file
  pub close : CloseFunction k words
  pub ends : FunctionEnds k words
  pub short : length words ≤ 1056 + 60 * size_of k

-- the text is that of a sound kernel, and the file holds its function
pub record ObjectsTo (text file : List ℕ) : Type 0 where
  pub kernel : Program
  pub sound : IsVerdict text (Sound kernel)
  pub holds : HoldsFunction kernel file

-- the one name has the object of the kernel that the other had
abbrev pub IsObjectOf : (old new : HeldFiles) (from to : List ℕ) → Type 0
IsObjectOf old new from to = IfSome (content old from) (λ text. (file : List ℕ) × (content new to ≡ Some file) × ObjectsTo text file)
