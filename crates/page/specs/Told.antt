-- What a call of the export tells of a request.
use Rattle.std.specs.Prelude.{◌≡◌, ◌<◌, ℕ, List, [], length, Some, IfSome, IsTrue}
use Rattle.io_edges.specs.Files.{content, names_differ}
use Rattle.command_line.specs.Line.{Words, line_of}
use Rattle.command_answers.specs.Answer.{HeldFiles}
use Rattle.command_answers.specs.Works.{SomeExpected}
use Rattle.sve_top.specs.Commands.{Expects, IsSettled, Compiled, OthersKept, IsHeld, NoneRose}
use Rattle.sve_top.specs.Complete.{Completes}
use Rattle.sve_top.specs.Does.{Does, outside}
use Rattle.page.specs.Answer.{answer_bytes}
use Rattle.page.specs.Request.{request_bytes}

-- The request is some words, files, an input and a name; the answer is a status, what was printed and told as an error, and the file of that
-- name in what the files came to hold. What came of it does the work that is wanted of those words, from things that have failed in nothing
-- and taken nothing; where the output had room and the files that are read are there it comes to the whole of it, or memory was short; and a
-- file that was written is what `top` says of it.
pub record Tells (request answer : List ℕ) : Type 0 where
  pub words : Words
  pub files : HeldFiles
  pub input : List ℕ
  pub wanted : List ℕ
  pub status : ℕ
  pub held : HeldFiles
  pub printed : List ℕ
  pub errors : List ℕ
  pub file_faults : ℕ
  pub output_faults : ℕ
  pub error_faults : ℕ
  pub input_faults : ℕ
  pub read : request_bytes words files input wanted ≡ request
  pub different : IsTrue (names_differ files)
  pub told : answer ≡ answer_bytes status printed errors (content held wanted)
  pub does : IsSettled (line_of words) → SomeExpected (Expects files input (line_of words))
      (λ work. Does (line_of words) work (outside (Some files) 0 (Some []) 0 (Some []) 0 0)
      (outside (Some held) file_faults (Some printed) output_faults (Some errors) error_faults input_faults) status)
  pub complete : NoneRose (line_of words) 0 output_faults 0 input_faults → IfSome (line_of words) (λ line. IsHeld files line)
      → Completes files input (line_of words) (Some []) (Some printed) status
  pub file : status ≡ 0 → IfSome (line_of words) (λ line. Compiled files held line)
  pub others : OthersKept files held (line_of words)

-- what tells of the request is longer than its room
abbrev pub HasNoRoom : (request : List ℕ) → (room : ℕ) → Type 0
HasNoRoom request room = (answer : List ℕ) × Tells request answer × (room < length answer)
