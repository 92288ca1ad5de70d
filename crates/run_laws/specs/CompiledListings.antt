-- The listing of a file that `compile` wrote.
use Rattle.std.specs.Prelude.{◌≡◌, ℕ, List, Some}
use Rattle.io_edges.specs.Files.{content}
use Rattle.command_answers.specs.Answer.{HeldFiles, expected_text}
use Rattle.program_commands.specs.Commands.{expected_of_list}
use Rattle.compile_command.specs.Compiles.{IsCompiled}

-- One name had a text, and `compile` left, under another, the file that it made of it; later a name has what `list` prints of that file.
pub record IsCompiledAndListed (old new later : HeldFiles) (from to listing : List ℕ) : Type 0 where
  pub text : List ℕ
  pub stood : content old from ≡ Some text
  pub compiled : IsCompiled old new from to
  pub listed : content later listing ≡ Some (expected_text (expected_of_list new to))
