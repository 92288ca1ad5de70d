-- A program that is listed, and its listing assembled.
use Rattle.std.specs.Prelude.{◌≡◌, ℕ, ◌^◌, ◌<◌, ◌≤◌, List, length, Some, All}
use Rattle.io_edges.specs.Files.{content}
use Rattle.machine_model.specs.Written.{file_of as file_of_words}
use Rattle.command_answers.specs.Answer.{HeldFiles, expected_text}
use Rattle.program_commands.specs.Commands.{expected_of_list}

-- the words of a program: each has 32 bits, and they are at most 65,536, or none
pub record IsProgram (words : List ℕ) : Type 0 where
  pub few : length words ≤ 65536
  pub small : All (λ word. word < 2 ^ 32) words

-- At first one name has the file of these words; later another name has the text that `list` prints of that file.
pub record IsListed (words : List ℕ) (first later : HeldFiles) (program listing : List ℕ) : Type 0 where
  pub few : length words ≤ 65536
  pub file : content first program ≡ Some (file_of_words words)
  pub text : content later listing ≡ Some (expected_text (expected_of_list first program))
