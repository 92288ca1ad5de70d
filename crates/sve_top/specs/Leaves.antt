-- What a command leaves: the files, the output and the input before it and after it.
use Rattle.std.specs.Prelude.{◌≡◌, ◌≢◌, ℕ, List, Option, Err, IfSome, OnOk}
use Rattle.io_edges.specs.Files.{Rose}
use Rattle.io_edges.specs.Requests.{Request}
use Rattle.command_line.specs.Line.{Line}
use Rattle.refusals.specs.declared.refusal.Refusal.TheVariants.{File, Output}
use Rattle.command_answers.specs.Answer.{HeldFiles, Answer, answer_of, expected_text, status_of, IsAnswer, IsKept, IsQuiet, Unwritten}
use Rattle.command_answers.specs.Outputs.{Prints}
use Rattle.sve_top.specs.Commands.{WhereTold, StreamRose, Swept, IsOf, IsHeld, IsSilent, IsUnread, OnlyReads, Compiled, OthersKept, AsItComes}
use Rattle.sve_top.specs.Requested.{AsksOf}

-- the files, the output and the input at one moment
pub record Seen : Type 0 where
  pub held : Option HeldFiles
  pub file_faults : ℕ
  pub requests : Option (List Request)
  pub printed : Option (List ℕ)
  pub output_faults : ℕ
  pub left : Option (List ℕ)
  pub input_faults : ℕ

abbrev pub seen : Option HeldFiles → (file_faults : ℕ) → Option (List Request) → (printed : Option (List ℕ)) → (output_faults : ℕ) → (left : Option (List ℕ)) → (input_faults : ℕ) → Seen
seen held file_faults requests printed output_faults left input_faults = record {
  held = held;
  file_faults = file_faults;
  requests = requests;
  printed = printed;
  output_faults = output_faults;
  left = left;
  input_faults = input_faults;
}

-- All that a command says of what it leaves, by its line, for the calls that do it: as each clause of `top` has it, of an answer in place of
-- a status. `is_steady`: the files tell what they hold and none fails; `same_output`, `same_input`: these are as they were.
pub record Leaves (line : Option Line) (before after : Seen) (is_steady same_output same_input : Type 0) (result : Answer) : Type 0 where
  pub answer : WhereTold before.held before.left line (λ work. IsAnswer before.file_faults after.file_faults (StreamRose line before.output_faults after.output_faults before.input_faults after.input_faults) (answer_of work) result)
  pub listed : IsOf line result
  pub file : OnOk result (IfSome line (λ l. IfSome before.held (λ old. IfSome after.held (λ new. Compiled old new l))))
  pub others : IfSome before.held (λ old. IfSome after.held (λ new. OthersKept old new line))
  pub swept : Swept line after.held before.printed after.printed (status_of result)
  pub kept : IsKept result → after.held ≡ before.held
  pub reads : OnlyReads line → after.held ≡ before.held
  pub failed : result ≡ Err File → Rose before.file_faults after.file_faults
  pub output : result ≡ Err Output → StreamRose line before.output_faults after.output_faults before.input_faults after.input_faults
  pub steady : is_steady → IfSome line (λ l. IfSome before.held (λ h. IsHeld h l → result ≢ Err File))
  pub requested : IfSome before.held (λ held. AsksOf line held before.requests after.requests result)
  pub as_it_comes : AsItComes line before.held before.left after.left before.printed after.printed before.output_faults after.output_faults (result ≡ Err Output)
  pub printed : WhereTold before.held before.left line (λ work. Prints before.printed after.printed (expected_text work) result)
  pub quiet : IsQuiet result → same_output
  pub unwritten : WhereTold before.held before.left line (λ work. Unwritten work before.held after.held)
  pub silent : IsSilent line → same_output
  pub unread : IsUnread line → same_input
