-- What a call of `top` does where some work is wanted of it: one sentence on the files, the output and the error output.
use Rattle.std.specs.Prelude.{ℕ, List, Option}
use Rattle.command_line.specs.Line.{Line}
use Rattle.command_answers.specs.Answer.{HeldFiles, Expected, answer_of, expected_text, IsStatus, Unwritten}
use Rattle.sve_top.specs.Commands.{StreamRose}
use Rattle.command_answers.specs.Outputs.{PrintsBy, Gains, error_line, error_line_by}

-- the outside at one moment: what the files hold, and the bytes that each output has taken, as far as they tell it; and how often each
-- of them, and the input, has failed
pub record Outside : Type 0 where
  pub held : Option HeldFiles
  pub file_faults : ℕ
  pub printed : Option (List ℕ)
  pub output_faults : ℕ
  pub errors : Option (List ℕ)
  pub error_faults : ℕ
  pub input_faults : ℕ

abbrev pub outside : Option HeldFiles → ℕ → Option (List ℕ) → ℕ → Option (List ℕ) → ℕ → ℕ → Outside
outside held file_faults printed output_faults errors error_faults input_faults = record {
  held = held;
  file_faults = file_faults;
  printed = printed;
  output_faults = output_faults;
  errors = errors;
  error_faults = error_faults;
  input_faults = input_faults;
}

-- the output failed, or for `debug` the output or the input
abbrev pub StreamsRose : Option Line → (before after : Outside) → Type 0
StreamsRose line before after = StreamRose line before.output_faults after.output_faults before.input_faults after.input_faults

-- The status is that of the work, unless memory was short or a count of failures rose: that of the files in place of any work, that of
-- the output or the input only in place of one that is done. The output gains the work's text, and the error output the line of its
-- refusal; and a work that is a refusal changes no file, whatever the status.
pub record Does (line : Option Line) (work : Expected) (before after : Outside) (result : ℕ) : Type 0 where
  pub status : IsStatus before.file_faults after.file_faults (StreamsRose line before after) (answer_of work) result
  pub prints : PrintsBy before.printed after.printed (expected_text work) result
  pub tells : Gains before.errors after.errors before.error_faults after.error_faults (error_line_by (error_line (answer_of work)) result)
  pub unwritten : Unwritten work before.held after.held
