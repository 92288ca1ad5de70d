-- Some work is wanted of each command, and one alone.
use Rattle.std.proofs.Common.{◌≡◌, ℕ, List, Option, Some, None, Err, refl, sym, ◌∙◌}
use Rattle.command_line.specs.Line.{Line, CompileLine, CheckLine, EvalLine, ListLine, RunLine, DebugLine, SweepLine, AsmLine, ObjectLine, PipeLine}
use Rattle.refusals.specs.declared.refusal.Refusal.TheVariants.{Usage}
use Rattle.command_answers.specs.Answer.{HeldFiles, Expected}
use Rattle.command_answers.specs.Reads.{file_of, task_files}
use Rattle.program_commands.specs.Commands.{expected_of_list, expected_of_run, expected_of_debug, expected_of_asm, stops_of}
use Rattle.pipe_command.specs.Pipes.{expected_of_pipe}
use Rattle.kernel_commands.specs.Commands.{checked, CheckExpects, eval_kernel, EvalExpects}
use Rattle.compile_command.specs.Compiles.{compiled, CompileExpects}
use Rattle.kernel_commands.proofs.Verdicts.{by_verdict, after, one_by_verdict, one_after}
use Rattle.sve_top.specs.Commands.{Expects, IsSettled}

pub some_expected : (held : HeldFiles) (input : List ℕ) (line : Option Line) → IsSettled line → (w : Expected) × Expects held input line w
some_expected held input None s = (Err Usage, refl)
some_expected held input (Some (CompileLine from to)) s = after (file_of held from) CompileExpects (by_verdict compiled)
some_expected held input (Some (CheckLine from)) s = after (file_of held from) CheckExpects (λ text. by_verdict checked text)
some_expected held input (Some (EvalLine task)) s =
    after (task_files held task) (λ files. EvalExpects task files.0 files.1) (λ files. by_verdict (eval_kernel task files.1) files.0)
some_expected held input (Some (ListLine from)) s = (expected_of_list held from, refl)
some_expected held input (Some (RunLine vl suppress task)) s = (expected_of_run held vl (stops_of suppress) task, refl)
some_expected held input (Some (DebugLine vl task)) s = (expected_of_debug held input vl task, refl)
some_expected held input (Some (SweepLine number to)) s = absurd s
some_expected held input (Some (AsmLine from to)) s = (expected_of_asm held from, refl)
some_expected held input (Some (ObjectLine from to)) s = after (file_of held from) CompileExpects (by_verdict compiled)
some_expected held input (Some (PipeLine vl task)) s = (expected_of_pipe held vl task, refl)

pub one_expected : (held : HeldFiles) (input : List ℕ) (line : Option Line) (a b : Expected) → IsSettled line → Expects held input line a → Expects held input line b → a ≡ b
one_expected held input (Some (CompileLine from to)) a b s p q = one_after (file_of held from) CompileExpects a b (λ text. one_by_verdict compiled text a b) p q
one_expected held input (Some (CheckLine from)) a b s p q = one_after (file_of held from) CheckExpects a b (λ text. one_by_verdict checked text a b) p q
one_expected held input (Some (EvalLine task)) a b s p q =
    one_after (task_files held task) (λ files. EvalExpects task files.0 files.1) a b (λ files. one_by_verdict (eval_kernel task files.1) files.0 a b) p q
one_expected held input (Some (ObjectLine from to)) a b s p q = one_after (file_of held from) CompileExpects a b (λ text. one_by_verdict compiled text a b) p q
one_expected held input (Some (SweepLine number to)) a b s p q = absurd s
one_expected held input other a b s p q = p ∙ sym q
