use Rattle.std.proofs.Common.{ℕ, List, Ok, subst, sym, refl, ◌∙◌, ap, ap₂}
use Rattle.command_line.specs.View.{task_view}
use Rattle.command_answers.specs.Answer.{expected_text}
use Rattle.command_answers.specs.Outputs.{Prints}
use Rattle.command_answers.proofs.Prints.{prints_nothing}
use Rattle.command_answers.proofs.Reading.{is_err}
use Rattle.pipe_command.specs.Pipes.{expected_of_pipe, pipe_files, IsOfPipe}
use Rattle.pipe_command.proofs.Causes.{files_not_output, of_files}
use Rattle.pipe_command.specs.View.{report_in}
use Rattle.pipe_command.proofs.Passed.{file_before, ok_not_file, read_refused, read_files, never_file, cut_pipe}
use Rattle.io_edges.specs.Files.{Rose}
use Rattle.io_edges.proofs.Puts.{later_rose}
use Rattle.command_answers.specs.Reads.{task_files, files_in}
use Rattle.command_answers.proofs.Held.{whatever_held}
use Rattle.std.specs.Prelude.{[], ◌∷◌}
use Rattle.std.proofs.Common.{Err}
use Rattle.command_answers.specs.Requests.{IsNotOfFiles}
use Rattle.refusals.specs.declared.refusal.Refusal.TheVariants.{Output}
use Rattle.pipe_script.specs.Script.{script_of}
use Rattle.pipe_command.specs.Pipes.{entries_wants}
use Rattle.command_answers.proofs.Asks.{fails_anyhow, ends_asks}
use Rattle.pipe_command.proofs.Requested.{piped_stops, piped_asks}
use Rattle.pipe_command.proofs.pipe.pipe.Goals as goal

pub returns-in_err-report-clause-printed : goal.returns-in_err-report-clause-printed
returns-in_err-report-clause-printed g c =
    whatever_held (g.F.Files.held c.args.files.now) (λ h. Prints (g.S.Sink.taken c.args.out.now) (g.S.Sink.taken c.args.out.now) (expected_text (expected_of_pipe h c.args.vl (task_view c.args.task.now))) c.from_residual-in_err-report.result)
    (λ h. subst (Prints (g.S.Sink.taken c.args.out.now) (g.S.Sink.taken c.args.out.now) (expected_text (expected_of_pipe h c.args.vl (task_view c.args.task.now)))) (sym (is_err c.in_err-report.field-0.0 c.from_residual-in_err-report.result c.from_residual-in_err-report.ensures.1))
    (prints_nothing (g.S.Sink.taken c.args.out.now) (expected_text (expected_of_pipe h c.args.vl (task_view c.args.task.now))) c.in_err-report.field-0.0))

pub returns-in_err-report-clause-output : goal.returns-in_err-report-clause-output
returns-in_err-report-clause-output g c = λ e.
    absurd (files_not_output c.in_err-report.field-0.0 c.from_residual-in_err-report.result (is_err c.in_err-report.field-0.0 c.from_residual-in_err-report.result c.from_residual-in_err-report.ensures.1) c.in_err-report.ensures.of_files e)

pub returns-in_err-read-clause-held : goal.returns-in_err-read-clause-held
returns-in_err-read-clause-held g c = c.read_task.ensures.held

pub returns-in_err-read-clause-quiet : goal.returns-in_err-read-clause-quiet
returns-in_err-read-clause-quiet g c = λ q. refl

pub returns-in_err-read-clause-failed : goal.returns-in_err-read-clause-failed
returns-in_err-read-clause-failed g c = λ e. c.read_task.ensures.failed (file_before c.in_err-read.field-0.0 c.read_task.result c.from_residual.result c.in_err-read.was (is_err c.in_err-read.field-0.0 c.from_residual.result c.from_residual.ensures.1) e)

pub returns-in_err-report-clause-held : goal.returns-in_err-report-clause-held
returns-in_err-report-clause-held g c = c.pipe_files.ensures.held ∙ c.read_task.ensures.held

pub returns-in_err-report-clause-quiet : goal.returns-in_err-report-clause-quiet
returns-in_err-report-clause-quiet g c = λ q. refl

pub returns-in_err-put_all-clause-answer : goal.returns-in_err-put_all-clause-answer
returns-in_err-put_all-clause-answer g c =
    let read : List ℕ × List ℕ = (c.deref.result.now, c.deref-2.result.now) in
    let report = c.in_ok-report.report in
    cut_pipe (g.F.Files.faults c.args.files.now) (g.F.Files.faults c.read_task.new.files) (g.F.Files.faults c.pipe_files.new.files) (g.S.Sink.faults c.args.out.now) (g.S.Sink.faults c.put_all.new.sink)
    (g.F.Files.held c.args.files.now) (g.F.Files.held c.read_task.new.files) c.args.vl (task_view c.args.task.now) read (files_in c.read_task.result) (record { how = report.done; text = report.text.items }) (report_in c.pipe_files.result)
    c.put_all.result c.in_err-put_all.field-0.0 c.from_residual-in_err-put_all.result
    (ap files_in c.in_ok-read.was ∙ ap₂ (λ file map. Ok (file, map)) (sym c.deref.ensures.value) (sym c.deref-2.ensures.value)) (ap report_in c.in_ok-report.was) c.read_task.ensures.held c.read_task.ensures.answer c.pipe_files.ensures.answer
    c.in_err-put_all.was c.put_all.ensures.cause c.from_residual-in_err-put_all.ensures.1

pub returns-in_err-put_all-clause-held : goal.returns-in_err-put_all-clause-held
returns-in_err-put_all-clause-held g c = c.pipe_files.ensures.held ∙ c.read_task.ensures.held

pub returns-clause-held : goal.returns-clause-held
returns-clause-held g c = c.pipe_files.ensures.held ∙ c.read_task.ensures.held

pub returns-clause-failed : goal.returns-clause-failed
returns-clause-failed g c = λ e. absurd (ok_not_file _ e)

pub returns-clause-of_pipe : goal.returns-clause-of_pipe
returns-clause-of_pipe g c = tt

pub returns-in_err-read-clause-answer : goal.returns-in_err-read-clause-answer
returns-in_err-read-clause-answer g c =
    let task = task_view c.args.task.now in
    read_refused (g.F.Files.faults c.args.files.now) (g.F.Files.faults c.read_task.new.files) (Rose (g.S.Sink.faults c.args.out.now) (g.S.Sink.faults c.args.out.now)) (g.F.Files.held c.args.files.now) (λ h. task_files h task) (files_in c.read_task.result) (λ h files. pipe_files h c.args.vl task files.0 files.1) c.in_err-read.field-0.0 c.from_residual.result
    (ap files_in c.in_err-read.was) (is_err c.in_err-read.field-0.0 c.from_residual.result c.from_residual.ensures.1) c.read_task.ensures.answer

pub returns-in_err-read-clause-printed : goal.returns-in_err-read-clause-printed
returns-in_err-read-clause-printed g c =
    whatever_held (g.F.Files.held c.args.files.now) (λ h. Prints (g.S.Sink.taken c.args.out.now) (g.S.Sink.taken c.args.out.now) (expected_text (expected_of_pipe h c.args.vl (task_view c.args.task.now))) c.from_residual.result)
    (λ h. subst (Prints (g.S.Sink.taken c.args.out.now) (g.S.Sink.taken c.args.out.now) (expected_text (expected_of_pipe h c.args.vl (task_view c.args.task.now)))) (sym (is_err c.in_err-read.field-0.0 c.from_residual.result c.from_residual.ensures.1))
    (prints_nothing (g.S.Sink.taken c.args.out.now) (expected_text (expected_of_pipe h c.args.vl (task_view c.args.task.now))) c.in_err-read.field-0.0))

pub returns-in_err-read-clause-output : goal.returns-in_err-read-clause-output
returns-in_err-read-clause-output g c = λ e. absurd (files_not_output c.in_err-read.field-0.0 c.from_residual.result (is_err c.in_err-read.field-0.0 c.from_residual.result c.from_residual.ensures.1) (read_files c.read_task.result c.in_err-read.field-0.0 c.in_err-read.was c.read_task.ensures.of_read) e)

pub returns-in_err-read-clause-of_pipe : goal.returns-in_err-read-clause-of_pipe
returns-in_err-read-clause-of_pipe g c = subst IsOfPipe (sym (is_err c.in_err-read.field-0.0 c.from_residual.result c.from_residual.ensures.1)) (of_files c.in_err-read.field-0.0 (read_files c.read_task.result c.in_err-read.field-0.0 c.in_err-read.was c.read_task.ensures.of_read))

pub returns-in_err-report-clause-failed : goal.returns-in_err-report-clause-failed
returns-in_err-report-clause-failed g c = λ e.
    later_rose (g.F.Files.faults c.args.files.now) (g.F.Files.faults c.read_task.new.files) (g.F.Files.faults c.pipe_files.new.files) c.read_task.ensures.later
    (c.pipe_files.ensures.failed (file_before c.in_err-report.field-0.0 c.pipe_files.result c.from_residual-in_err-report.result c.in_err-report.was (is_err c.in_err-report.field-0.0 c.from_residual-in_err-report.result c.from_residual-in_err-report.ensures.1) e))

pub returns-in_err-report-clause-of_pipe : goal.returns-in_err-report-clause-of_pipe
returns-in_err-report-clause-of_pipe g c = subst IsOfPipe (sym (is_err c.in_err-report.field-0.0 c.from_residual-in_err-report.result c.from_residual-in_err-report.ensures.1)) (of_files c.in_err-report.field-0.0 c.in_err-report.ensures.of_files)

pub returns-clause-quiet : goal.returns-clause-quiet
returns-clause-quiet g c = λ q. absurd q

pub returns-clause-steady : goal.returns-clause-steady
returns-clause-steady g c = λ s. never_file (g.F.Files.held c.args.files.now) _ _ (ok_not_file _)

pub returns-in_err-read-clause-asked : goal.returns-in_err-read-clause-asked
returns-in_err-read-clause-asked g c =
    piped_stops (g.F.Files.faults c.args.files.now) (g.F.Files.faults c.read_task.new.files) (g.F.Files.requests c.args.files.now) (g.F.Files.requests c.read_task.new.files) (g.F.Files.held c.args.files.now) (task_view c.args.task.now) c.in_err-read.field-0.0 c.read_task.result c.from_residual.result
    c.in_err-read.was (is_err (c.in_err-read.field-0.0) c.from_residual.result c.from_residual.ensures.1) c.read_task.ensures.asked

pub returns-in_err-report-clause-asked : goal.returns-in_err-report-clause-asked
returns-in_err-report-clause-asked g c =
    piped_asks (g.F.Files.faults c.args.files.now) (g.F.Files.faults c.read_task.new.files) (g.F.Files.requests c.args.files.now) (g.F.Files.requests c.read_task.new.files) (g.F.Files.requests c.pipe_files.new.files) (g.F.Files.held c.args.files.now) (task_view c.args.task.now) c.deref.result.now c.deref-2.result.now c.in_ok-read.read c.read_task.result c.from_residual-in_err-report.result
    c.in_ok-read.was (ap files_in c.in_ok-read.was ∙ ap₂ (λ file map. Ok (file, map)) (sym c.deref.ensures.value) (sym c.deref-2.ensures.value)) c.read_task.ensures.answer c.read_task.ensures.asked
    (fails_anyhow (g.F.Files.requests c.read_task.new.files) (g.F.Files.requests c.pipe_files.new.files) (entries_wants (script_of c.deref.result.now)) c.in_err-report.field-0.0 c.pipe_files.result c.from_residual-in_err-report.result c.in_err-report.was (is_err (c.in_err-report.field-0.0) c.from_residual-in_err-report.result c.from_residual-in_err-report.ensures.1) c.pipe_files.ensures.asked)

pub returns-in_err-put_all-clause-asked : goal.returns-in_err-put_all-clause-asked
returns-in_err-put_all-clause-asked g c =
    piped_asks (g.F.Files.faults c.args.files.now) (g.F.Files.faults c.read_task.new.files) (g.F.Files.requests c.args.files.now) (g.F.Files.requests c.read_task.new.files) (g.F.Files.requests c.pipe_files.new.files) (g.F.Files.held c.args.files.now) (task_view c.args.task.now) c.deref.result.now c.deref-2.result.now c.in_ok-read.read c.read_task.result c.from_residual-in_err-put_all.result
    c.in_ok-read.was (ap files_in c.in_ok-read.was ∙ ap₂ (λ file map. Ok (file, map)) (sym c.deref.ensures.value) (sym c.deref-2.ensures.value)) c.read_task.ensures.answer c.read_task.ensures.asked
    (ends_asks IsNotOfFiles IsNotOfFiles (g.F.Files.requests c.read_task.new.files) (g.F.Files.requests c.pipe_files.new.files) (entries_wants (script_of c.deref.result.now)) c.in_ok-report.report c.pipe_files.result c.from_residual-in_err-put_all.result c.in_ok-report.was (subst IsNotOfFiles (sym (is_err (Output) c.from_residual-in_err-put_all.result c.from_residual-in_err-put_all.ensures.1)) tt) c.pipe_files.ensures.asked)

pub returns-clause-asked : goal.returns-clause-asked
returns-clause-asked g c =
    piped_asks (g.F.Files.faults c.args.files.now) (g.F.Files.faults c.read_task.new.files) (g.F.Files.requests c.args.files.now) (g.F.Files.requests c.read_task.new.files) (g.F.Files.requests c.pipe_files.new.files) (g.F.Files.held c.args.files.now) (task_view c.args.task.now) c.deref.result.now c.deref-2.result.now c.in_ok-read.read c.read_task.result (Ok c.in_ok-report.report.done)
    c.in_ok-read.was (ap files_in c.in_ok-read.was ∙ ap₂ (λ file map. Ok (file, map)) (sym c.deref.ensures.value) (sym c.deref-2.ensures.value)) c.read_task.ensures.answer c.read_task.ensures.asked
    (ends_asks IsNotOfFiles IsNotOfFiles (g.F.Files.requests c.read_task.new.files) (g.F.Files.requests c.pipe_files.new.files) (entries_wants (script_of c.deref.result.now)) c.in_ok-report.report c.pipe_files.result (Ok c.in_ok-report.report.done) c.in_ok-report.was tt c.pipe_files.ensures.asked)
