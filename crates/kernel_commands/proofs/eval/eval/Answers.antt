use Rattle.std.proofs.Common.{◌≡◌, ◌++◌, Some, Ok, refl, ap, ap₂, sym, ◌∙◌, inl, subst}
use Rattle.std.specs.Prelude.{IfSome}
use Rattle.io_edges.specs.Files.{Rose}
use Rattle.io_edges.specs.Sink.{GainsPart}
use Rattle.command_line.specs.View.{task_view}
use Rattle.refusals.specs.declared.refusal.Refusal.TheVariants.{File, Output}
use Rattle.command_answers.specs.Answer.{answer_of, expected_text, IsAnswer}
use Rattle.command_answers.specs.Outputs.{Prints}
use Rattle.command_answers.specs.Reads.{task_files, files_in, IsTaskHeld}
use Rattle.command_answers.specs.Works.{run_report}
use Rattle.command_answers.proofs.Prints.{prints_nothing, prints_part, prints_all}
use Rattle.command_answers.proofs.Reading.{of_read, of_every, with_output, is_err}
use Rattle.kernel_commands.specs.Commands.{EvalExpects, ExpectsEval, IsOfEval}
use Rattle.command_answers.proofs.Exits.{passed_on, steady_read, of_reading, cut_answer, cut_loud, cut_not_file, cut_output, of_refusal, not_refused}
use Rattle.command_answers.proofs.Held.{steady_anyway}
use Rattle.kernel_commands.proofs.Exits.{read_not_output}
use Rattle.kernel_commands.proofs.Expectations.{eval_not_run}
use Rattle.std.specs.Prelude.{[], ◌∷◌}
use Rattle.command_answers.specs.Requests.{IsOk, Read, IsNotOfFiles, task_wants}
use Rattle.command_answers.proofs.Asks.{fails_asks, ends_asks}
use Rattle.kernel_commands.proofs.Requested.{eval_elsewhere}
use Rattle.kernel_commands.proofs.eval.eval.Goals as goal

pub returns-in_err-run_report-clause-answer : goal.returns-in_err-run_report-clause-answer
returns-in_err-run_report-clause-answer g c =
    let task = task_view c.args.task.now in
    with_output _ _ _ (g.F.Files.held c.args.files.now) (λ h. ExpectsEval h task) c.from_residual-in_err-run_report.result
    (eval_not_run (g.F.Files.faults c.args.files.now) (g.F.Files.faults c.read_task.new.files) (g.F.Files.held c.args.files.now) task (c.deref.result.now, c.deref-2.result.now) (files_in c.read_task.result)
    (λ files. EvalExpects task files.0 files.1) c.in_err-run_report.field-0.0 c.from_residual-in_err-run_report.result
    (ap files_in c.in_ok-read.was ∙ ap₂ (λ file map. Ok (file, map)) (sym c.deref.ensures.value) (sym c.deref-2.ensures.value)) c.read_task.ensures.answer
    c.from_residual-in_err-run_report.ensures.1 c.in_err-run_report.ensures.refusal)

pub returns-in_err-run_report-clause-printed : goal.returns-in_err-run_report-clause-printed
returns-in_err-run_report-clause-printed g c =
    of_every (g.F.Files.held c.args.files.now) (λ h. ExpectsEval h (task_view c.args.task.now))
    (λ work. Prints (g.S.Sink.taken c.args.out.now) (g.S.Sink.taken c.args.out.now) (expected_text work) c.from_residual-in_err-run_report.result)
    (λ work. subst (Prints (g.S.Sink.taken c.args.out.now) (g.S.Sink.taken c.args.out.now) (expected_text work)) (sym (is_err c.in_err-run_report.field-0.0 c.from_residual-in_err-run_report.result c.from_residual-in_err-run_report.ensures.1))
    (prints_nothing (g.S.Sink.taken c.args.out.now) (expected_text work) c.in_err-run_report.field-0.0))

pub returns-in_err-put_all-clause-answer : goal.returns-in_err-put_all-clause-answer
returns-in_err-put_all-clause-answer g c =
    let task = task_view c.args.task.now in
    let result = c.from_residual-in_err-put_all.result in
    let work = run_report c.in_ok-run_report.run_report in
    of_read (g.F.Files.faults c.args.files.now) (g.F.Files.faults c.read_task.new.files) (g.F.Files.held c.args.files.now) (λ h. task_files h task) (c.deref.result.now, c.deref-2.result.now) (files_in c.read_task.result)
    (λ files. EvalExpects task files.0 files.1) work
    (λ work. IsAnswer (g.F.Files.faults c.args.files.now) (g.F.Files.faults c.read_task.new.files) (Rose (g.S.Sink.faults c.args.out.now) (g.S.Sink.faults c.put_all.new.sink)) (answer_of work) result)
    (ap files_in c.in_ok-read.was ∙ ap₂ (λ file map. Ok (file, map)) (sym c.deref.ensures.value) (sym c.deref-2.ensures.value)) c.read_task.ensures.answer
    c.in_ok-run_report.ensures.work
    (cut_answer (g.F.Files.faults c.args.files.now) (g.F.Files.faults c.read_task.new.files) (g.S.Sink.faults c.args.out.now) (g.S.Sink.faults c.put_all.new.sink) work c.put_all.result c.in_err-put_all.field-0.0 result
    refl c.in_err-put_all.was c.put_all.ensures.cause c.from_residual-in_err-put_all.ensures.1)

pub returns-in_err-put_all-clause-printed : goal.returns-in_err-put_all-clause-printed
returns-in_err-put_all-clause-printed g c =
    let task = task_view c.args.task.now in
    of_read (g.F.Files.faults c.args.files.now) (g.F.Files.faults c.read_task.new.files) (g.F.Files.held c.args.files.now) (λ h. task_files h task) (c.deref.result.now, c.deref-2.result.now) (files_in c.read_task.result)
    (λ files. EvalExpects task files.0 files.1) (run_report c.in_ok-run_report.run_report)
    (λ work. Prints (g.S.Sink.taken c.args.out.now) (g.S.Sink.taken c.put_all.new.sink) (expected_text work) c.from_residual-in_err-put_all.result)
    (ap files_in c.in_ok-read.was ∙ ap₂ (λ file map. Ok (file, map)) (sym c.deref.ensures.value) (sym c.deref-2.ensures.value)) c.read_task.ensures.answer
    c.in_ok-run_report.ensures.work
    (subst (Prints (g.S.Sink.taken c.args.out.now) (g.S.Sink.taken c.put_all.new.sink) c.in_ok-run_report.run_report.text.items) (sym (is_err Output c.from_residual-in_err-put_all.result c.from_residual-in_err-put_all.ensures.1))
    (prints_part (g.S.Sink.taken c.args.out.now) (g.S.Sink.taken c.put_all.new.sink) c.in_ok-run_report.run_report.text.items Output
    (subst (λ t. IfSome (g.S.Sink.taken c.args.out.now) (λ b. GainsPart b (g.S.Sink.taken c.put_all.new.sink) t)) c.deref-3.ensures.value c.put_all.ensures.prefix)))

pub returns-clause-answer : goal.returns-clause-answer
returns-clause-answer g c =
    let task = task_view c.args.task.now in
    of_read (g.F.Files.faults c.args.files.now) (g.F.Files.faults c.read_task.new.files) (g.F.Files.held c.args.files.now) (λ h. task_files h task) (c.deref.result.now, c.deref-2.result.now) (files_in c.read_task.result)
    (λ files. EvalExpects task files.0 files.1) (run_report c.in_ok-run_report.run_report)
    (λ work. IsAnswer (g.F.Files.faults c.args.files.now) (g.F.Files.faults c.read_task.new.files) (Rose (g.S.Sink.faults c.args.out.now) (g.S.Sink.faults c.put_all.new.sink)) (answer_of work) (Ok c.in_ok-run_report.run_report.done))
    (ap files_in c.in_ok-read.was ∙ ap₂ (λ file map. Ok (file, map)) (sym c.deref.ensures.value) (sym c.deref-2.ensures.value)) c.read_task.ensures.answer
    c.in_ok-run_report.ensures.work (inl (inl refl))

pub returns-clause-printed : goal.returns-clause-printed
returns-clause-printed g c =
    let task = task_view c.args.task.now in
    of_read (g.F.Files.faults c.args.files.now) (g.F.Files.faults c.read_task.new.files) (g.F.Files.held c.args.files.now) (λ h. task_files h task) (c.deref.result.now, c.deref-2.result.now) (files_in c.read_task.result)
    (λ files. EvalExpects task files.0 files.1) (run_report c.in_ok-run_report.run_report)
    (λ work. Prints (g.S.Sink.taken c.args.out.now) (g.S.Sink.taken c.put_all.new.sink) (expected_text work) (Ok c.in_ok-run_report.run_report.done))
    (ap files_in c.in_ok-read.was ∙ ap₂ (λ file map. Ok (file, map)) (sym c.deref.ensures.value) (sym c.deref-2.ensures.value)) c.read_task.ensures.answer
    c.in_ok-run_report.ensures.work
    (prints_all (g.S.Sink.taken c.args.out.now) (g.S.Sink.taken c.put_all.new.sink) c.in_ok-run_report.run_report.text.items c.in_ok-run_report.run_report.done
    (subst (λ t. IfSome (g.S.Sink.taken c.args.out.now) (λ b. g.S.Sink.taken c.put_all.new.sink ≡ Some (b ++ t))) c.deref-3.ensures.value c.in_ok-put_all.ensures.all)
    (subst (λ t. IfSome (g.S.Sink.taken c.args.out.now) (λ b. GainsPart b (g.S.Sink.taken c.put_all.new.sink) t)) c.deref-3.ensures.value c.put_all.ensures.prefix))

pub returns-in_err-read-clause-held : goal.returns-in_err-read-clause-held
returns-in_err-read-clause-held g c = c.read_task.ensures.held

pub returns-in_err-read-clause-quiet : goal.returns-in_err-read-clause-quiet
returns-in_err-read-clause-quiet g c = λ q. refl

pub returns-in_err-read-clause-failed : goal.returns-in_err-read-clause-failed
returns-in_err-read-clause-failed g c = λ e. c.read_task.ensures.failed (passed_on c.read_task.result c.in_err-read.field-0.0 File c.from_residual.result c.in_err-read.was c.from_residual.ensures.1 e)

pub returns-in_err-read-clause-output : goal.returns-in_err-read-clause-output
returns-in_err-read-clause-output g c = λ e. absurd (read_not_output c.read_task.result c.in_err-read.field-0.0 c.from_residual.result c.in_err-read.was c.from_residual.ensures.1 c.read_task.ensures.of_read e)

pub returns-in_err-read-clause-steady : goal.returns-in_err-read-clause-steady
returns-in_err-read-clause-steady g c = λ s. steady_read (g.F.Files.held c.args.files.now) (λ h. IsTaskHeld h (task_view c.args.task.now)) c.read_task.result c.in_err-read.field-0.0 c.from_residual.result c.in_err-read.was c.from_residual.ensures.1 (c.read_task.ensures.reads s)

pub returns-in_err-read-clause-of_eval : goal.returns-in_err-read-clause-of_eval
returns-in_err-read-clause-of_eval g c = of_reading IsOfEval c.read_task.result c.in_err-read.field-0.0 c.from_residual.result c.in_err-read.was c.from_residual.ensures.1 c.read_task.ensures.of_read tt tt tt

pub returns-in_err-run_report-clause-held : goal.returns-in_err-run_report-clause-held
returns-in_err-run_report-clause-held g c = c.read_task.ensures.held

pub returns-in_err-run_report-clause-quiet : goal.returns-in_err-run_report-clause-quiet
returns-in_err-run_report-clause-quiet g c = λ q. refl

pub returns-in_err-run_report-clause-of_eval : goal.returns-in_err-run_report-clause-of_eval
returns-in_err-run_report-clause-of_eval g c = of_refusal IsOfEval c.in_err-run_report.field-0.0 c.from_residual-in_err-run_report.result c.from_residual-in_err-run_report.ensures.1 c.in_err-run_report.ensures.of_eval

pub returns-in_err-put_all-clause-held : goal.returns-in_err-put_all-clause-held
returns-in_err-put_all-clause-held g c = c.read_task.ensures.held

pub returns-in_err-put_all-clause-quiet : goal.returns-in_err-put_all-clause-quiet
returns-in_err-put_all-clause-quiet g c = λ q. cut_loud _ c.from_residual-in_err-put_all.result c.from_residual-in_err-put_all.ensures.1 q

pub returns-in_err-put_all-clause-failed : goal.returns-in_err-put_all-clause-failed
returns-in_err-put_all-clause-failed g c = λ e. absurd (cut_not_file c.from_residual-in_err-put_all.result c.from_residual-in_err-put_all.ensures.1 e)

pub returns-in_err-put_all-clause-output : goal.returns-in_err-put_all-clause-output
returns-in_err-put_all-clause-output g c = λ e. cut_output (g.S.Sink.faults c.args.out.now) (g.S.Sink.faults c.put_all.new.sink) c.put_all.result c.in_err-put_all.field-0.0 c.from_residual-in_err-put_all.result c.in_err-put_all.was c.put_all.ensures.cause e

pub returns-in_err-put_all-clause-steady : goal.returns-in_err-put_all-clause-steady
returns-in_err-put_all-clause-steady g c = λ s. steady_anyway (g.F.Files.held c.args.files.now) (λ h. IsTaskHeld h (task_view c.args.task.now)) c.from_residual-in_err-put_all.result (cut_not_file c.from_residual-in_err-put_all.result c.from_residual-in_err-put_all.ensures.1)

pub returns-in_err-put_all-clause-of_eval : goal.returns-in_err-put_all-clause-of_eval
returns-in_err-put_all-clause-of_eval g c = of_refusal IsOfEval Output c.from_residual-in_err-put_all.result c.from_residual-in_err-put_all.ensures.1 tt

pub returns-clause-held : goal.returns-clause-held
returns-clause-held g c = c.read_task.ensures.held

pub returns-clause-quiet : goal.returns-clause-quiet
returns-clause-quiet g c = λ q. absurd q

pub returns-clause-failed : goal.returns-clause-failed
returns-clause-failed g c = λ e. absurd (not_refused c.in_ok-run_report.run_report.done File e)

pub returns-clause-output : goal.returns-clause-output
returns-clause-output g c = λ e. absurd (not_refused c.in_ok-run_report.run_report.done Output e)

pub returns-clause-steady : goal.returns-clause-steady
returns-clause-steady g c = λ s. steady_anyway (g.F.Files.held c.args.files.now) (λ h. IsTaskHeld h (task_view c.args.task.now)) (Ok c.in_ok-run_report.run_report.done) (not_refused c.in_ok-run_report.run_report.done File)

pub returns-clause-of_eval : goal.returns-clause-of_eval
returns-clause-of_eval g c = tt

pub returns-in_err-read-clause-asked : goal.returns-in_err-read-clause-asked
returns-in_err-read-clause-asked g c =
    fails_asks IsNotOfFiles (g.F.Files.requests c.args.files.now) (g.F.Files.requests c.read_task.new.files) (task_wants (task_view c.args.task.now)) c.in_err-read.field-0.0 c.read_task.result c.from_residual.result
    c.in_err-read.was (is_err (c.in_err-read.field-0.0) c.from_residual.result c.from_residual.ensures.1) c.read_task.ensures.asked

pub returns-in_err-run_report-clause-asked : goal.returns-in_err-run_report-clause-asked
returns-in_err-run_report-clause-asked g c =
    ends_asks IsOk IsNotOfFiles (g.F.Files.requests c.args.files.now) (g.F.Files.requests c.read_task.new.files) (task_wants (task_view c.args.task.now)) c.in_ok-read.read c.read_task.result c.from_residual-in_err-run_report.result
    c.in_ok-read.was (subst IsNotOfFiles (sym (is_err (c.in_err-run_report.field-0.0) c.from_residual-in_err-run_report.result c.from_residual-in_err-run_report.ensures.1)) (eval_elsewhere _ c.in_err-run_report.field-0.0 c.in_err-run_report.ensures.refusal)) c.read_task.ensures.asked

pub returns-in_err-put_all-clause-asked : goal.returns-in_err-put_all-clause-asked
returns-in_err-put_all-clause-asked g c =
    ends_asks IsOk IsNotOfFiles (g.F.Files.requests c.args.files.now) (g.F.Files.requests c.read_task.new.files) (task_wants (task_view c.args.task.now)) c.in_ok-read.read c.read_task.result c.from_residual-in_err-put_all.result
    c.in_ok-read.was (subst IsNotOfFiles (sym (is_err (Output) c.from_residual-in_err-put_all.result c.from_residual-in_err-put_all.ensures.1)) (tt)) c.read_task.ensures.asked

pub returns-clause-asked : goal.returns-clause-asked
returns-clause-asked g c =
    ends_asks IsOk IsNotOfFiles (g.F.Files.requests c.args.files.now) (g.F.Files.requests c.read_task.new.files) (task_wants (task_view c.args.task.now)) c.in_ok-read.read c.read_task.result (Ok c.in_ok-run_report.run_report.done) c.in_ok-read.was tt c.read_task.ensures.asked
