use Rattle.command_answers.proofs.Reading.{is_err, stops_there}
use Rattle.pipe_command.proofs.Passed.{file_before, reads_before, never_file, ok_not_file, by_files, after_read}
use Rattle.std.proofs.Common.{ap, inl}
use Rattle.command_line.specs.View.{task_view}
use Rattle.pipe_run.specs.PipeRun.{runs_of}
use Rattle.pipe_command.specs.Pipes.{script_loaded, piped}
use Rattle.pipe_command.specs.View.{script_in, report_in}
use Rattle.std.specs.Prelude.{[], ◌∷◌}
use Rattle.std.proofs.Common.{subst, sym, Ok, Err}
use Rattle.command_answers.specs.Requests.{IsNotOfFiles}
use Rattle.refusals.specs.declared.refusal.Refusal.TheVariants.{Memory}
use Rattle.pipe_script.specs.Script.{script_of}
use Rattle.pipe_command.specs.Pipes.{entries_wants}
use Rattle.command_answers.proofs.Asks.{fails_anyhow, ends_asks}
use Rattle.pipe_command.proofs.pipe.pipe_files.Goals as goal

pub returns-in_err-loaded-clause-held : goal.returns-in_err-loaded-clause-held
returns-in_err-loaded-clause-held g c = c.load_script.ensures.held

pub returns-in_err-loaded-clause-later : goal.returns-in_err-loaded-clause-later
returns-in_err-loaded-clause-later g c = c.load_script.ensures.later

pub returns-in_err-loaded-clause-failed : goal.returns-in_err-loaded-clause-failed
returns-in_err-loaded-clause-failed g c = λ e. c.load_script.ensures.failed (file_before c.in_err-loaded.field-0.0 c.load_script.result c.from_residual.result c.in_err-loaded.was (is_err c.in_err-loaded.field-0.0 c.from_residual.result c.from_residual.ensures.1) e)

pub returns-in_err-loaded-clause-reads : goal.returns-in_err-loaded-clause-reads
returns-in_err-loaded-clause-reads g c = λ s. reads_before (g.F.Files.held c.args.files.now) _ c.in_err-loaded.field-0.0 c.load_script.result c.from_residual.result c.in_err-loaded.was (is_err c.in_err-loaded.field-0.0 c.from_residual.result c.from_residual.ensures.1) (c.load_script.ensures.reads s)

pub returns-in_err-loaded-clause-of_files : goal.returns-in_err-loaded-clause-of_files
returns-in_err-loaded-clause-of_files g c = by_files c.in_err-loaded.field-0.0 c.from_residual.result c.from_residual.ensures.1 c.in_err-loaded.ensures.of_files

pub returns-in_err-report-clause-held : goal.returns-in_err-report-clause-held
returns-in_err-report-clause-held g c = c.load_script.ensures.held

pub returns-in_err-report-clause-later : goal.returns-in_err-report-clause-later
returns-in_err-report-clause-later g c = c.load_script.ensures.later

pub returns-clause-held : goal.returns-clause-held
returns-clause-held g c = c.load_script.ensures.held

pub returns-clause-later : goal.returns-clause-later
returns-clause-later g c = c.load_script.ensures.later

pub returns-clause-failed : goal.returns-clause-failed
returns-clause-failed g c = λ e. absurd (ok_not_file _ e)

pub returns-clause-reads : goal.returns-clause-reads
returns-clause-reads g c = λ s. never_file (g.F.Files.held c.args.files.now) _ _ (ok_not_file _)

pub returns-clause-of_files : goal.returns-clause-of_files
returns-clause-of_files g c = tt

pub run_script-requires-clause-few : goal.run_script-requires-clause-few
run_script-requires-clause-few g c = c.in_ok-loaded.ensures.few

pub run_script-requires-clause-fits : goal.run_script-requires-clause-fits
run_script-requires-clause-fits g c = c.in_ok-loaded.ensures.fits

pub returns-in_err-loaded-clause-answer : goal.returns-in_err-loaded-clause-answer
returns-in_err-loaded-clause-answer g c =
    let task = task_view c.args.task.now in
    stops_there (g.F.Files.faults c.args.files.now) (g.F.Files.faults c.load_script.new.files) (g.F.Files.held c.args.files.now) (λ h. script_loaded h c.args.script.now c.args.map.now) (script_in c.load_script.result) (λ h loaded. piped task.dump (runs_of loaded.0 loaded.1 c.args.vl task.steps)) c.in_err-loaded.field-0.0 (report_in c.from_residual.result)
    (ap script_in c.in_err-loaded.was) (ap report_in (is_err c.in_err-loaded.field-0.0 c.from_residual.result c.from_residual.ensures.1)) c.load_script.ensures.answer

pub returns-clause-answer : goal.returns-clause-answer
returns-clause-answer g c =
    let task = task_view c.args.task.now in
    after_read (g.F.Files.faults c.args.files.now) (g.F.Files.faults c.load_script.new.files) (g.F.Files.held c.args.files.now) (λ h. script_loaded h c.args.script.now c.args.map.now) _ (script_in c.load_script.result) (λ loaded. piped task.dump (runs_of loaded.0 loaded.1 c.args.vl task.steps)) _
    (ap script_in c.in_ok-loaded.was) c.load_script.ensures.answer (inl c.in_ok-report.ensures)

pub returns-in_err-loaded-clause-asked : goal.returns-in_err-loaded-clause-asked
returns-in_err-loaded-clause-asked g c =
    fails_anyhow (g.F.Files.requests c.args.files.now) (g.F.Files.requests c.load_script.new.files) (entries_wants (script_of c.args.script.now)) c.in_err-loaded.field-0.0 c.load_script.result c.from_residual.result
    c.in_err-loaded.was (is_err (c.in_err-loaded.field-0.0) c.from_residual.result c.from_residual.ensures.1) c.load_script.ensures.asked

pub returns-in_err-report-clause-asked : goal.returns-in_err-report-clause-asked
returns-in_err-report-clause-asked g c =
    ends_asks IsNotOfFiles IsNotOfFiles (g.F.Files.requests c.args.files.now) (g.F.Files.requests c.load_script.new.files) (entries_wants (script_of c.args.script.now)) c.in_ok-loaded.loaded c.load_script.result c.from_residual-in_err-report.result
    c.in_ok-loaded.was (subst IsNotOfFiles (sym (is_err (Memory) c.from_residual-in_err-report.result c.from_residual-in_err-report.ensures.1)) tt) c.load_script.ensures.asked

pub returns-clause-asked : goal.returns-clause-asked
returns-clause-asked g c =
    ends_asks IsNotOfFiles IsNotOfFiles (g.F.Files.requests c.args.files.now) (g.F.Files.requests c.load_script.new.files) (entries_wants (script_of c.args.script.now)) c.in_ok-loaded.loaded c.load_script.result (Ok c.in_ok-report.report) c.in_ok-loaded.was tt c.load_script.ensures.asked
