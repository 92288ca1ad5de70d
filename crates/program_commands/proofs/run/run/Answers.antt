use Rattle.std.proofs.Common.{ℕ, List, Ok, inl, refl, ap, ap₂, sym, ◌∙◌}
use Rattle.io_edges.specs.Files.{Rose}
use Rattle.io_edges.specs.Sink.{PutsText}
use Rattle.refusals.specs.declared.refusal.Refusal.TheVariants.{File, Output}
use Rattle.command_line.specs.View.{task_view}
use Rattle.command_answers.specs.Answer.{answer_of, expected_text, IsAnswer}
use Rattle.command_answers.specs.Outputs.{Prints}
use Rattle.command_answers.specs.Reads.{task_files, files_in, IsTaskHeld}
use Rattle.command_answers.proofs.Reading.{is_err, not_read, of_what_follows}
use Rattle.program_commands.specs.Commands.{run_program, stops_of, expected_of_run, IsOfRun}
use Rattle.command_answers.proofs.Exits.{passed_on, steady_read, of_reading, untold, cut_answer, cut_output, cut_print, cut_loud, cut_not_file, of_refusal, not_refused, done_print}
use Rattle.command_answers.proofs.Held.{steady_anyway}
use Rattle.program_commands.proofs.Sessions.{refused_work, program_not_file, program_not_output, program_of_run, read_not_output}
use Rattle.std.specs.Prelude.{[], ◌∷◌}
use Rattle.std.proofs.Common.{subst}
use Rattle.command_answers.specs.Requests.{IsOk, Read, IsNotOfFiles, task_wants}
use Rattle.command_answers.proofs.Asks.{fails_asks, ends_asks}
use Rattle.program_commands.proofs.Requested.{program_elsewhere}
use Rattle.program_commands.proofs.run.run.Goals as goal

pub returns-in_err-read : goal.returns-in_err-read
returns-in_err-read g c =
    let refusal = c.in_err-read.field-0.0 in
    let result = c.from_residual.result in
    let is = c.from_residual.ensures.1 in
    let was = c.in_err-read.was in
    record {
      answer =
          not_read (g.F.Files.faults c.args.files.now) (g.F.Files.faults c.read_task.new.files) (Rose (g.S.Sink.faults c.args.out.now) (g.S.Sink.faults c.args.out.now)) (g.F.Files.held c.args.files.now) (λ h. task_files h (task_view c.args.task.now)) (files_in c.read_task.result) (λ (files : List ℕ × List ℕ). run_program c.args.vl (stops_of c.args.suppress) (task_view c.args.task.now) files.0 files.1) refusal result
          (ap files_in was) (is_err refusal result is) c.read_task.ensures.answer;
      held = c.read_task.ensures.held;
      printed = untold (g.F.Files.held c.args.files.now) (λ h. expected_of_run h c.args.vl (stops_of c.args.suppress) (task_view c.args.task.now)) (g.S.Sink.taken c.args.out.now) refusal result is;
      quiet = λ q. refl;
      failed = λ e. c.read_task.ensures.failed (passed_on c.read_task.result refusal File result was is e);
      output = λ e. absurd (read_not_output c.read_task.result refusal result was is c.read_task.ensures.of_read e);
      steady = λ s. steady_read (g.F.Files.held c.args.files.now) (λ h. IsTaskHeld h (task_view c.args.task.now)) c.read_task.result refusal result was is (c.read_task.ensures.reads s);
      of_run = of_reading IsOfRun c.read_task.result refusal result was is c.read_task.ensures.of_read tt tt tt;
      asked = fails_asks IsNotOfFiles (g.F.Files.requests c.args.files.now) (g.F.Files.requests c.read_task.new.files) (task_wants (task_view c.args.task.now)) c.in_err-read.field-0.0 c.read_task.result c.from_residual.result
          c.in_err-read.was (is_err (c.in_err-read.field-0.0) c.from_residual.result c.from_residual.ensures.1) c.read_task.ensures.asked;
    }

pub returns-in_err-run_report : goal.returns-in_err-run_report
returns-in_err-run_report g c =
    let read : List ℕ × List ℕ = (c.deref.result.now, c.deref-2.result.now) in
    let work = run_program c.args.vl (stops_of c.args.suppress) (task_view c.args.task.now) c.deref.result.now c.deref-2.result.now in
    let refusal = c.in_err-run_report.field-0.0 in
    let result = c.from_residual-in_err-run_report.result in
    let is = c.from_residual-in_err-run_report.ensures.1 in
    let refuses = c.in_err-run_report.ensures.refusal in
    record {
      answer =
          of_what_follows (g.F.Files.faults c.args.files.now) (g.F.Files.faults c.read_task.new.files) (g.F.Files.held c.args.files.now) (λ h. task_files h (task_view c.args.task.now)) read (files_in c.read_task.result) (λ (files : List ℕ × List ℕ). run_program c.args.vl (stops_of c.args.suppress) (task_view c.args.task.now) files.0 files.1)
          (λ work. IsAnswer (g.F.Files.faults c.args.files.now) (g.F.Files.faults c.read_task.new.files) (Rose (g.S.Sink.faults c.args.out.now) (g.S.Sink.faults c.args.out.now)) (answer_of work) c.from_residual-in_err-run_report.result)
          (ap files_in c.in_ok-read.was ∙ ap₂ (λ file map. Ok (file, map)) (sym c.deref.ensures.value) (sym c.deref-2.ensures.value)) c.read_task.ensures.answer
          (refused_work (g.F.Files.faults c.args.files.now) (g.F.Files.faults c.read_task.new.files) (Rose (g.S.Sink.faults c.args.out.now) (g.S.Sink.faults c.args.out.now)) work refusal result is refuses);
      held = c.read_task.ensures.held;
      printed = untold (g.F.Files.held c.args.files.now) (λ h. expected_of_run h c.args.vl (stops_of c.args.suppress) (task_view c.args.task.now)) (g.S.Sink.taken c.args.out.now) refusal result is;
      quiet = λ q. refl;
      failed = λ e. absurd (program_not_file work refusal result is refuses e);
      output = λ e. absurd (program_not_output work refusal result is refuses e);
      steady = λ s. steady_anyway (g.F.Files.held c.args.files.now) (λ h. IsTaskHeld h (task_view c.args.task.now)) result (program_not_file work refusal result is refuses);
      of_run = program_of_run work refusal result is refuses;
      asked = ends_asks IsOk IsNotOfFiles (g.F.Files.requests c.args.files.now) (g.F.Files.requests c.read_task.new.files) (task_wants (task_view c.args.task.now)) c.in_ok-read.read c.read_task.result c.from_residual-in_err-run_report.result
          c.in_ok-read.was (subst IsNotOfFiles (sym (is_err (c.in_err-run_report.field-0.0) c.from_residual-in_err-run_report.result c.from_residual-in_err-run_report.ensures.1)) (program_elsewhere _ c.in_err-run_report.field-0.0 c.in_err-run_report.ensures.refusal)) c.read_task.ensures.asked;
    }

pub returns-in_err-put_all : goal.returns-in_err-put_all
returns-in_err-put_all g c =
    let read : List ℕ × List ℕ = (c.deref.result.now, c.deref-2.result.now) in
    let work = run_program c.args.vl (stops_of c.args.suppress) (task_view c.args.task.now) c.deref.result.now c.deref-2.result.now in
    let failed = c.in_err-put_all.field-0.0 in
    let result = c.from_residual-in_err-put_all.result in
    let is = c.from_residual-in_err-put_all.ensures.1 in
    let was = c.in_err-put_all.was in
    let h = c.put_all.ensures in
    let puts : PutsText (g.S.Sink.taken c.args.out.now) (g.S.Sink.taken c.put_all.new.sink) (g.S.Sink.faults c.args.out.now) (g.S.Sink.faults c.put_all.new.sink) c.deref-3.result.now c.put_all.result = record { all = h.all; part = h.prefix; untold = h.untold; cause = h.cause } in
    record {
      answer =
          of_what_follows (g.F.Files.faults c.args.files.now) (g.F.Files.faults c.read_task.new.files) (g.F.Files.held c.args.files.now) (λ h. task_files h (task_view c.args.task.now)) read (files_in c.read_task.result) (λ (files : List ℕ × List ℕ). run_program c.args.vl (stops_of c.args.suppress) (task_view c.args.task.now) files.0 files.1)
          (λ work. IsAnswer (g.F.Files.faults c.args.files.now) (g.F.Files.faults c.read_task.new.files) (Rose (g.S.Sink.faults c.args.out.now) (g.S.Sink.faults c.put_all.new.sink)) (answer_of work) c.from_residual-in_err-put_all.result)
          (ap files_in c.in_ok-read.was ∙ ap₂ (λ file map. Ok (file, map)) (sym c.deref.ensures.value) (sym c.deref-2.ensures.value)) c.read_task.ensures.answer
          (cut_answer (g.F.Files.faults c.args.files.now) (g.F.Files.faults c.read_task.new.files) (g.S.Sink.faults c.args.out.now) (g.S.Sink.faults c.put_all.new.sink) work c.put_all.result failed result c.in_ok-run_report.ensures.work was h.cause is);
      held = c.read_task.ensures.held;
      printed =
          of_what_follows (g.F.Files.faults c.args.files.now) (g.F.Files.faults c.read_task.new.files) (g.F.Files.held c.args.files.now) (λ h. task_files h (task_view c.args.task.now)) read (files_in c.read_task.result) (λ (files : List ℕ × List ℕ). run_program c.args.vl (stops_of c.args.suppress) (task_view c.args.task.now) files.0 files.1)
          (λ work. Prints (g.S.Sink.taken c.args.out.now) (g.S.Sink.taken c.put_all.new.sink) (expected_text work) c.from_residual-in_err-put_all.result)
          (ap files_in c.in_ok-read.was ∙ ap₂ (λ file map. Ok (file, map)) (sym c.deref.ensures.value) (sym c.deref-2.ensures.value)) c.read_task.ensures.answer
          (cut_print (g.S.Sink.taken c.args.out.now) (g.S.Sink.taken c.put_all.new.sink) (g.S.Sink.faults c.args.out.now) (g.S.Sink.faults c.put_all.new.sink) work c.deref-3.result.now c.put_all.result result is (ap expected_text c.in_ok-run_report.ensures.work ∙ sym c.deref-3.ensures.value) puts);
      quiet = λ q. cut_loud _ result is q;
      failed = λ e. absurd (cut_not_file result is e);
      output = λ e. cut_output (g.S.Sink.faults c.args.out.now) (g.S.Sink.faults c.put_all.new.sink) c.put_all.result failed result was h.cause e;
      steady = λ s. steady_anyway (g.F.Files.held c.args.files.now) (λ h. IsTaskHeld h (task_view c.args.task.now)) result (cut_not_file result is);
      of_run = of_refusal IsOfRun Output result is tt;
      asked = ends_asks IsOk IsNotOfFiles (g.F.Files.requests c.args.files.now) (g.F.Files.requests c.read_task.new.files) (task_wants (task_view c.args.task.now)) c.in_ok-read.read c.read_task.result c.from_residual-in_err-put_all.result
          c.in_ok-read.was (subst IsNotOfFiles (sym (is_err (Output) c.from_residual-in_err-put_all.result c.from_residual-in_err-put_all.ensures.1)) (tt)) c.read_task.ensures.asked;
    }

pub returns : goal.returns
returns g c =
    let read : List ℕ × List ℕ = (c.deref.result.now, c.deref-2.result.now) in
    let work = run_program c.args.vl (stops_of c.args.suppress) (task_view c.args.task.now) c.deref.result.now c.deref-2.result.now in
    let how = c.in_ok-run_report.run_report.done in
    let h = c.put_all.ensures in
    let puts : PutsText (g.S.Sink.taken c.args.out.now) (g.S.Sink.taken c.put_all.new.sink) (g.S.Sink.faults c.args.out.now) (g.S.Sink.faults c.put_all.new.sink) c.deref-3.result.now c.put_all.result = record { all = h.all; part = h.prefix; untold = h.untold; cause = h.cause } in
    record {
      answer =
          of_what_follows (g.F.Files.faults c.args.files.now) (g.F.Files.faults c.read_task.new.files) (g.F.Files.held c.args.files.now) (λ h. task_files h (task_view c.args.task.now)) read (files_in c.read_task.result) (λ (files : List ℕ × List ℕ). run_program c.args.vl (stops_of c.args.suppress) (task_view c.args.task.now) files.0 files.1)
          (λ work. IsAnswer (g.F.Files.faults c.args.files.now) (g.F.Files.faults c.read_task.new.files) (Rose (g.S.Sink.faults c.args.out.now) (g.S.Sink.faults c.put_all.new.sink)) (answer_of work) (Ok c.in_ok-run_report.run_report.done))
          (ap files_in c.in_ok-read.was ∙ ap₂ (λ file map. Ok (file, map)) (sym c.deref.ensures.value) (sym c.deref-2.ensures.value)) c.read_task.ensures.answer
          (inl (inl (sym (ap answer_of c.in_ok-run_report.ensures.work))));
      held = c.read_task.ensures.held;
      printed =
          of_what_follows (g.F.Files.faults c.args.files.now) (g.F.Files.faults c.read_task.new.files) (g.F.Files.held c.args.files.now) (λ h. task_files h (task_view c.args.task.now)) read (files_in c.read_task.result) (λ (files : List ℕ × List ℕ). run_program c.args.vl (stops_of c.args.suppress) (task_view c.args.task.now) files.0 files.1)
          (λ work. Prints (g.S.Sink.taken c.args.out.now) (g.S.Sink.taken c.put_all.new.sink) (expected_text work) (Ok c.in_ok-run_report.run_report.done))
          (ap files_in c.in_ok-read.was ∙ ap₂ (λ file map. Ok (file, map)) (sym c.deref.ensures.value) (sym c.deref-2.ensures.value)) c.read_task.ensures.answer
          (done_print (g.S.Sink.taken c.args.out.now) (g.S.Sink.taken c.put_all.new.sink) (g.S.Sink.faults c.args.out.now) (g.S.Sink.faults c.put_all.new.sink) work c.deref-3.result.now c.put_all.result how c.in_ok-put_all.was (ap expected_text c.in_ok-run_report.ensures.work ∙ sym c.deref-3.ensures.value) puts);
      quiet = λ q. absurd q;
      failed = λ e. absurd (not_refused how File e);
      output = λ e. absurd (not_refused how Output e);
      steady = λ s. steady_anyway (g.F.Files.held c.args.files.now) (λ h. IsTaskHeld h (task_view c.args.task.now)) (Ok how) (not_refused how File);
      of_run = tt;
      asked = ends_asks IsOk IsNotOfFiles (g.F.Files.requests c.args.files.now) (g.F.Files.requests c.read_task.new.files) (task_wants (task_view c.args.task.now)) c.in_ok-read.read c.read_task.result (Ok c.in_ok-run_report.run_report.done) c.in_ok-read.was tt c.read_task.ensures.asked;
    }
