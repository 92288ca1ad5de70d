use Rattle.std.proofs.Common.{◌⊎◌, ℕ, List, [], Ok, Err, inl, refl, ap, ap₂, sym, ◌∙◌, subst}
use Rattle.std.specs.Prelude.{IfSome}
use Rattle.io_edges.specs.Files.{Rose}
use Rattle.command_line.specs.View.{task_view}
use Rattle.sve_debug.specs.Replies.{started}
use Rattle.sve_debug.specs.Sessions.{session_text, AsItCame}
use Rattle.refusals.specs.declared.refusal.Refusal.TheVariants.{File, Output}
use Rattle.refusals.specs.declared.refusal.Done.TheVariants as done
use Rattle.refusals.specs.Statuses.{of_session}
use Rattle.command_answers.specs.Answer.{answer_of, expected_text, IsAnswer}
use Rattle.command_answers.specs.Outputs.{Prints}
use Rattle.command_answers.specs.Reads.{task_files, files_in, IsTaskHeld}
use Rattle.command_answers.proofs.Reading.{is_err}
use Rattle.program_commands.specs.Commands.{debug_program, IsOfDebug}
use Rattle.program_commands.proofs.Sessions.{not_begun, debugged_is, refused_program, program_of_debug, program_not_file, program_not_output, failed_session, answered_session, untold_session, told_session, cut_session, came_session, asks_session, read_not_output, session_output, session_loud, session_not_file, of_failed_session}
use Rattle.command_answers.proofs.Exits.{passed_on, steady_read, of_reading, not_refused}
use Rattle.command_answers.proofs.Held.{steady_anyway}
use Rattle.std.specs.Prelude.{◌∷◌}
use Rattle.command_answers.specs.Requests.{IsOk, Read, IsNotOfFiles, task_wants}
use Rattle.command_answers.proofs.Asks.{fails_asks, ends_asks}
use Rattle.program_commands.proofs.Requested.{program_elsewhere, session_elsewhere}
use Rattle.refusals.specs.declared.refusal.Done.TheVariants.{Ended}
use Rattle.program_commands.proofs.debug.debug.Goals as goal

pub returns-in_err-read : goal.returns-in_err-read
returns-in_err-read g c =
    let refusal = c.in_err-read.field-0.0 in
    let result = c.from_residual.result in
    let is = c.from_residual.ensures.1 in
    let was = c.in_err-read.was in
    record {
      answer = not_begun (g.F.Files.faults c.args.files.now) (g.F.Files.faults c.read_task.new.files) (Rose (g.S.Sink.faults c.args.out.now) (g.S.Sink.faults c.args.out.now) ⊎ Rose (g.I.Source.faults c.args.input.now) (g.I.Source.faults c.args.input.now))
          (g.I.Source.left c.args.input.now) (g.F.Files.held c.args.files.now) (λ h. task_files h (task_view c.args.task.now)) (files_in c.read_task.result)
          (λ input files. debug_program c.args.vl (task_view c.args.task.now) files.0 files.1 input) c.in_err-read.field-0.0 c.from_residual.result
          (ap files_in c.in_err-read.was) (is_err c.in_err-read.field-0.0 c.from_residual.result c.from_residual.ensures.1) c.read_task.ensures.answer;
      held = c.read_task.ensures.held;
      printed = untold_session (g.I.Source.left c.args.input.now) (g.F.Files.held c.args.files.now) c.args.vl (task_view c.args.task.now) (g.S.Sink.taken c.args.out.now) c.in_err-read.field-0.0 c.from_residual.result c.from_residual.ensures.1;
      quiet = λ q. refl;
      failed = λ e. c.read_task.ensures.failed (passed_on c.read_task.result refusal File result was is e);
      output = λ e. absurd (read_not_output c.read_task.result refusal result was is c.read_task.ensures.of_read e);
      as_it_comes = λ e.
          absurd (read_not_output c.read_task.result c.in_err-read.field-0.0 c.from_residual.result c.in_err-read.was c.from_residual.ensures.1 c.read_task.ensures.of_read e);
      steady = λ s. steady_read (g.F.Files.held c.args.files.now) (λ h. IsTaskHeld h (task_view c.args.task.now)) c.read_task.result refusal result was is (c.read_task.ensures.reads s);
      of_debug = of_reading IsOfDebug c.read_task.result refusal result was is c.read_task.ensures.of_read tt tt tt;
      asked = fails_asks IsNotOfFiles (g.F.Files.requests c.args.files.now) (g.F.Files.requests c.read_task.new.files) (task_wants (task_view c.args.task.now)) c.in_err-read.field-0.0 c.read_task.result c.from_residual.result
          c.in_err-read.was (is_err (c.in_err-read.field-0.0) c.from_residual.result c.from_residual.ensures.1) c.read_task.ensures.asked;
    }

pub returns-in_err-debugger : goal.returns-in_err-debugger
returns-in_err-debugger g c =
    let task = task_view c.args.task.now in
    let read : List ℕ × List ℕ = (c.deref.result.now, c.deref-2.result.now) in
    record {
      answer = debugged_is (g.F.Files.faults c.args.files.now) (g.F.Files.faults c.read_task.new.files)
          (g.I.Source.left c.args.input.now) (g.F.Files.held c.args.files.now) (λ h. task_files h task) read (files_in c.read_task.result)
          (λ input files. debug_program c.args.vl task files.0 files.1 input)
          (λ work. IsAnswer (g.F.Files.faults c.args.files.now) (g.F.Files.faults c.read_task.new.files) (Rose (g.S.Sink.faults c.args.out.now) (g.S.Sink.faults c.args.out.now) ⊎ Rose (g.I.Source.faults c.args.input.now) (g.I.Source.faults c.args.input.now)) (answer_of work) c.from_residual-in_err-debugger.result)
          (ap files_in c.in_ok-read.was ∙ ap₂ (λ file map. Ok (file, map)) (sym c.deref.ensures.value) (sym c.deref-2.ensures.value)) c.read_task.ensures.answer
          (refused_program (g.F.Files.faults c.args.files.now) (g.F.Files.faults c.read_task.new.files) (Rose (g.S.Sink.faults c.args.out.now) (g.S.Sink.faults c.args.out.now) ⊎ Rose (g.I.Source.faults c.args.input.now) (g.I.Source.faults c.args.input.now))
          (g.I.Source.left c.args.input.now) (debug_program c.args.vl task c.deref.result.now c.deref-2.result.now) c.in_err-debugger.field-0.0 c.from_residual-in_err-debugger.result
          c.from_residual-in_err-debugger.ensures.1 c.in_err-debugger.ensures.refusal);
      held = c.read_task.ensures.held;
      printed = untold_session (g.I.Source.left c.args.input.now) (g.F.Files.held c.args.files.now) c.args.vl (task_view c.args.task.now) (g.S.Sink.taken c.args.out.now) c.in_err-debugger.field-0.0 c.from_residual-in_err-debugger.result c.from_residual-in_err-debugger.ensures.1;
      quiet = λ q. refl;
      failed = λ e. absurd (
          program_not_file (debug_program c.args.vl (task_view c.args.task.now) c.deref.result.now c.deref-2.result.now []) c.in_err-debugger.field-0.0 c.from_residual-in_err-debugger.result
          c.from_residual-in_err-debugger.ensures.1 (c.in_err-debugger.ensures.refusal []) e);
      output = λ e. absurd (
          program_not_output (debug_program c.args.vl (task_view c.args.task.now) c.deref.result.now c.deref-2.result.now []) c.in_err-debugger.field-0.0 c.from_residual-in_err-debugger.result
          c.from_residual-in_err-debugger.ensures.1 (c.in_err-debugger.ensures.refusal []) e);
      as_it_comes = λ e. absurd (
          program_not_output (debug_program c.args.vl (task_view c.args.task.now) c.deref.result.now c.deref-2.result.now []) c.in_err-debugger.field-0.0 c.from_residual-in_err-debugger.result
          c.from_residual-in_err-debugger.ensures.1 (c.in_err-debugger.ensures.refusal []) e);
      steady = λ s.
          steady_anyway (g.F.Files.held c.args.files.now) (λ h. IsTaskHeld h (task_view c.args.task.now)) c.from_residual-in_err-debugger.result
          (program_not_file (debug_program c.args.vl (task_view c.args.task.now) c.deref.result.now c.deref-2.result.now []) c.in_err-debugger.field-0.0 c.from_residual-in_err-debugger.result
          c.from_residual-in_err-debugger.ensures.1 (c.in_err-debugger.ensures.refusal []));
      of_debug = program_of_debug (debug_program c.args.vl (task_view c.args.task.now) c.deref.result.now c.deref-2.result.now []) c.in_err-debugger.field-0.0 c.from_residual-in_err-debugger.result
          c.from_residual-in_err-debugger.ensures.1 (c.in_err-debugger.ensures.refusal []);
      asked = ends_asks IsOk IsNotOfFiles (g.F.Files.requests c.args.files.now) (g.F.Files.requests c.read_task.new.files) (task_wants (task_view c.args.task.now)) c.in_ok-read.read c.read_task.result c.from_residual-in_err-debugger.result
          c.in_ok-read.was (subst IsNotOfFiles (sym (is_err (c.in_err-debugger.field-0.0) c.from_residual-in_err-debugger.result c.from_residual-in_err-debugger.ensures.1)) (program_elsewhere _ c.in_err-debugger.field-0.0 (c.in_err-debugger.ensures.refusal []))) c.read_task.ensures.asked;
    }

pub session-requires : goal.session-requires
session-requires g c =
    let begins = c.in_ok-debugger.ensures.begins in
    let task = task_view c.args.task.now in
    let read : List ℕ × List ℕ = (c.deref.result.now, c.deref-2.result.now) in
    record {
      steps = begins.stands.shows.steps;
      in_time = record {
        start = begins.begin;
        begun = started begins.begin;
        stands = begins.stands;
        may = λ i s came.
            c.requires i s
            (asks_session (g.F.Files.faults c.args.files.now) (g.F.Files.faults c.read_task.new.files) (g.I.Source.left c.args.input.now) (g.I.Source.left i) (g.F.Files.held c.args.files.now) c.args.vl task read (files_in c.read_task.result) (g.S.Sink.taken c.args.out.now) (g.S.Sink.taken s) begins.image begins.pages begins.begin
            (ap files_in c.in_ok-read.was ∙ ap₂ (λ file map. Ok (file, map)) (sym c.deref.ensures.value) (sym c.deref-2.ensures.value)) c.read_task.ensures.answer
            begins.loads begins.maps begins.at_start came);
      };
    }

pub returns-in_err-session : goal.returns-in_err-session
returns-in_err-session g c =
    let task = task_view c.args.task.now in
    let read : List ℕ × List ℕ = (c.deref.result.now, c.deref-2.result.now) in
    let begins = c.in_ok-debugger.ensures.begins in
    let fault = c.in_err-session.field-0.0 in
    let result = c.from_residual-in_err-session.result in
    let is = c.from_residual-in_err-session.ensures.1 in
    record {
      answer = debugged_is (g.F.Files.faults c.args.files.now) (g.F.Files.faults c.read_task.new.files)
          (g.I.Source.left c.args.input.now) (g.F.Files.held c.args.files.now) (λ h. task_files h task) read (files_in c.read_task.result)
          (λ input files. debug_program c.args.vl task files.0 files.1 input)
          (λ work. IsAnswer (g.F.Files.faults c.args.files.now) (g.F.Files.faults c.read_task.new.files) (Rose (g.S.Sink.faults c.args.out.now) (g.S.Sink.faults c.session.new.out) ⊎ Rose (g.I.Source.faults c.args.input.now) (g.I.Source.faults c.session.new.input)) (answer_of work) c.from_residual-in_err-session.result)
          (ap files_in c.in_ok-read.was ∙ ap₂ (λ file map. Ok (file, map)) (sym c.deref.ensures.value) (sym c.deref-2.ensures.value)) c.read_task.ensures.answer
          (answered_session (g.I.Source.left c.args.input.now) (λ input. IsAnswer (g.F.Files.faults c.args.files.now) (g.F.Files.faults c.read_task.new.files) (Rose (g.S.Sink.faults c.args.out.now) (g.S.Sink.faults c.session.new.out) ⊎ Rose (g.I.Source.faults c.args.input.now) (g.I.Source.faults c.session.new.input)) (answer_of (debug_program c.args.vl task c.deref.result.now c.deref-2.result.now input)) c.from_residual-in_err-session.result)
          (λ input. failed_session (g.F.Files.faults c.args.files.now) (g.F.Files.faults c.read_task.new.files) (g.S.Sink.faults c.args.out.now) (g.S.Sink.faults c.session.new.out) (g.I.Source.faults c.args.input.now) (g.I.Source.faults c.session.new.input)
          (debug_program c.args.vl task c.deref.result.now c.deref-2.result.now input) c.in_err-session.field-0.0 c.from_residual-in_err-session.result (begins.wanted input) c.from_residual-in_err-session.ensures.1
          (λ e. c.session.ensures.input (c.in_err-session.was ∙ ap (λ f. Err f) e)) (λ e. c.session.ensures.output (c.in_err-session.was ∙ ap (λ f. Err f) e))));
      held = c.read_task.ensures.held;
      printed = debugged_is (g.F.Files.faults c.args.files.now) (g.F.Files.faults c.read_task.new.files)
          (g.I.Source.left c.args.input.now) (g.F.Files.held c.args.files.now) (λ h. task_files h task) read (files_in c.read_task.result)
          (λ input files. debug_program c.args.vl task files.0 files.1 input)
          (λ work. Prints (g.S.Sink.taken c.args.out.now) (g.S.Sink.taken c.session.new.out) (expected_text work) c.from_residual-in_err-session.result)
          (ap files_in c.in_ok-read.was ∙ ap₂ (λ file map. Ok (file, map)) (sym c.deref.ensures.value) (sym c.deref-2.ensures.value)) c.read_task.ensures.answer
          (cut_session (g.I.Source.left c.args.input.now) (g.S.Sink.taken c.args.out.now) (g.S.Sink.taken c.session.new.out) (debug_program c.args.vl task c.deref.result.now c.deref-2.result.now) (session_text (started begins.begin))
          c.session.result (of_session c.in_err-session.field-0.0) c.from_residual-in_err-session.result c.from_residual-in_err-session.ensures.1
          (λ input. ap expected_text (begins.wanted input)) (c.session.ensures.told begins.begin (started begins.begin) begins.stands));
      quiet = λ q. session_loud _ fault result is q;
      failed = λ e. absurd (session_not_file fault result is e);
      output = λ e. session_output (g.S.Sink.faults c.args.out.now) (g.S.Sink.faults c.session.new.out) (g.I.Source.faults c.args.input.now) (g.I.Source.faults c.session.new.input) fault result is (λ e. c.session.ensures.input (c.in_err-session.was ∙ ap (λ f. Err f) e)) (λ e. c.session.ensures.output (c.in_err-session.was ∙ ap (λ f. Err f) e)) e;
      as_it_comes = came_session (g.F.Files.faults c.args.files.now) (g.F.Files.faults c.read_task.new.files) (g.S.Sink.faults c.args.out.now) (g.S.Sink.faults c.session.new.out) (g.I.Source.left c.args.input.now) (g.I.Source.left c.session.new.input)
          (g.F.Files.held c.args.files.now) c.args.vl task read (files_in c.read_task.result) (g.S.Sink.taken c.args.out.now) (g.S.Sink.taken c.session.new.out) begins.image begins.pages c.in_err-session.field-0.0 c.from_residual-in_err-session.result
          (ap files_in c.in_ok-read.was ∙ ap₂ (λ file map. Ok (file, map)) (sym c.deref.ensures.value) (sym c.deref-2.ensures.value)) c.read_task.ensures.answer
          begins.loads begins.maps c.from_residual-in_err-session.ensures.1
          (λ e. c.session.ensures.output (c.in_err-session.was ∙ ap (λ f. Err f) e))
          (λ e. subst (λ s. IfSome (g.I.Source.left c.args.input.now) (λ bytes. AsItCame (started s) bytes (g.I.Source.left c.session.new.input) (g.S.Sink.taken c.args.out.now) (g.S.Sink.taken c.session.new.out))) begins.at_start
          (c.session.ensures.as_it_comes begins.begin (started begins.begin) begins.stands (c.in_err-session.was ∙ ap (λ f. Err f) e)));
      steady = λ s. steady_anyway (g.F.Files.held c.args.files.now) (λ h. IsTaskHeld h (task_view c.args.task.now)) result (session_not_file fault result is);
      of_debug = of_failed_session fault result is;
      asked = ends_asks IsOk IsNotOfFiles (g.F.Files.requests c.args.files.now) (g.F.Files.requests c.read_task.new.files) (task_wants (task_view c.args.task.now)) c.in_ok-read.read c.read_task.result c.from_residual-in_err-session.result
          c.in_ok-read.was (subst IsNotOfFiles (sym (is_err (of_session c.in_err-session.field-0.0) c.from_residual-in_err-session.result c.from_residual-in_err-session.ensures.1)) (session_elsewhere c.in_err-session.field-0.0)) c.read_task.ensures.asked;
    }

pub returns : goal.returns
returns g c =
    let task = task_view c.args.task.now in
    let read : List ℕ × List ℕ = (c.deref.result.now, c.deref-2.result.now) in
    let begins = c.in_ok-debugger.ensures.begins in
    record {
      answer = debugged_is (g.F.Files.faults c.args.files.now) (g.F.Files.faults c.read_task.new.files)
          (g.I.Source.left c.args.input.now) (g.F.Files.held c.args.files.now) (λ h. task_files h task) read (files_in c.read_task.result)
          (λ input files. debug_program c.args.vl task files.0 files.1 input)
          (λ work. IsAnswer (g.F.Files.faults c.args.files.now) (g.F.Files.faults c.read_task.new.files) (Rose (g.S.Sink.faults c.args.out.now) (g.S.Sink.faults c.session.new.out) ⊎ Rose (g.I.Source.faults c.args.input.now) (g.I.Source.faults c.session.new.input)) (answer_of work) (Ok done.Ended))
          (ap files_in c.in_ok-read.was ∙ ap₂ (λ file map. Ok (file, map)) (sym c.deref.ensures.value) (sym c.deref-2.ensures.value)) c.read_task.ensures.answer
          (answered_session (g.I.Source.left c.args.input.now) (λ input. IsAnswer (g.F.Files.faults c.args.files.now) (g.F.Files.faults c.read_task.new.files) (Rose (g.S.Sink.faults c.args.out.now) (g.S.Sink.faults c.session.new.out) ⊎ Rose (g.I.Source.faults c.args.input.now) (g.I.Source.faults c.session.new.input)) (answer_of (debug_program c.args.vl task c.deref.result.now c.deref-2.result.now input)) (Ok done.Ended))
          (λ input. inl (inl (sym (ap answer_of (begins.wanted input))))));
      held = c.read_task.ensures.held;
      printed = debugged_is (g.F.Files.faults c.args.files.now) (g.F.Files.faults c.read_task.new.files)
          (g.I.Source.left c.args.input.now) (g.F.Files.held c.args.files.now) (λ h. task_files h task) read (files_in c.read_task.result)
          (λ input files. debug_program c.args.vl task files.0 files.1 input)
          (λ work. Prints (g.S.Sink.taken c.args.out.now) (g.S.Sink.taken c.session.new.out) (expected_text work) (Ok done.Ended))
          (ap files_in c.in_ok-read.was ∙ ap₂ (λ file map. Ok (file, map)) (sym c.deref.ensures.value) (sym c.deref-2.ensures.value)) c.read_task.ensures.answer
          (told_session (g.I.Source.left c.args.input.now) (g.S.Sink.taken c.args.out.now) (g.S.Sink.taken c.session.new.out) (debug_program c.args.vl task c.deref.result.now c.deref-2.result.now) (session_text (started begins.begin))
          c.session.result c.in_ok-session.was (λ input. ap expected_text (begins.wanted input)) (c.session.ensures.told begins.begin (started begins.begin) begins.stands));
      quiet = λ q. absurd q;
      failed = λ e. absurd (not_refused done.Ended File e);
      output = λ e. absurd (not_refused done.Ended Output e);
      as_it_comes = λ e. absurd (not_refused done.Ended Output e);
      steady = λ s. steady_anyway (g.F.Files.held c.args.files.now) (λ h. IsTaskHeld h (task_view c.args.task.now)) (Ok done.Ended) (not_refused done.Ended File);
      of_debug = refl;
      asked = ends_asks IsOk IsNotOfFiles (g.F.Files.requests c.args.files.now) (g.F.Files.requests c.read_task.new.files) (task_wants (task_view c.args.task.now)) c.in_ok-read.read c.read_task.result (Ok Ended) c.in_ok-read.was tt c.read_task.ensures.asked;
    }
