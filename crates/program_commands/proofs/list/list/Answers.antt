use Rattle.std.proofs.Common.{Ok, inl, refl, ap, sym, ◌∙◌}
use Rattle.std.specs.Prelude.{IsSome}
use Rattle.io_edges.specs.Files.{Rose, content}
use Rattle.refusals.specs.declared.refusal.Refusal.TheVariants.{File, Output}
use Rattle.refusals.specs.declared.refusal.Done.TheVariants as done
use Rattle.command_answers.specs.Answer.{answer_of, expected_text, IsAnswer}
use Rattle.command_answers.specs.Outputs.{Prints}
use Rattle.command_answers.specs.Reads.{file_of, bytes_in}
use Rattle.command_answers.proofs.Reading.{is_err, not_read, of_what_follows}
use Rattle.program_commands.specs.Commands.{list_program, expected_of_list, IsOfList}
use Rattle.program_commands.specs.Listing.{lines_from}
use Rattle.command_answers.proofs.Exits.{passed_on, steady_read, of_reading, untold, cut_answer, cut_output, cut_print, cut_loud, cut_not_file, of_refusal, not_refused, done_print}
use Rattle.command_answers.proofs.Held.{steady_anyway}
use Rattle.program_commands.proofs.Sessions.{refused_work, program_not_file, program_not_output, read_not_output}
use Rattle.std.specs.Prelude.{[], ◌∷◌}
use Rattle.std.proofs.Common.{subst}
use Rattle.command_answers.specs.Requests.{IsOk, Read, IsNotOfFiles, task_wants}
use Rattle.command_answers.proofs.Asks.{fails_asks, ends_asks}
use Rattle.program_commands.proofs.Requested.{program_elsewhere}
use Rattle.refusals.specs.declared.refusal.Done.TheVariants.{Ended}
use Rattle.program_commands.proofs.list.list.Goals as goal

pub returns-in_err-bytes : goal.returns-in_err-bytes
returns-in_err-bytes g c =
    let refusal = c.in_err-bytes.field-0.0 in
    let result = c.from_residual.result in
    let is = c.from_residual.ensures.1 in
    let was = c.in_err-bytes.was in
    record {
      answer =
          not_read (g.F.Files.faults c.args.files.now) (g.F.Files.faults c.read_file.new.files) (Rose (g.S.Sink.faults c.args.out.now) (g.S.Sink.faults c.args.out.now)) (g.F.Files.held c.args.files.now) (λ h. file_of h c.args.from.now) (bytes_in c.read_file.result) list_program refusal result
          (ap bytes_in was) (is_err refusal result is) c.read_file.ensures.answer;
      held = c.read_file.ensures.held;
      printed = untold (g.F.Files.held c.args.files.now) (λ h. expected_of_list h c.args.from.now) (g.S.Sink.taken c.args.out.now) refusal result is;
      quiet = λ q. refl;
      failed = λ e. c.read_file.ensures.failed (passed_on c.read_file.result refusal File result was is e);
      output = λ e. absurd (read_not_output c.read_file.result refusal result was is c.read_file.ensures.of_read e);
      steady = λ s. steady_read (g.F.Files.held c.args.files.now) (λ h. IsSome (content h c.args.from.now)) c.read_file.result refusal result was is (c.read_file.ensures.reads s);
      of_list = of_reading IsOfList c.read_file.result refusal result was is c.read_file.ensures.of_read tt tt tt;
      asked = fails_asks IsNotOfFiles (g.F.Files.requests c.args.files.now) (g.F.Files.requests c.read_file.new.files) (Read c.args.from.now ∷ []) c.in_err-bytes.field-0.0 c.read_file.result c.from_residual.result
          c.in_err-bytes.was (is_err (c.in_err-bytes.field-0.0) c.from_residual.result c.from_residual.ensures.1) c.read_file.ensures.asked;
    }

pub returns-in_err-words : goal.returns-in_err-words
returns-in_err-words g c =
    let work = list_program c.deref.result.now in
    let refusal = c.in_err-words.field-0.0 in
    let result = c.from_residual-in_err-words.result in
    let is = c.from_residual-in_err-words.ensures.1 in
    let refuses = c.in_err-words.ensures.refusal in
    record {
      answer =
          of_what_follows (g.F.Files.faults c.args.files.now) (g.F.Files.faults c.read_file.new.files) (g.F.Files.held c.args.files.now) (λ h. file_of h c.args.from.now) c.deref.result.now (bytes_in c.read_file.result) list_program
          (λ work. IsAnswer (g.F.Files.faults c.args.files.now) (g.F.Files.faults c.read_file.new.files) (Rose (g.S.Sink.faults c.args.out.now) (g.S.Sink.faults c.args.out.now)) (answer_of work) c.from_residual-in_err-words.result)
          (ap bytes_in c.in_ok-bytes.was ∙ ap (λ b. Ok b) (sym c.deref.ensures.value)) c.read_file.ensures.answer
          (refused_work (g.F.Files.faults c.args.files.now) (g.F.Files.faults c.read_file.new.files) (Rose (g.S.Sink.faults c.args.out.now) (g.S.Sink.faults c.args.out.now)) work refusal result is refuses);
      held = c.read_file.ensures.held;
      printed = untold (g.F.Files.held c.args.files.now) (λ h. expected_of_list h c.args.from.now) (g.S.Sink.taken c.args.out.now) refusal result is;
      quiet = λ q. refl;
      failed = λ e. absurd (program_not_file work refusal result is refuses e);
      output = λ e. absurd (program_not_output work refusal result is refuses e);
      steady = λ s. steady_anyway (g.F.Files.held c.args.files.now) (λ h. IsSome (content h c.args.from.now)) result (program_not_file work refusal result is refuses);
      of_list = of_refusal IsOfList refusal result is c.in_err-words.ensures.of_list;
      asked = ends_asks IsOk IsNotOfFiles (g.F.Files.requests c.args.files.now) (g.F.Files.requests c.read_file.new.files) (Read c.args.from.now ∷ []) c.in_ok-bytes.bytes c.read_file.result c.from_residual-in_err-words.result
          c.in_ok-bytes.was (subst IsNotOfFiles (sym (is_err (c.in_err-words.field-0.0) c.from_residual-in_err-words.result c.from_residual-in_err-words.ensures.1)) (program_elsewhere _ c.in_err-words.field-0.0 c.in_err-words.ensures.refusal)) c.read_file.ensures.asked;
    }

pub put_lines-requires : goal.put_lines-requires
put_lines-requires g c = c.in_ok-words.ensures.below

pub returns-in_err-put_lines : goal.returns-in_err-put_lines
returns-in_err-put_lines g c =
    let work = list_program c.deref.result.now in
    let failed = c.in_err-put_lines.field-0.0 in
    let result = c.from_residual-in_err-put_lines.result in
    let is = c.from_residual-in_err-put_lines.ensures.1 in
    let was = c.in_err-put_lines.was in
    let puts = c.put_lines.ensures in
    record {
      answer =
          of_what_follows (g.F.Files.faults c.args.files.now) (g.F.Files.faults c.read_file.new.files) (g.F.Files.held c.args.files.now) (λ h. file_of h c.args.from.now) c.deref.result.now (bytes_in c.read_file.result) list_program
          (λ work. IsAnswer (g.F.Files.faults c.args.files.now) (g.F.Files.faults c.read_file.new.files) (Rose (g.S.Sink.faults c.args.out.now) (g.S.Sink.faults c.put_lines.new.sink)) (answer_of work) c.from_residual-in_err-put_lines.result)
          (ap bytes_in c.in_ok-bytes.was ∙ ap (λ b. Ok b) (sym c.deref.ensures.value)) c.read_file.ensures.answer
          (cut_answer (g.F.Files.faults c.args.files.now) (g.F.Files.faults c.read_file.new.files) (g.S.Sink.faults c.args.out.now) (g.S.Sink.faults c.put_lines.new.sink) work c.put_lines.result failed result c.in_ok-words.ensures.work was puts.cause is);
      held = c.read_file.ensures.held;
      printed =
          of_what_follows (g.F.Files.faults c.args.files.now) (g.F.Files.faults c.read_file.new.files) (g.F.Files.held c.args.files.now) (λ h. file_of h c.args.from.now) c.deref.result.now (bytes_in c.read_file.result) list_program
          (λ work. Prints (g.S.Sink.taken c.args.out.now) (g.S.Sink.taken c.put_lines.new.sink) (expected_text work) c.from_residual-in_err-put_lines.result)
          (ap bytes_in c.in_ok-bytes.was ∙ ap (λ b. Ok b) (sym c.deref.ensures.value)) c.read_file.ensures.answer
          (cut_print (g.S.Sink.taken c.args.out.now) (g.S.Sink.taken c.put_lines.new.sink) (g.S.Sink.faults c.args.out.now) (g.S.Sink.faults c.put_lines.new.sink) work (lines_from c.in_ok-words.words.pages.memory c.in_ok-words.words.from c.in_ok-words.words.count) c.put_lines.result result is (ap expected_text c.in_ok-words.ensures.work) puts);
      quiet = λ q. cut_loud _ result is q;
      failed = λ e. absurd (cut_not_file result is e);
      output = λ e. cut_output (g.S.Sink.faults c.args.out.now) (g.S.Sink.faults c.put_lines.new.sink) c.put_lines.result failed result was puts.cause e;
      steady = λ s. steady_anyway (g.F.Files.held c.args.files.now) (λ h. IsSome (content h c.args.from.now)) result (cut_not_file result is);
      of_list = of_refusal IsOfList Output result is tt;
      asked = ends_asks IsOk IsNotOfFiles (g.F.Files.requests c.args.files.now) (g.F.Files.requests c.read_file.new.files) (Read c.args.from.now ∷ []) c.in_ok-bytes.bytes c.read_file.result c.from_residual-in_err-put_lines.result
          c.in_ok-bytes.was (subst IsNotOfFiles (sym (is_err (Output) c.from_residual-in_err-put_lines.result c.from_residual-in_err-put_lines.ensures.1)) (tt)) c.read_file.ensures.asked;
    }

pub returns : goal.returns
returns g c =
    let work = list_program c.deref.result.now in
    record {
      answer =
          of_what_follows (g.F.Files.faults c.args.files.now) (g.F.Files.faults c.read_file.new.files) (g.F.Files.held c.args.files.now) (λ h. file_of h c.args.from.now) c.deref.result.now (bytes_in c.read_file.result) list_program
          (λ work. IsAnswer (g.F.Files.faults c.args.files.now) (g.F.Files.faults c.read_file.new.files) (Rose (g.S.Sink.faults c.args.out.now) (g.S.Sink.faults c.put_lines.new.sink)) (answer_of work) (Ok done.Ended))
          (ap bytes_in c.in_ok-bytes.was ∙ ap (λ b. Ok b) (sym c.deref.ensures.value)) c.read_file.ensures.answer
          (inl (inl (sym (ap answer_of c.in_ok-words.ensures.work))));
      held = c.read_file.ensures.held;
      printed =
          of_what_follows (g.F.Files.faults c.args.files.now) (g.F.Files.faults c.read_file.new.files) (g.F.Files.held c.args.files.now) (λ h. file_of h c.args.from.now) c.deref.result.now (bytes_in c.read_file.result) list_program
          (λ work. Prints (g.S.Sink.taken c.args.out.now) (g.S.Sink.taken c.put_lines.new.sink) (expected_text work) (Ok done.Ended))
          (ap bytes_in c.in_ok-bytes.was ∙ ap (λ b. Ok b) (sym c.deref.ensures.value)) c.read_file.ensures.answer
          (done_print (g.S.Sink.taken c.args.out.now) (g.S.Sink.taken c.put_lines.new.sink) (g.S.Sink.faults c.args.out.now) (g.S.Sink.faults c.put_lines.new.sink) work (lines_from c.in_ok-words.words.pages.memory c.in_ok-words.words.from c.in_ok-words.words.count) c.put_lines.result done.Ended c.in_ok-put_lines.was (ap expected_text c.in_ok-words.ensures.work) c.put_lines.ensures);
      quiet = λ q. absurd q;
      failed = λ e. absurd (not_refused done.Ended File e);
      output = λ e. absurd (not_refused done.Ended Output e);
      steady = λ s. steady_anyway (g.F.Files.held c.args.files.now) (λ h. IsSome (content h c.args.from.now)) (Ok done.Ended) (not_refused done.Ended File);
      of_list = refl;
      asked = ends_asks IsOk IsNotOfFiles (g.F.Files.requests c.args.files.now) (g.F.Files.requests c.read_file.new.files) (Read c.args.from.now ∷ []) c.in_ok-bytes.bytes c.read_file.result (Ok Ended) c.in_ok-bytes.was tt c.read_file.ensures.asked;
    }
