use Rattle.std.proofs.Common.{Ok, refl, ap, sym, ◌∙◌, inl, subst}
use Rattle.std.specs.Prelude.{IsSome}
use Rattle.io_edges.specs.Files.{content}
use Rattle.refusals.specs.declared.refusal.Refusal.TheVariants.{File}
use Rattle.refusals.specs.Statuses.{of_files}
use Rattle.refusals.specs.declared.refusal.Done.TheVariants as done
use Rattle.command_answers.specs.Answer.{answer_of, IsFileAnswer, Unwritten}
use Rattle.command_answers.specs.Reads.{file_of, bytes_in}
use Rattle.command_answers.proofs.Reading.{of_what_follows, is_err, written_file}
use Rattle.program_commands.specs.Commands.{assemble_text, expected_of_asm, AssemblesTo, IsOfAsm}
use Rattle.program_commands.proofs.Assemblies.{asm_refused}
use Rattle.command_answers.proofs.Exits.{passed_on, steady_read, of_reading, not_refused}
use Rattle.command_answers.proofs.Held.{whatever_held, steady_anyway}
use Rattle.program_commands.proofs.Writes.{file_not_read, not_done, same_others, of_text, text_not_file, written_others, write_answer, write_failed, write_kept, write_steady, of_write}
use Rattle.std.specs.Prelude.{[], ◌∷◌}
use Rattle.refusals.specs.declared.refusal.Done.TheVariants.{Ended}
use Rattle.command_answers.specs.Requests.{IsOk, Read, Write, IsRefusedElsewhere}
use Rattle.command_answers.proofs.Asks.{stops_asks, refused_asks, then_asks, failed_write, written_well}
use Rattle.program_commands.proofs.Requested.{asm_elsewhere}
use Rattle.program_commands.proofs.asm.asm.Goals as goal

pub returns-in_err-text : goal.returns-in_err-text
returns-in_err-text g c =
    let refusal = c.in_err-text.field-0.0 in
    let result = c.from_residual.result in
    let is = c.from_residual.ensures.1 in
    let was = c.in_err-text.was in
    record {
      answer = file_not_read (g.F.Files.faults c.args.files.now) (g.F.Files.faults c.read_file.new.files) (g.F.Files.held c.args.files.now) (λ h. file_of h c.args.from.now) (bytes_in c.read_file.result) assemble_text refusal result (ap bytes_in was) (is_err refusal result is) c.read_file.ensures.answer;
      file = not_done _ refusal result is;
      others = same_others (g.F.Files.held c.args.files.now) (g.F.Files.held c.read_file.new.files) c.args.to.now c.read_file.ensures.held;
      kept = λ k. c.read_file.ensures.held;
      failed = λ e. c.read_file.ensures.failed (passed_on c.read_file.result refusal File result was is e);
      steady = λ s. steady_read (g.F.Files.held c.args.files.now) (λ h. IsSome (content h c.args.from.now)) c.read_file.result refusal result was is (c.read_file.ensures.reads s);
      unwritten = whatever_held (g.F.Files.held c.args.files.now) (λ h. Unwritten (expected_of_asm h c.args.from.now) (g.F.Files.held c.args.files.now) (g.F.Files.held c.read_file.new.files)) (λ h r. c.read_file.ensures.held);
      of_asm = of_reading IsOfAsm c.read_file.result refusal result was is c.read_file.ensures.of_read tt tt tt;
      asked = stops_asks IsOk (g.F.Files.requests c.args.files.now) (g.F.Files.requests c.read_file.new.files) (Read c.args.from.now ∷ []) (Write c.args.to.now ∷ []) c.in_err-text.field-0.0 c.read_file.result c.from_residual.result
          c.in_err-text.was (is_err (c.in_err-text.field-0.0) c.from_residual.result c.from_residual.ensures.1) c.read_file.ensures.asked;
    }

pub returns-in_err-file : goal.returns-in_err-file
returns-in_err-file g c =
    let work = assemble_text c.deref.result.now in
    let refusal = c.in_err-file.field-0.0 in
    let result = c.from_residual-in_err-file.result in
    let is = c.from_residual-in_err-file.ensures.1 in
    record {
      answer = of_what_follows (g.F.Files.faults c.args.files.now) (g.F.Files.faults c.read_file.new.files) (g.F.Files.held c.args.files.now) (λ h. file_of h c.args.from.now) c.deref.result.now (bytes_in c.read_file.result) assemble_text
          (λ work. IsFileAnswer (g.F.Files.faults c.args.files.now) (g.F.Files.faults c.read_file.new.files) (answer_of work) c.from_residual-in_err-file.result)
          (ap bytes_in c.in_ok-text.was ∙ ap (λ b. Ok b) (sym c.deref.ensures.value)) c.read_file.ensures.answer
          (asm_refused _ _ _ c.in_err-file.field-0.0 c.from_residual-in_err-file.result (is_err c.in_err-file.field-0.0 c.from_residual-in_err-file.result c.from_residual-in_err-file.ensures.1) c.in_err-file.ensures.refusal);
      file = not_done _ refusal result is;
      others = same_others (g.F.Files.held c.args.files.now) (g.F.Files.held c.read_file.new.files) c.args.to.now c.read_file.ensures.held;
      kept = λ k. c.read_file.ensures.held;
      failed = λ e. absurd (text_not_file work refusal result is c.in_err-file.ensures.refusal e);
      steady = λ s. steady_anyway (g.F.Files.held c.args.files.now) (λ h. IsSome (content h c.args.from.now)) result (text_not_file work refusal result is c.in_err-file.ensures.refusal);
      unwritten = whatever_held (g.F.Files.held c.args.files.now) (λ h. Unwritten (expected_of_asm h c.args.from.now) (g.F.Files.held c.args.files.now) (g.F.Files.held c.read_file.new.files)) (λ h r. c.read_file.ensures.held);
      of_asm = of_text work refusal result is c.in_err-file.ensures.refusal;
      asked = refused_asks IsOk IsOk (g.F.Files.requests c.args.files.now) (g.F.Files.requests c.read_file.new.files) (Read c.args.from.now ∷ []) (Write c.args.to.now) [] c.in_ok-text.text c.read_file.result c.from_residual-in_err-file.result
          c.in_ok-text.was (subst IsRefusedElsewhere (sym (is_err (c.in_err-file.field-0.0) c.from_residual-in_err-file.result c.from_residual-in_err-file.ensures.1)) (asm_elsewhere _ c.in_err-file.field-0.0 c.in_err-file.ensures.refusal)) c.read_file.ensures.asked;
    }

pub returns-in_err-write : goal.returns-in_err-write
returns-in_err-write g c =
    let fault = c.in_err-write.field-0.0 in
    let result = c.from_residual-in_err-write.result in
    let is = c.from_residual-in_err-write.ensures.1 in
    let was = c.in_err-write.was in
    record {
      answer = whatever_held (g.F.Files.held c.args.files.now) _ (λ h. write_answer (g.F.Files.faults c.args.files.now) (g.F.Files.faults c.read_file.new.files) (g.F.Files.faults c.write.new.self) (answer_of (expected_of_asm h c.args.from.now)) c.write.result fault result was is c.write.ensures.not_long c.write.ensures.cause c.read_file.ensures.later);
      file = not_done _ (of_files fault) result is;
      others = written_others (g.F.Files.held c.args.files.now) (g.F.Files.held c.read_file.new.files) (g.F.Files.held c.write.new.self) c.args.to.now c.deref-2.result.now c.write.result c.read_file.ensures.held c.write.ensures.bytes;
      kept = λ k. write_kept _ c.write.result fault result was is c.write.ensures.not_long k;
      failed = λ e. write_failed (g.F.Files.faults c.args.files.now) (g.F.Files.faults c.read_file.new.files) (g.F.Files.faults c.write.new.self) c.write.result fault result was is c.write.ensures.not_long c.write.ensures.cause c.read_file.ensures.later e;
      steady = λ s. steady_anyway (g.F.Files.held c.args.files.now) (λ h. IsSome (content h c.args.from.now)) result (write_steady c.write.result fault result was is (c.write.ensures.steady (c.read_file.ensures.steady s)).1);
      unwritten = of_what_follows (g.F.Files.faults c.args.files.now) (g.F.Files.faults c.read_file.new.files) (g.F.Files.held c.args.files.now) (λ h. file_of h c.args.from.now) c.deref.result.now (bytes_in c.read_file.result) assemble_text
          (λ work. Unwritten work (g.F.Files.held c.args.files.now) (g.F.Files.held c.write.new.self))
          (ap bytes_in c.in_ok-text.was ∙ ap (λ b. Ok b) (sym c.deref.ensures.value)) c.read_file.ensures.answer
          (subst (λ work. Unwritten work (g.F.Files.held c.args.files.now) (g.F.Files.held c.write.new.self)) (sym c.in_ok-file.ensures.wanted) (λ r. absurd r));
      of_asm = of_write fault result is;
      asked = then_asks IsOk IsOk (g.F.Files.requests c.args.files.now) (g.F.Files.requests c.read_file.new.files) (g.F.Files.requests c.write.new.self) (Read c.args.from.now ∷ []) (Write c.args.to.now ∷ []) c.in_ok-text.text c.read_file.result c.from_residual-in_err-write.result
          c.in_ok-text.was c.read_file.ensures.asked
          (failed_write IsOk (g.F.Files.requests c.read_file.new.files) (g.F.Files.requests c.write.new.self) c.args.to.now c.deref-2.result.now c.in_err-write.field-0.0 c.write.result c.from_residual-in_err-write.result c.in_err-write.was (is_err (of_files c.in_err-write.field-0.0) c.from_residual-in_err-write.result c.from_residual-in_err-write.ensures.1) c.write.ensures.asked);
    }

pub returns : goal.returns
returns g c =
    record {
      answer = of_what_follows (g.F.Files.faults c.args.files.now) (g.F.Files.faults c.read_file.new.files) (g.F.Files.held c.args.files.now) (λ h. file_of h c.args.from.now) c.deref.result.now (bytes_in c.read_file.result) assemble_text
          (λ work. IsFileAnswer (g.F.Files.faults c.args.files.now) (g.F.Files.faults c.write.new.self) (answer_of work) (Ok done.Ended))
          (ap bytes_in c.in_ok-text.was ∙ ap (λ b. Ok b) (sym c.deref.ensures.value)) c.read_file.ensures.answer
          (inl (sym (ap answer_of c.in_ok-file.ensures.wanted)));
      file = written_file (g.F.Files.faults c.args.files.now) (g.F.Files.faults c.read_file.new.files)
          (g.F.Files.held c.args.files.now) (g.F.Files.held c.read_file.new.files) (g.F.Files.held c.write.new.self) c.args.from.now c.args.to.now
          c.deref.result.now c.deref-2.result.now c.in_ok-file.file.items (bytes_in c.read_file.result) c.write.result AssemblesTo
          (ap bytes_in c.in_ok-text.was ∙ ap (λ b. Ok b) (sym c.deref.ensures.value)) c.read_file.ensures.answer c.read_file.ensures.held c.write.ensures.bytes
          c.in_ok-write.was c.deref-2.ensures.value c.in_ok-file.ensures.file;
      others = written_others (g.F.Files.held c.args.files.now) (g.F.Files.held c.read_file.new.files) (g.F.Files.held c.write.new.self) c.args.to.now c.deref-2.result.now c.write.result c.read_file.ensures.held c.write.ensures.bytes;
      kept = λ k. absurd k;
      failed = λ e. absurd (not_refused done.Ended File e);
      steady = λ s. steady_anyway (g.F.Files.held c.args.files.now) (λ h. IsSome (content h c.args.from.now)) (Ok done.Ended) (not_refused done.Ended File);
      unwritten = of_what_follows (g.F.Files.faults c.args.files.now) (g.F.Files.faults c.read_file.new.files) (g.F.Files.held c.args.files.now) (λ h. file_of h c.args.from.now) c.deref.result.now (bytes_in c.read_file.result) assemble_text
          (λ work. Unwritten work (g.F.Files.held c.args.files.now) (g.F.Files.held c.write.new.self))
          (ap bytes_in c.in_ok-text.was ∙ ap (λ b. Ok b) (sym c.deref.ensures.value)) c.read_file.ensures.answer
          (subst (λ work. Unwritten work (g.F.Files.held c.args.files.now) (g.F.Files.held c.write.new.self)) (sym c.in_ok-file.ensures.wanted) (λ r. absurd r));
      of_asm = refl;
      asked = then_asks IsOk IsOk (g.F.Files.requests c.args.files.now) (g.F.Files.requests c.read_file.new.files) (g.F.Files.requests c.write.new.self) (Read c.args.from.now ∷ []) (Write c.args.to.now ∷ []) c.in_ok-text.text c.read_file.result (Ok Ended)
          c.in_ok-text.was c.read_file.ensures.asked
          (written_well IsOk (g.F.Files.requests c.read_file.new.files) (g.F.Files.requests c.write.new.self) c.args.to.now c.deref-2.result.now c.write.result (Ok Ended) c.in_ok-write.was tt c.write.ensures.asked);
    }
