use Rattle.std.proofs.Common.{[], Ok, ap, sym, ◌∙◌, inl, refl}
use Rattle.command_answers.specs.Answer.{Unwritten}
use Rattle.command_answers.specs.Reads.{file_of, bytes_in}
use Rattle.command_answers.specs.Works.{ended}
use Rattle.command_answers.proofs.Reading.{of_read, written_file}
use Rattle.compile_command.specs.Compiles.{CompileExpects, CompilesTo}
use Rattle.kernel_commands.proofs.Expectations.{text_refused}
use Rattle.std.specs.Prelude.{◌∷◌}
use Rattle.std.proofs.Common.{subst}
use Rattle.command_answers.proofs.Reading.{is_err}
use Rattle.refusals.specs.Statuses.{of_files}
use Rattle.refusals.specs.declared.refusal.Done.TheVariants.{Ended}
use Rattle.command_answers.specs.Requests.{IsOk, Read, Write, IsRefusedElsewhere}
use Rattle.command_answers.proofs.Asks.{stops_asks, refused_asks, then_asks, failed_write, written_well}
use Rattle.kernel_commands.proofs.Requested.{text_elsewhere}
use Rattle.compile_command.proofs.compile.compile.Goals as goal

pub returns-in_err-file-clause-answer : goal.returns-in_err-file-clause-answer
returns-in_err-file-clause-answer g c =
    text_refused (g.F.Files.faults c.args.files.now) (g.F.Files.faults c.read_file.new.files) (g.F.Files.faults c.read_file.new.files)
    (g.F.Files.held c.args.files.now) c.args.from.now c.deref.result.now CompileExpects (bytes_in c.read_file.result) c.in_err-file.field-0.0 c.from_residual-in_err-file.result
    (ap bytes_in c.in_ok-text.was ∙ ap (λ b. Ok b) (sym c.deref.ensures.value)) c.from_residual-in_err-file.ensures.1 c.read_file.ensures.answer c.in_err-file.ensures.refusal

pub returns-in_err-write-clause-unwritten : goal.returns-in_err-write-clause-unwritten
returns-in_err-write-clause-unwritten g c =
    of_read (g.F.Files.faults c.args.files.now) (g.F.Files.faults c.read_file.new.files)
    (g.F.Files.held c.args.files.now) (λ h. file_of h c.args.from.now) c.deref.result.now (bytes_in c.read_file.result) CompileExpects (ended [])
    (λ work. Unwritten work (g.F.Files.held c.args.files.now) (g.F.Files.held c.write.new.self))
    (ap bytes_in c.in_ok-text.was ∙ ap (λ b. Ok b) (sym c.deref.ensures.value)) c.read_file.ensures.answer c.in_ok-file.ensures.wanted (λ r. absurd r)

pub returns-clause-unwritten : goal.returns-clause-unwritten
returns-clause-unwritten g c =
    of_read (g.F.Files.faults c.args.files.now) (g.F.Files.faults c.read_file.new.files)
    (g.F.Files.held c.args.files.now) (λ h. file_of h c.args.from.now) c.deref.result.now (bytes_in c.read_file.result) CompileExpects (ended [])
    (λ work. Unwritten work (g.F.Files.held c.args.files.now) (g.F.Files.held c.write.new.self))
    (ap bytes_in c.in_ok-text.was ∙ ap (λ b. Ok b) (sym c.deref.ensures.value)) c.read_file.ensures.answer c.in_ok-file.ensures.wanted (λ r. absurd r)

pub returns-clause-answer : goal.returns-clause-answer
returns-clause-answer g c =
    of_read (g.F.Files.faults c.args.files.now) (g.F.Files.faults c.read_file.new.files)
    (g.F.Files.held c.args.files.now) (λ h. file_of h c.args.from.now) c.deref.result.now (bytes_in c.read_file.result) CompileExpects (ended [])
    _
    (ap bytes_in c.in_ok-text.was ∙ ap (λ b. Ok b) (sym c.deref.ensures.value)) c.read_file.ensures.answer c.in_ok-file.ensures.wanted
    (inl refl)

pub returns-clause-file : goal.returns-clause-file
returns-clause-file g c =
    written_file (g.F.Files.faults c.args.files.now) (g.F.Files.faults c.read_file.new.files)
    (g.F.Files.held c.args.files.now) (g.F.Files.held c.read_file.new.files) (g.F.Files.held c.write.new.self) c.args.from.now c.args.to.now
    c.deref.result.now c.deref-2.result.now c.in_ok-file.file.items (bytes_in c.read_file.result) c.write.result CompilesTo
    (ap bytes_in c.in_ok-text.was ∙ ap (λ b. Ok b) (sym c.deref.ensures.value)) c.read_file.ensures.answer c.read_file.ensures.held c.write.ensures.bytes
    c.in_ok-write.was c.deref-2.ensures.value c.in_ok-file.ensures.file

pub returns-in_err-text-clause-asked : goal.returns-in_err-text-clause-asked
returns-in_err-text-clause-asked g c =
    stops_asks IsOk (g.F.Files.requests c.args.files.now) (g.F.Files.requests c.read_file.new.files) (Read c.args.from.now ∷ []) (Write c.args.to.now ∷ []) c.in_err-text.field-0.0 c.read_file.result c.from_residual.result
    c.in_err-text.was (is_err (c.in_err-text.field-0.0) c.from_residual.result c.from_residual.ensures.1) c.read_file.ensures.asked

pub returns-in_err-file-clause-asked : goal.returns-in_err-file-clause-asked
returns-in_err-file-clause-asked g c =
    refused_asks IsOk IsOk (g.F.Files.requests c.args.files.now) (g.F.Files.requests c.read_file.new.files) (Read c.args.from.now ∷ []) (Write c.args.to.now) [] c.in_ok-text.text c.read_file.result c.from_residual-in_err-file.result
    c.in_ok-text.was (subst IsRefusedElsewhere (sym (is_err (c.in_err-file.field-0.0) c.from_residual-in_err-file.result c.from_residual-in_err-file.ensures.1)) (text_elsewhere _ c.in_err-file.field-0.0 c.in_err-file.ensures.refusal)) c.read_file.ensures.asked

pub returns-in_err-write-clause-asked : goal.returns-in_err-write-clause-asked
returns-in_err-write-clause-asked g c =
    then_asks IsOk IsOk (g.F.Files.requests c.args.files.now) (g.F.Files.requests c.read_file.new.files) (g.F.Files.requests c.write.new.self) (Read c.args.from.now ∷ []) (Write c.args.to.now ∷ []) c.in_ok-text.text c.read_file.result c.from_residual-in_err-write.result
    c.in_ok-text.was c.read_file.ensures.asked
    (failed_write IsOk (g.F.Files.requests c.read_file.new.files) (g.F.Files.requests c.write.new.self) c.args.to.now c.deref-2.result.now c.in_err-write.field-0.0 c.write.result c.from_residual-in_err-write.result c.in_err-write.was (is_err (of_files c.in_err-write.field-0.0) c.from_residual-in_err-write.result c.from_residual-in_err-write.ensures.1) c.write.ensures.asked)

pub returns-clause-asked : goal.returns-clause-asked
returns-clause-asked g c =
    then_asks IsOk IsOk (g.F.Files.requests c.args.files.now) (g.F.Files.requests c.read_file.new.files) (g.F.Files.requests c.write.new.self) (Read c.args.from.now ∷ []) (Write c.args.to.now ∷ []) c.in_ok-text.text c.read_file.result (Ok Ended)
    c.in_ok-text.was c.read_file.ensures.asked
    (written_well IsOk (g.F.Files.requests c.read_file.new.files) (g.F.Files.requests c.write.new.self) c.args.to.now c.deref-2.result.now c.write.result (Ok Ended) c.in_ok-write.was tt c.write.ensures.asked)
