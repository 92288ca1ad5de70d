use Rattle.std.proofs.Common.{◌≡◌, ◌++◌, Some, Err, ap, sym, ◌∙◌, subst}
use Rattle.std.specs.Prelude.{IfSome}
use Rattle.io_edges.specs.Sink.{GainsPart}
use Rattle.sweep_run.specs.SweepText.{IsSweepFile, sweep_text}
use Rattle.sweep_command.proofs.Sweeps.{memory_swept, write_swept, stands_at, sweep_compiled, lines_swept, part_swept}
use Rattle.std.specs.Prelude.{[], ◌∷◌}
use Rattle.std.proofs.Common.{Ok}
use Rattle.command_answers.proofs.Reading.{is_err}
use Rattle.refusals.specs.Statuses.{of_files}
use Rattle.refusals.specs.declared.refusal.Done.TheVariants.{Ended}
use Rattle.refusals.specs.declared.refusal.Refusal.TheVariants.{Memory, Output}
use Rattle.command_answers.specs.Requests.{Write, IsNotOfFiles}
use Rattle.command_answers.proofs.Asks.{nothing_asks, failed_write, written_well}
use Rattle.sweep_command.proofs.sweep.sweep.Goals as goal

pub returns-in_err-file-clause-swept : goal.returns-in_err-file-clause-swept
returns-in_err-file-clause-swept g c =
    memory_swept c.args.number c.args.to.now (g.F.Files.held c.args.files.now) (g.S.Sink.taken c.args.out.now) c.from_residual.result c.from_residual.ensures.1

pub returns-in_err-write-clause-swept : goal.returns-in_err-write-clause-swept
returns-in_err-write-clause-swept g c =
    write_swept c.args.number c.args.to.now (g.F.Files.held c.write.new.self) (g.S.Sink.taken c.args.out.now) c.in_err-write.field-0.0 c.from_residual-in_err-write.result
    (λ e. c.write.ensures.not_long (c.in_err-write.was ∙ ap (λ x. Err x) e)) c.from_residual-in_err-write.ensures.1

pub returns-in_err-text-clause-swept : goal.returns-in_err-text-clause-swept
returns-in_err-text-clause-swept g c =
    memory_swept c.args.number c.args.to.now (g.F.Files.held c.write.new.self) (g.S.Sink.taken c.args.out.now) c.from_residual-in_err-text.result c.from_residual-in_err-text.ensures.1

pub sweep_text-requires : goal.sweep_text-requires
sweep_text-requires g c = subst (IsSweepFile c.args.number) (sym c.deref-2.ensures.value) c.in_ok-file.ensures

pub returns-in_err-put_all-clause-swept : goal.returns-in_err-put_all-clause-swept
returns-in_err-put_all-clause-swept g c =
    part_swept c.args.number c.args.to.now c.in_ok-file.file.items (g.F.Files.held c.write.new.self) (g.S.Sink.taken c.args.out.now) (g.S.Sink.taken c.put_all.new.sink) c.from_residual-in_err-put_all.result
    c.from_residual-in_err-put_all.ensures.1 c.in_ok-file.ensures
    (stands_at (g.F.Files.held c.args.files.now) (g.F.Files.held c.write.new.self) c.args.to.now c.deref.result.now c.in_ok-file.file.items c.write.result c.write.ensures.bytes c.in_ok-write.was c.deref.ensures.value)
    (subst (λ t. IfSome (g.S.Sink.taken c.args.out.now) (λ b. GainsPart b (g.S.Sink.taken c.put_all.new.sink) t)) (c.deref-3.ensures.value ∙ c.in_ok-text.ensures ∙ ap (sweep_text c.args.number) c.deref-2.ensures.value) c.put_all.ensures.prefix)

pub returns-clause-swept : goal.returns-clause-swept
returns-clause-swept g c =
    lines_swept c.args.number c.args.to.now c.in_ok-file.file.items (g.F.Files.held c.write.new.self) (g.S.Sink.taken c.args.out.now) (g.S.Sink.taken c.put_all.new.sink)
    c.in_ok-file.ensures
    (stands_at (g.F.Files.held c.args.files.now) (g.F.Files.held c.write.new.self) c.args.to.now c.deref.result.now c.in_ok-file.file.items c.write.result c.write.ensures.bytes c.in_ok-write.was c.deref.ensures.value)
    (subst (λ t. IfSome (g.S.Sink.taken c.args.out.now) (λ b. g.S.Sink.taken c.put_all.new.sink ≡ Some (b ++ t))) (c.deref-3.ensures.value ∙ c.in_ok-text.ensures ∙ ap (sweep_text c.args.number) c.deref-2.ensures.value) c.in_ok-put_all.ensures.all)
    (subst (λ t. IfSome (g.S.Sink.taken c.args.out.now) (λ b. GainsPart b (g.S.Sink.taken c.put_all.new.sink) t)) (c.deref-3.ensures.value ∙ c.in_ok-text.ensures ∙ ap (sweep_text c.args.number) c.deref-2.ensures.value) c.put_all.ensures.prefix)

pub returns-clause-file : goal.returns-clause-file
returns-clause-file g c =
    sweep_compiled c.args.number c.args.to.now c.in_ok-file.file.items (g.F.Files.held c.args.files.now) (g.F.Files.held c.write.new.self) c.in_ok-file.ensures
    (stands_at (g.F.Files.held c.args.files.now) (g.F.Files.held c.write.new.self) c.args.to.now c.deref.result.now c.in_ok-file.file.items c.write.result c.write.ensures.bytes c.in_ok-write.was c.deref.ensures.value)

pub returns-in_err-file-clause-asked : goal.returns-in_err-file-clause-asked
returns-in_err-file-clause-asked g c =
    nothing_asks (g.F.Files.requests c.args.files.now) (Write c.args.to.now ∷ []) Memory c.from_residual.result tt (is_err (Memory) c.from_residual.result c.from_residual.ensures.1)

pub returns-in_err-write-clause-asked : goal.returns-in_err-write-clause-asked
returns-in_err-write-clause-asked g c =
    failed_write IsNotOfFiles (g.F.Files.requests c.args.files.now) (g.F.Files.requests c.write.new.self) c.args.to.now c.deref.result.now c.in_err-write.field-0.0 c.write.result c.from_residual-in_err-write.result c.in_err-write.was (is_err (of_files c.in_err-write.field-0.0) c.from_residual-in_err-write.result c.from_residual-in_err-write.ensures.1) c.write.ensures.asked

pub returns-in_err-text-clause-asked : goal.returns-in_err-text-clause-asked
returns-in_err-text-clause-asked g c =
    written_well IsNotOfFiles (g.F.Files.requests c.args.files.now) (g.F.Files.requests c.write.new.self) c.args.to.now c.deref.result.now c.write.result c.from_residual-in_err-text.result c.in_ok-write.was (subst IsNotOfFiles (sym (is_err (Memory) c.from_residual-in_err-text.result c.from_residual-in_err-text.ensures.1)) tt) c.write.ensures.asked

pub returns-in_err-put_all-clause-asked : goal.returns-in_err-put_all-clause-asked
returns-in_err-put_all-clause-asked g c =
    written_well IsNotOfFiles (g.F.Files.requests c.args.files.now) (g.F.Files.requests c.write.new.self) c.args.to.now c.deref.result.now c.write.result c.from_residual-in_err-put_all.result c.in_ok-write.was (subst IsNotOfFiles (sym (is_err (Output) c.from_residual-in_err-put_all.result c.from_residual-in_err-put_all.ensures.1)) tt) c.write.ensures.asked

pub returns-clause-asked : goal.returns-clause-asked
returns-clause-asked g c =
    written_well IsNotOfFiles (g.F.Files.requests c.args.files.now) (g.F.Files.requests c.write.new.self) c.args.to.now c.deref.result.now c.write.result (Ok Ended) c.in_ok-write.was tt c.write.ensures.asked
