use Rattle.std.proofs.Common.{[], rules}
use Rattle.std.proofs.lemmas.Result.{on_ok_weaker}
use Rattle.loop_form.specs.View.{program}
use Rattle.scalar_words.specs.KernelRegisters.{register_in}
use Rattle.reductions.proofs.EdgeSizes.{fold_appended}
use Rattle.reductions.proofs.fold.emit_fold.Goals as goal

pub returns-clause-emits : goal.returns-clause-emits
unfolding program
returns-clause-emits c = search rules

pub returns-clause-words : goal.returns-clause-words
returns-clause-words c =
    on_ok_weaker c.emit_values.result (λ p. fold_appended (register_in c.args.regs.now.x) (program c.args.facts.now.kernel.now) c.args.regs.now.z c.args.draft.now.entries c.emit_values.new.draft.entries (p.code []))
    (returns-clause-emits c)
