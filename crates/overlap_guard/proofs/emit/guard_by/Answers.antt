use Rattle.std.proofs.Common.{[], rules}
use Rattle.std.proofs.lemmas.Result.{on_ok_weaker}
use Rattle.loop_form.specs.View.{program}
use Rattle.overlap_guard.proofs.Placed.{guard_appended}
use Rattle.overlap_guard.proofs.emit.guard_by.Goals as goal

pub returns-clause-emits : goal.returns-clause-emits
returns-clause-emits c = search rules

pub returns-clause-words : goal.returns-clause-words
returns-clause-words c =
    on_ok_weaker c.emit_used.result (λ p. guard_appended (program c.args.kernel.now) c.args.fail c.args.draft.now.labels c.args.draft.now.entries c.emit_used.new.draft.entries c.few_arrays.ensures (p.code []))
    (returns-clause-emits c)
