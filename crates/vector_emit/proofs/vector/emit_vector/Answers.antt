use Rattle.std.proofs.Common.{[]}
use Rattle.std.proofs.lemmas.Result.{on_ok_weaker}
use Rattle.loop_form.specs.View.{program}
use Rattle.vector_emit.proofs.CodeSizes.{vector_appended}
use Rattle.vector_emit.proofs.vector.emit_vector.Goals as goal

pub returns-clause-words : goal.returns-clause-words
returns-clause-words c =
    on_ok_weaker c.branch-draft.result (λ p. vector_appended (program c.args.facts.now.kernel.now) c.args.scalar c.args.draft.now.entries c.emit_start.new.draft.entries c.emit_passes.new.draft.entries c.emit_fold.new.draft.entries c.branch-draft.new.self.entries
    c.in_ok-emit_start.ensures.words c.in_ok-emit_passes.ensures.words c.in_ok-emit_fold.ensures.words (p.code []))
    c.branch-draft.ensures
