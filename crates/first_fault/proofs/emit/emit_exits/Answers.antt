use Rattle.std.proofs.Common.{[]}
use Rattle.std.proofs.lemmas.Result.{on_ok_weaker}
use Rattle.chunk_emit.specs.View.{layout_in, width_in}
use Rattle.first_fault.proofs.MostWords.{exits_most}
use Rattle.first_fault.proofs.emit.emit_exits.Goals as goal

pub returns-clause-words : goal.returns-clause-words
returns-clause-words c =
    on_ok_weaker c.emit_region.result
    (λ p. exits_most (width_in c.args.layout.now) (layout_in c.args.layout.now) _ c.args.items.now c.args.draft.now.entries c.put.new.self.entries c.emit_region.new.draft.entries (c.in_ok-put.ensures.code []) (p.code [])) c.emit_region.ensures
