use Rattle.std.proofs.Common.{List, ◌++◌, refl, ap, ◌∙◌}
use Rattle.label_fix.specs.DraftRun.{DraftEntry}
use Rattle.value_code.proofs.TermCode.{on_ok}
use Rattle.scalar_values.proofs.operations.emit_placed.Goals as goal
use Rattle.scalar_values.proofs.ItemCode.{placed_here, placed_not}

pub returns-then-wanted : goal.returns-then-wanted
returns-then-wanted c =
    on_ok c.place.result c.place.ensures (λ p. record {
      labels = p.labels;
      code = λ rest. p.code rest ∙ ap (λ (l : List DraftEntry). c.args.draft.now.entries ++ l) (placed_here c.args.wanted c.args.label rest c.if-wanted.true);
    })

pub returns-else-wanted : goal.returns-else-wanted
returns-else-wanted c = record { labels = refl; code = λ rest. ap (λ (l : List DraftEntry). c.args.draft.now.entries ++ l) (placed_not c.args.wanted c.args.label rest c.if-wanted.false) }
