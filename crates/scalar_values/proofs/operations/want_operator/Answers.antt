use Rattle.std.proofs.Common.{List, ◌++◌, refl, ap, ◌∙◌}
use Rattle.label_fix.specs.DraftRun.{DraftEntry}
use Rattle.value_code.proofs.TermCode.{on_ok}
use Rattle.scalar_values.proofs.operations.want_operator.Goals as goal
use Rattle.scalar_values.specs.Sides.{side_view}
use Rattle.scalar_values.proofs.ItemCode.{at_side, at_none}

pub returns-in-None : goal.returns-in-None
returns-in-None c = record { labels = refl; code = λ rest. ap (λ (l : List DraftEntry). c.args.draft.now.entries ++ l) (at_none c.args.made.want _ rest c.in-None.is) }

pub returns-in-Some : goal.returns-in-Some
returns-in-Some c =
    on_ok c.emit_operator.result c.emit_operator.ensures (λ p. record {
      labels = p.labels;
      code = λ rest. p.code rest ∙ ap (λ (l : List DraftEntry). c.args.draft.now.entries ++ l) (at_side (side_view c.args.side) c.args.made.leaves c.args.op c.args.made.want c.in-Some.ty c.args.d.number c.args.a.number rest c.in-Some.is);
    })
