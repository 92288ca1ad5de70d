use Rattle.std.proofs.Common.{List, ◌++◌, ap, ◌∙◌}
use Rattle.label_fix.specs.DraftRun.{DraftEntry}
use Rattle.label_fix.specs.Draft.{word_view}
use Rattle.label_fix.specs.Finished.{is_plain}
use Rattle.value_code.proofs.TermCode.{on_ok}
use Rattle.scalar_values.proofs.operations.emit_unary.Goals as goal
use Rattle.scalar_values.proofs.ItemCode.{negated, flipped, absolute}

pub emit_then_settle-requires : goal.emit_then_settle-requires
emit_then_settle-requires c = ap is_plain c.add_sub-word.ensures

pub emit_then_settle-requires-in-Flip : goal.emit_then_settle-requires-in-Flip
emit_then_settle-requires-in-Flip c = ap is_plain c.logical-word.ensures

pub returns-in-Neg : goal.returns-in-Neg
returns-in-Neg c =
    on_ok c.emit_then_settle.result c.emit_then_settle.ensures (λ p. record {
      labels = p.labels;
      code = λ rest. p.code rest ∙ ap (λ (l : List DraftEntry). c.args.draft.now.entries ++ l) (negated c.args.leaves c.args.op c.args.ty c.args.d.number c.args.a.number c.zero.result.number (word_view c.add_sub-word.result) rest c.in-Neg.is c.zero.ensures c.add_sub-word.ensures);
    })

pub returns-in-Flip : goal.returns-in-Flip
returns-in-Flip c =
    on_ok c.emit_then_settle-in-Flip.result c.emit_then_settle-in-Flip.ensures (λ p. record {
      labels = p.labels;
      code = λ rest. p.code rest ∙ ap (λ (l : List DraftEntry). c.args.draft.now.entries ++ l) (flipped c.args.leaves c.args.op c.args.ty c.args.d.number c.args.a.number c.zero-in-Flip.result.number (word_view c.logical-word.result) rest c.in-Flip.is c.zero-in-Flip.ensures c.logical-word.ensures);
    })

pub returns-in-Abs : goal.returns-in-Abs
returns-in-Abs c =
    on_ok c.emit_abs.result c.emit_abs.ensures (λ p. record {
      labels = p.labels;
      code = λ rest. p.code rest ∙ ap (λ (l : List DraftEntry). c.args.draft.now.entries ++ l) (absolute c.args.leaves c.args.op c.args.ty c.args.d.number c.args.a.number rest c.in-Abs.is);
    })
