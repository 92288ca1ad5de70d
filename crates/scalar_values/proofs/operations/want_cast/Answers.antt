use Rattle.std.proofs.Common.{List, ◌++◌, refl, ap, ◌∙◌}
use Rattle.label_fix.specs.DraftRun.{DraftEntry}
use Rattle.value_code.proofs.TermCode.{on_and}
use Rattle.scalar_values.proofs.TermItems.{with_value}
use Rattle.scalar_values.proofs.operations.want_cast.Goals as goal
use Rattle.scalar_words.specs.Layout.{reg_of}
use Rattle.scalar_values.proofs.ItemCode.{cast_at, at_none}

pub returns-in-None : goal.returns-in-None
returns-in-None c = record {
  register = c.take-d.ensures.register;
  item = c.take-d.ensures.item;
  emits = record { labels = refl; code = λ rest. ap (λ (l : List DraftEntry). c.args.draft.now.entries ++ l) (at_none c.args.from _ rest c.in-None.is) };
}

pub returns-in-Some : goal.returns-in-Some
returns-in-Some c = record {
  register = with_value c.emit_convert.result c.take-d.result _ c.and.ensures c.take-d.ensures.register;
  item = c.take-d.ensures.item;
  emits = on_and c.emit_convert.result c.take-d.result c.and.ensures c.emit_convert.ensures (λ p. record {
    labels = p.labels;
    code = λ rest. p.code rest ∙ ap (λ (l : List DraftEntry). c.args.draft.now.entries ++ l) (cast_at c.args.low c.args.from c.in-Some.from c.args.ty c.take-d.result.number (reg_of c.args.layout.now c.args.item.now) c.args.a.number rest c.in-Some.is c.take-d.ensures.register);
  });
}
