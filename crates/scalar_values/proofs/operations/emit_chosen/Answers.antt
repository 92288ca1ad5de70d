use Rattle.std.proofs.Common.{List, ◌++◌, ap, ◌∙◌}
use Rattle.label_fix.specs.DraftRun.{DraftEntry}
use Rattle.label_fix.specs.Draft.{word_view}
use Rattle.label_fix.specs.Finished.{is_plain}
use Rattle.value_code.proofs.TermCode.{on_and}
use Rattle.scalar_values.proofs.TermItems.{with_value}
use Rattle.scalar_values.proofs.operations.emit_chosen.Goals as goal
use Rattle.a64_code.specs.View.{cond_number}
use Rattle.scalar_words.specs.Layout.{reg_of}
use Rattle.scalar_values.proofs.ItemCode.{chosen_word}

pub put-requires : goal.put-requires
put-requires c = record { plain = ap is_plain c.select-word.ensures }

pub returns : goal.returns
returns c = record {
  register = with_value c.put.result c.take-d.result _ c.and.ensures c.take-d.ensures.register;
  item = c.take-d.ensures.item;
  emits = on_and c.put.result c.take-d.result c.and.ensures c.put.ensures (λ p. record {
    labels = p.labels;
    code = λ rest. p.code rest ∙ ap (λ (l : List DraftEntry). c.args.draft.now.entries ++ l)
        (chosen_word c.args.op c.signed_side.result c.args.want c.take-d.result.number (reg_of c.args.layout.now c.args.item.now) c.args.values.0.number c.args.values.1.number (cond_number c.condition.result) (word_view c.select-word.result) rest c.select-word.ensures c.take-d.ensures.register c.condition.ensures c.signed_side.ensures);
  });
}
