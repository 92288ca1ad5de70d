use Rattle.std.proofs.Common.{List, ◌++◌, refl, ap, ◌∙◌}
use mir.Syntax.{w128}
use mir.Val.{of_z, to_z}
use Rattle.std.proofs.lemmas.Int.{to_z-of_z}
use Rattle.label_fix.specs.DraftRun.{DraftEntry}
use Rattle.label_fix.specs.Draft.{word_view}
use Rattle.label_fix.specs.Finished.{is_plain}
use Rattle.value_code.proofs.TermCode.{on_and}
use Rattle.scalar_values.proofs.TermItems.{with_value}
use Rattle.scalar_values.proofs.operations.want_shift.Goals as goal
use Rattle.scalar_words.specs.Layout.{reg_of}
use Rattle.scalar_values.proofs.ItemCode.{shift_at, at_none}

pub emit_then_settle-requires : goal.emit_then_settle-requires
emit_then_settle-requires c = ap is_plain c.shifted-word.ensures

pub returns-in-None : goal.returns-in-None
returns-in-None c = record {
  register = c.take-d.ensures.register;
  item = c.take-d.ensures.item;
  emits = record { labels = refl; code = λ rest. ap (λ (l : List DraftEntry). c.args.draft.now.entries ++ l) (at_none c.args.made.want _ rest c.in-None.is) };
}

pub returns-in-Some : goal.returns-in-Some
returns-in-Some c = record {
  register = with_value c.emit_then_settle.result c.take-d.result _ c.and.ensures c.take-d.ensures.register;
  item = c.take-d.ensures.item;
  emits = on_and c.emit_then_settle.result c.take-d.result c.and.ensures c.emit_then_settle.ensures (λ p. record {
    labels = p.labels;
    code = λ rest. p.code rest ∙ ap (λ (l : List DraftEntry). c.args.draft.now.entries ++ l) (shift_at c.args.made.leaves c.args.left c.is_signed.result c.args.count (to_z w128 (of_z w128 c.args.count)) c.args.made.want c.in-Some.ty c.take-d.result.number (reg_of c.args.layout.now c.args.item.now) c.args.a.number c.shift_count.result.number (word_view c.shifted-word.result) rest c.in-Some.is c.take-d.ensures.register (to_z-of_z w128 c.args.count c.ranges.count) c.is_signed.ensures c.shift_count.ensures c.shifted-word.ensures);
  });
}
