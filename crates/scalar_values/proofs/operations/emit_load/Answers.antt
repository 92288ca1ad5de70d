use Rattle.std.proofs.Common.{List, ◌++◌, refl, ap, ◌∙◌}
use Rattle.label_fix.specs.DraftRun.{DraftEntry}
use Rattle.label_fix.specs.Draft.{word_view}
use Rattle.value_code.proofs.TermCode.{on_and}
use Rattle.scalar_values.proofs.TermItems.{with_value}
use Rattle.scalar_values.proofs.operations.emit_load.Goals as goal
use Rattle.scalar_words.specs.Layout.{reg_of}
use Rattle.scalar_values.proofs.ItemCode.{load_plain, load_some, load_none}

pub put-requires : goal.put-requires
put-requires c = record { plain = load_plain c.in-Some.ty (word_view c.load.result) c.take-d.result.number c.args.p.number c.args.r.number c.load.ensures }

pub returns-in-None : goal.returns-in-None
returns-in-None c = record {
  register = c.take-d.ensures.register;
  item = c.take-d.ensures.item;
  emits = record { labels = refl; code = λ rest. ap (λ (l : List DraftEntry). c.args.draft.now.entries ++ l) (load_none c.args.ty _ _ _ rest c.in-None.is) };
}

pub returns-in-Some : goal.returns-in-Some
returns-in-Some c = record {
  register = with_value c.put.result c.take-d.result _ c.and.ensures c.take-d.ensures.register;
  item = c.take-d.ensures.item;
  emits = on_and c.put.result c.take-d.result c.and.ensures c.put.ensures (λ p. record {
    labels = p.labels;
    code = λ rest. p.code rest ∙ ap (λ (l : List DraftEntry). c.args.draft.now.entries ++ l) (load_some c.args.ty c.in-Some.ty (word_view c.load.result) c.take-d.result.number (reg_of c.args.layout.now c.args.item.now) c.args.p.number c.args.r.number rest c.in-Some.is c.load.ensures c.take-d.ensures.register);
  });
}
