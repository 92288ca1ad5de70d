use Rattle.std.proofs.Common.{List, ◌++◌, refl, ap, ◌∙◌}
use Rattle.std.proofs.lemmas.Result.{on_ok_weaker}
use Rattle.label_fix.specs.DraftRun.{DraftEntry}
use Rattle.scalar_words.proofs.OperatorWords.{is_plain_entry, copy_before_rest, copied_not}
use Rattle.scalar_words.proofs.operations.emit_copy.Goals as goal

pub put-requires : goal.put-requires
put-requires c = record { plain = ap is_plain_entry c.copy.ensures }

pub returns-then-d-a : goal.returns-then-d-a
returns-then-d-a c = record {
  labels = refl;
  code = λ rest. ap (λ (es : List DraftEntry). c.args.draft.now.entries ++ es) (copied_not c.args.d.number c.args.a.number rest c.if-d-a.true);
}

pub returns-else-d-a : goal.returns-else-d-a
returns-else-d-a c =
    on_ok_weaker c.put.result (λ p. record {
      labels = p.labels;
      code = λ rest. p.code rest ∙ ap (λ (es : List DraftEntry). c.args.draft.now.entries ++ es) (copy_before_rest c.args.d.number c.args.a.number _ rest c.if-d-a.false c.copy.ensures);
    }) c.put.ensures
