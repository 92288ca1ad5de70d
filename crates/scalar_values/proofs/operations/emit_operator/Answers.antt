use Rattle.std.proofs.Common.{List, ◌++◌, ap, ◌∙◌}
use Rattle.std.proofs.lemmas.Result.{IfOk-from_err}
use Rattle.label_fix.specs.DraftRun.{DraftEntry}
use Rattle.label_fix.specs.Draft.{word_view}
use Rattle.value_code.proofs.TermCode.{on_ok}
use Rattle.scalar_values.proofs.operations.emit_operator.Goals as goal
use Rattle.scalar_values.specs.Sides.{side_view}
use Rattle.value_code.specs.ItemWords.{shift_kind}
use Rattle.scalar_values.proofs.ItemCode.{by_register, by_sum, by_product, by_moved}

pub emit_then_settle-requires : goal.emit_then_settle-requires
emit_then_settle-requires c = c.sum_word-word.ensures.plain

pub emit_then_settle-requires-in-Product : goal.emit_then_settle-requires-in-Product
emit_then_settle-requires-in-Product c = c.product_word-word.ensures.plain

pub emit_then_settle-requires-in-Moved : goal.emit_then_settle-requires-in-Moved
emit_then_settle-requires-in-Moved c = c.shift_word-word.ensures.plain

pub returns-in_err-emit_operation-in-Register : goal.returns-in_err-emit_operation-in-Register
returns-in_err-emit_operation-in-Register c = IfOk-from_err _ _ c.from_residual.ensures.0

pub returns-in_ok-emit_operation-in-Register : goal.returns-in_ok-emit_operation-in-Register
returns-in_ok-emit_operation-in-Register c =
    on_ok c.emit_settle.result c.emit_settle.ensures (λ p. record {
      labels = p.labels ∙ c.in_ok-emit_operation-in-Register.ensures.labels;
      code = λ rest. p.code rest ∙ c.in_ok-emit_operation-in-Register.ensures.code _ ∙ ap (λ (l : List DraftEntry). c.args.draft.now.entries ++ l)
          (by_register (side_view c.args.side) c.args.leaves c.is_signed.result c.args.op c.args.ty c.args.d.number c.args.a.number c.in-Register.c.number rest (ap side_view c.in-Register.is) c.is_signed.ensures);
    })

pub returns-in-Number : goal.returns-in-Number
returns-in-Number c =
    on_ok c.emit_then_settle.result c.emit_then_settle.ensures (λ p. record {
      labels = p.labels;
      code = λ rest. p.code rest ∙ ap (λ (l : List DraftEntry). c.args.draft.now.entries ++ l) (by_sum (side_view c.args.side) c.args.leaves c.args.op c.args.ty c.args.d.number c.args.a.number c.in-Number.number (word_view c.sum_word-word.result) rest (ap side_view c.in-Number.is) c.sum_word-word.ensures.word);
    })

pub returns-in-Product : goal.returns-in-Product
returns-in-Product c =
    on_ok c.emit_then_settle-in-Product.result c.emit_then_settle-in-Product.ensures (λ p. record {
      labels = p.labels;
      code = λ rest. p.code rest ∙ ap (λ (l : List DraftEntry). c.args.draft.now.entries ++ l) (by_product (side_view c.args.side) c.args.leaves c.args.op c.args.ty c.args.d.number c.args.a.number c.in-Product.p.number c.in-Product.q.number (word_view c.product_word-word.result) rest (ap side_view c.in-Product.is) c.product_word-word.ensures.word);
    })

pub returns-in-Moved : goal.returns-in-Moved
returns-in-Moved c =
    on_ok c.emit_then_settle-in-Moved.result c.emit_then_settle-in-Moved.ensures (λ p. record {
      labels = p.labels;
      code = λ rest. p.code rest ∙ ap (λ (l : List DraftEntry). c.args.draft.now.entries ++ l) (by_moved (side_view c.args.side) c.args.leaves c.args.op c.args.ty c.args.d.number c.args.a.number (shift_kind c.in-Moved.left c.in-Moved.signed) c.in-Moved.count.number c.in-Moved.register.number (word_view c.shift_word-word.result) rest (ap side_view c.in-Moved.is) c.shift_word-word.ensures.word);
    })
