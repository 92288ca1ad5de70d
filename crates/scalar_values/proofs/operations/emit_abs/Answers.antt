use Rattle.std.proofs.Common.{List, ◌++◌, refl, sym, ap, ◌∙◌}
use Rattle.std.proofs.lemmas.Result.{IfOk-from_err}
use Rattle.label_fix.specs.DraftRun.{DraftEntry}
use Rattle.label_fix.specs.Draft.{word_view}
use Rattle.label_fix.specs.Finished.{is_plain}
use Rattle.label_fix.specs.Registers.{scratch}
use Rattle.value_code.proofs.TermCode.{on_ok}
use Rattle.scalar_values.proofs.operations.emit_abs.Goals as goal
use Rattle.kernel_tree.specs.Wrap.{is_signed}
use Rattle.scalar_values.proofs.ItemCode.{signed_abs, unsigned_abs}

pub put-requires : goal.put-requires
put-requires c = record { plain = ap is_plain c.add_sub.ensures }

pub emit_then_settle-requires : goal.emit_then_settle-requires
emit_then_settle-requires c = ap is_plain c.select-word.ensures

pub returns-in_err-put : goal.returns-in_err-put
returns-in_err-put c = IfOk-from_err _ _ c.from_residual.ensures.0

pub returns-in_ok-put : goal.returns-in_ok-put
returns-in_ok-put c =
    on_ok c.emit_then_settle.result c.emit_then_settle.ensures (λ p. record {
      labels = p.labels ∙ c.in_ok-put.ensures.labels;
      code = λ rest. p.code rest ∙ c.in_ok-put.ensures.code _ ∙ ap (λ (l : List DraftEntry). c.args.draft.now.entries ++ l)
          (signed_abs c.args.leaves (is_signed c.args.ty) c.args.ty c.args.d.number c.args.a.number scratch scratch c.zero.result.number (word_view c.add_sub.result) (word_view c.select-word.result) rest (sym c.is_signed.ensures ∙ c.if-is_signed.true) refl c.zero.ensures refl c.add_sub.ensures c.select-word.ensures);
    })

pub returns-else-is_signed : goal.returns-else-is_signed
returns-else-is_signed c =
    on_ok c.emit_copy.result c.emit_copy.ensures (λ p. record {
      labels = p.labels;
      code = λ rest. p.code rest ∙ ap (λ (l : List DraftEntry). c.args.draft.now.entries ++ l) (unsigned_abs c.args.leaves (is_signed c.args.ty) c.args.ty c.args.d.number c.args.a.number rest (sym c.is_signed.ensures ∙ c.if-is_signed.false));
    })
