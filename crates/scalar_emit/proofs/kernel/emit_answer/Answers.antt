use Rattle.std.proofs.Common.{Option, subst, ap, arith, ◌+◌, List, ◌++◌, sym, ◌∙◌}
use Rattle.std.proofs.lemmas.Result.{on_ok_weaker}
use Rattle.std.specs.Prelude.{option_map}
use Rattle.kernel_tree.specs.declared.ast.Answer.{Answer}
use Rattle.kernel_tree.specs.Plain.{returned_of, Returned}
use Rattle.kernel_tree.specs.Kinds.{AnswerKinds}
use Rattle.kernel_tree.specs.Items.{answer_size}
use Rattle.kernel_scope.specs.Scopes.{scope_of}
use Rattle.label_fix.specs.Finished.{is_plain}
use Rattle.label_fix.specs.Draft.{word_view}
use Rattle.label_fix.specs.DraftRun.{DraftEntry}
use Rattle.scalar_words.specs.View.{homes_of}
use Rattle.loop_code.specs.Loop.{answer_labels}
use Rattle.guest_types.proofs.Errors.{on_error}
use Rattle.scalar_emit.proofs.KernelCalls.{answer_none, none_counted, answer_some}
use Rattle.scalar_emit.proofs.kernel.emit_answer.Goals as goal

pub returns-in_err-put-in-None : goal.returns-in_err-put-in-None
returns-in_err-put-in-None c = on_error _ _ c.from_residual.ensures.0

pub returns-in_err-from-in-Some : goal.returns-in_err-from-in-Some
returns-in_err-from-in-Some c = on_error _ _ c.from_residual-in_err-from-in-Some.ensures.0

pub returns-in_err-emit_copy-in-Some : goal.returns-in_err-emit_copy-in-Some
returns-in_err-emit_copy-in-Some c = on_error _ _ c.from_residual-in_err-emit_copy-in-Some.ensures.0

pub small-requires : goal.small-requires
small-requires c = record {
  register = omega arith;
  value = omega arith;
}

pub put-requires : goal.put-requires
put-requires c = record { plain = ap is_plain c.small.ensures }

pub emit_value-requires : goal.emit_value-requires
emit_value-requires c = record {
  kind = subst (λ (o : Option Answer). AnswerKinds (option_map returned_of o)) c.in-Some.is c.requires.kind;
  fits = omega (arith, ap (λ (o : Option Answer). answer_size (scope_of c.args.site.now.scope).index (option_map returned_of o)) c.in-Some.is, c.requires.fits);
}

pub returns-in_ok-put-in-None : goal.returns-in_ok-put-in-None
returns-in_ok-put-in-None c =
    let s = scope_of c.args.site.now.scope in
    let o = option_map returned_of c.args.answer.now in
    let is = ap (λ (x : Option Answer). option_map returned_of x) c.in-None.is in
    on_ok_weaker c.emit_exit.result (λ p. record {
      labels = none_counted s.index o c.args.draft.now.labels c.emit_exit.new.draft.labels is (p.labels ∙ c.in_ok-put-in-None.ensures.labels);
      code = λ rest. p.code rest
          ∙ c.in_ok-put-in-None.ensures.code _
          ∙ ap (λ (l : List DraftEntry). c.args.draft.now.entries ++ l) (answer_none c.args.site.now.layout (homes_of c.args.site.now.homes.items) s c.args.item c.args.draft.now.labels o (word_view c.small.result) rest is c.small.ensures);
    }) c.emit_exit.ensures

pub returns-in_ok-emit_copy-in-Some : goal.returns-in_ok-emit_copy-in-Some
returns-in_ok-emit_copy-in-Some c =
    let s = scope_of c.args.site.now.scope in
    let o = option_map returned_of c.args.answer.now in
    let is = ap (λ (x : Option Answer). option_map returned_of x) c.in-Some.is in
    let value = c.in_ok-from-in-Some.ensures in
    on_ok_weaker c.emit_exit-in-Some.result (λ p. record {
      labels = p.labels ∙ c.in_ok-emit_copy-in-Some.ensures.labels ∙ value.emits.labels ∙ ap (λ (x : Option Returned). c.args.draft.now.labels + answer_labels s.index x) (sym is);
      code = λ rest. p.code rest
          ∙ c.in_ok-emit_copy-in-Some.ensures.code _
          ∙ value.emits.code _
          ∙ ap (λ (l : List DraftEntry). c.args.draft.now.entries ++ l) (answer_some c.args.site.now.layout (homes_of c.args.site.now.homes.items) s c.args.item c.args.draft.now.labels c.in_ok-from-in-Some.from.number o (returned_of c.in-Some.answer) rest is value.register);
    }) c.emit_exit-in-Some.ensures
