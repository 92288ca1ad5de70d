use Rattle.std.proofs.Common.{◌++◌, List, refl, ap, ◌∙◌, arith, ap₂, ℕ, Option}
use Rattle.std.proofs.lemmas.Result.{on_ok_weaker, IfOk-equal}
use Rattle.kernel_tree.specs.Plain.{name_of, term_of}
use Rattle.kernel_tree.specs.Typing.{first, defined}
use Rattle.kernel_tree.specs.declared.ops.Ty.{Ty}
use Rattle.kernel_tree.specs.Items.{term_size}
use Rattle.kernel_scope.specs.Scopes.{scope_of}
use Rattle.label_fix.specs.DraftRun.{DraftEntry}
use Rattle.scalar_words.specs.View.{homes_of}
use Rattle.loop_code.specs.Statements.{defined_homes}
use Rattle.scalar_emit.proofs.StatementCode.{let_is, item_after_size}
use Rattle.guest_types.proofs.Errors.{on_error}
use Rattle.kernel_tree.proofs.Calls.{on_any}
use Rattle.scalar_emit.proofs.statements.emit_let.Goals as goal

pub returns-in_err-from : goal.returns-in_err-from
returns-in_err-from c =
    let failed = c.from_residual.ensures.0 in
    record { layout = on_error _ _ failed; scope = on_error _ _ failed; homes = on_error _ _ failed; item = on_error _ _ failed; emits = on_error _ _ failed }

pub returns-in_err-emit_kept : goal.returns-in_err-emit_kept
returns-in_err-emit_kept c =
    let failed = c.from_residual-in_err-emit_kept.ensures.0 in
    record { layout = on_error _ _ failed; scope = on_error _ _ failed; homes = on_error _ _ failed; item = on_error _ _ failed; emits = on_error _ _ failed }

pub returns-in_err-declare_let : goal.returns-in_err-declare_let
returns-in_err-declare_let c =
    let failed = c.from_residual-in_err-declare_let.ensures.0 in
    record { layout = on_error _ _ failed; scope = on_error _ _ failed; homes = on_error _ _ failed; item = on_error _ _ failed; emits = on_error _ _ failed }

pub emit_value-requires : goal.emit_value-requires
emit_value-requires c = record {
  kind = c.requires.kind;
  fits = omega (arith, c.requires.fits);
}

pub overflow_add-item : goal.overflow_add-item
overflow_add-item c = omega (arith, c.requires.fits, c.in_ok-from.ensures.item)

pub returns : goal.returns
returns c = record {
  emits =
      on_ok_weaker c.define.result (λ _. record {
        labels = c.in_ok-emit_kept.ensures.labels ∙ c.in_ok-from.ensures.emits.labels;
        code = λ rest. c.in_ok-emit_kept.ensures.code rest
            ∙ c.in_ok-from.ensures.emits.code _
            ∙ ap (λ (l : List DraftEntry). c.args.draft.now.entries ++ l)
            (let_is c.args.site.now.layout (homes_of c.args.site.now.homes.items) (homes_of c.args.site.now.homes.items) (scope_of c.args.site.now.scope) c.args.item.now c.args.draft.now.labels c.emit_value.new.item c.in_ok-from.from.number (name_of c.args.name.now) c.args.ty c.first-want.result (term_of c.args.value.now) rest
            refl (c.first-want.ensures ∙ ap (first c.args.ty) c.own_type.ensures) c.in_ok-from.ensures.item c.in_ok-from.ensures.register);
      }) c.define.ensures;
  layout = on_any c.define.result refl;
  scope = IfOk-equal c.define.result _ _ _ c.define.ensures (ap (defined (scope_of c.args.site.now.scope) (name_of c.args.name.now)) (c.first-want.ensures ∙ ap (first c.args.ty) c.own_type.ensures));
  homes = on_any c.define.result (c.in_ok-declare_let.ensures ∙ ap₂ (λ (q : ℕ) (t : Option Ty). defined_homes c.args.site.now.layout q (homes_of c.args.site.now.homes.items) (name_of c.args.name.now) t) c.in_ok-from.ensures.item (c.first-want.ensures ∙ ap (first c.args.ty) c.own_type.ensures));
  item = on_any c.define.result (item_after_size c.args.item.now (term_size (scope_of c.args.site.now.scope).index (term_of c.args.value.now)) c.emit_value.new.item c.in_ok-from.ensures.item);
}
