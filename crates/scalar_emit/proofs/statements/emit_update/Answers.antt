use Rattle.std.proofs.Common.{List, ◌++◌, refl, ap, ◌∙◌, arith}
use Rattle.std.proofs.lemmas.Result.{on_ok_weaker}
use Rattle.std.specs.Prelude.{option_and_then}
use Rattle.kernel_tree.specs.Typing.{accumulator_type}
use Rattle.kernel_tree.specs.Plain.{name_of, term_of}
use Rattle.kernel_tree.specs.Items.{term_size}
use Rattle.kernel_scope.specs.Scopes.{scope_of}
use Rattle.label_fix.specs.DraftRun.{DraftEntry}
use Rattle.scalar_words.specs.View.{homes_of}
use Rattle.value_code.specs.declared.extent.Extent.{Extent}
use Rattle.value_code.specs.Extents.{within, binary_extent}
use Rattle.value_code.specs.Covers.{held_extent}
use Rattle.scalar_values.specs.Sides.{side_view}
use Rattle.loop_code.proofs.Emission.{update_is}
use Rattle.guest_types.proofs.Errors.{on_error}
use Rattle.kernel_tree.proofs.Calls.{on_any}
use Rattle.kernel_tree.proofs.Walks.{update_type}
use Rattle.scalar_emit.proofs.StatementCode.{item_after_size}
use Rattle.scalar_emit.proofs.statements.emit_update.Goals as goal

pub returns-in_err-side : goal.returns-in_err-side
returns-in_err-side c =
    let failed = c.from_residual.ensures.0 in
    record { item = on_error _ _ failed; emits = on_error _ _ failed }

pub emit_side-requires : goal.emit_side-requires
emit_side-requires c = record {
  kind = c.requires.kind;
  fits = omega (arith, c.requires.fits);
}

pub overflow_add-item : goal.overflow_add-item
overflow_add-item c = omega (arith, c.requires.fits, c.in_ok-side.ensures.item)

pub returns : goal.returns
returns c = record {
  emits =
      let L = c.args.site.now.layout in
      let x = name_of c.args.name.now in
      let held = c.held_extent-held.ensures ∙ ap held_extent c.loose_form.ensures in
      let extent = c.binary_extent-extent.ensures ∙ ap (λ (w : Extent). binary_extent c.update_operator-op.result w c.and_then-want.result) held in
      let low = c.within.ensures ∙ ap (λ (w : Extent). within w c.and_then-want.result) held in
      let leaves = c.settles-leaves.ensures ∙ rw (low, c.binary_joins.ensures, c.binary_leaves.ensures) refl in
      let want = update_type c.lookup.result c.and_then-want.result c.and_then-want.ensures ∙ ap (option_and_then accumulator_type) c.lookup.ensures in
      on_ok_weaker c.want_operator.result (λ p. record {
        labels = p.labels ∙ c.in_ok-side.ensures.emits.labels;
        code = λ rest. p.code rest
            ∙ c.in_ok-side.ensures.emits.code _
            ∙ ap (λ (l : List DraftEntry). c.args.draft.now.entries ++ l)
            (update_is L (homes_of c.args.site.now.homes.items) (scope_of c.args.site.now.scope) 0 c.args.item.now c.args.draft.now.labels x c.args.op c.update_operator-op.result c.and_then-want.result c.binary_extent-extent.result (term_of c.args.value.now) (side_view c.in_ok-side.side) c.settles-leaves.result c.register-register.result.number rest
            c.update_operator-op.ensures want extent c.in_ok-side.ensures.side leaves c.register-register.ensures);
      }) c.want_operator.ensures;
  item = on_any c.want_operator.result (item_after_size c.args.item.now (term_size (scope_of c.args.site.now.scope).index (term_of c.args.value.now)) c.emit_side.new.item c.in_ok-side.ensures.item);
}
