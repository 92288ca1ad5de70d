use Rattle.std.proofs.Common.{arith, List, ◌++◌, refl, ap, ◌∙◌}
use Rattle.std.proofs.lemmas.Result.{on_ok_weaker}
use Rattle.kernel_tree.specs.Plain.{name_of, term_of}
use Rattle.kernel_tree.specs.Items.{term_size}
use Rattle.kernel_scope.specs.Scopes.{scope_of}
use Rattle.label_fix.specs.DraftRun.{DraftEntry}
use Rattle.label_fix.specs.Registers.{iteration}
use Rattle.scalar_words.specs.View.{homes_of}
use Rattle.guest_types.proofs.Errors.{on_error}
use Rattle.kernel_tree.proofs.Calls.{on_any}
use Rattle.scalar_emit.proofs.StatementCode.{item_after_size, placed_store, computed_store}
use Rattle.scalar_emit.proofs.statements.emit_store.Goals as goal

pub returns-in_err-from : goal.returns-in_err-from
returns-in_err-from c =
    let failed = c.from_residual.ensures.0 in
    record { item = on_error _ _ failed; emits = on_error _ _ failed }

pub emit_stored-requires : goal.emit_stored-requires
emit_stored-requires c = record {
  kind = c.requires.kind;
  fits = omega (arith, c.requires.fits);
}

pub overflow_add-item : goal.overflow_add-item
overflow_add-item c = omega (arith, c.requires.fits, c.in_ok-from.ensures.item)

pub returns-in-Some : goal.returns-in-Some
returns-in-Some c = record {
  item = on_any c.emit_into.result (item_after_size c.args.item.now (term_size (scope_of c.args.site.now.scope).index (term_of c.args.value.now)) c.emit_stored.new.item c.in_ok-from.ensures.item);
  emits =
      let s = scope_of c.args.site.now.scope in
      let hs = homes_of c.args.site.now.homes.items in
      let stored = c.in_ok-from.ensures in
      on_ok_weaker c.emit_into.result (λ p. record {
        labels = p.labels ∙ stored.emits.labels;
        code = λ rest. p.code rest
            ∙ stored.emits.code _
            ∙ ap (λ (l : List DraftEntry). c.args.draft.now.entries ++ l)
            (placed_store c.args.site.now.layout hs s c.args.item.now c.args.draft.now.labels (name_of c.args.array.now) (term_of c.args.index.now) (term_of c.args.value.now) c.array_type-ty.result c.extent_at-extent.result c.in_ok-from.from.number c.in-Some.place.number iteration rest
            c.array_type-ty.ensures c.extent_at-extent.ensures stored.register c.in-Some.ensures refl);
      }) c.emit_into.ensures;
}

pub returns-in-None : goal.returns-in-None
returns-in-None c = record {
  item = on_any c.emit_put.result (item_after_size c.args.item.now (term_size (scope_of c.args.site.now.scope).index (term_of c.args.value.now)) c.emit_stored.new.item c.in_ok-from.ensures.item);
  emits =
      let s = scope_of c.args.site.now.scope in
      let hs = homes_of c.args.site.now.homes.items in
      let stored = c.in_ok-from.ensures in
      on_ok_weaker c.emit_put.result (λ p. record {
        labels = p.labels ∙ stored.emits.labels;
        code = λ rest. p.code rest
            ∙ stored.emits.code _
            ∙ ap (λ (l : List DraftEntry). c.args.draft.now.entries ++ l)
            (computed_store c.args.site.now.layout hs s c.args.item.now c.args.draft.now.labels (name_of c.args.array.now) (term_of c.args.index.now) (term_of c.args.value.now) c.array_type-ty.result c.extent_at-extent.result c.in_ok-from.from.number c.register.result.number rest
            c.array_type-ty.ensures c.extent_at-extent.ensures stored.register c.in-None.ensures c.register.ensures);
      }) c.emit_put.ensures;
}
