use Rattle.std.proofs.Common.{ℕ, ◌+◌, ◌++◌, List, None, ap, ap₂, ◌∙◌, sym}
use Rattle.std.proofs.lemmas.Result.{IfOk-from_err}
use Rattle.kernel_tree.specs.Plain.{for_loop_of, block_of, name_of}
use Rattle.kernel_tree.specs.Typing.{Scope}
use Rattle.kernel_scope.specs.Scopes.{scope_of}
use Rattle.label_fix.specs.DraftRun.{DraftEntry}
use Rattle.label_fix.specs.Registers.{iteration}
use Rattle.scalar_words.specs.Layout.{Layout, loose_in}
use Rattle.scalar_words.specs.View.{homes_of}
use Rattle.loop_code.specs.Statements.{block_labels}
use Rattle.loop_code.specs.Loop.{again_code}
use Rattle.loop_code.proofs.Emission.{index_named}
use Rattle.scalar_emit.proofs.LoopCode.{loop_is, loop_items, loop_more, inside_room, last_given, last_placed}
use Rattle.guest_types.proofs.Errors.{on_error}
use Rattle.scalar_emit.proofs.for_loop.emit_loop.Goals as goal

pub returns-in_err-push : goal.returns-in_err-push
returns-in_err-push c =
    let failed = c.from_residual.ensures.0 in
    record { head = IfOk-from_err _ _ failed; layout = on_error _ _ failed; scope = on_error _ _ failed; homes = on_error _ _ failed; item = on_error _ _ failed; emits = on_error _ _ failed }

pub returns-in_err-declare : goal.returns-in_err-declare
returns-in_err-declare c =
    let failed = c.from_residual-in_err-declare.ensures.0 in
    record { head = IfOk-from_err _ _ failed; layout = on_error _ _ failed; scope = on_error _ _ failed; homes = on_error _ _ failed; item = on_error _ _ failed; emits = on_error _ _ failed }

pub returns-in_err-labels : goal.returns-in_err-labels
returns-in_err-labels c =
    let failed = c.from_residual-in_err-labels.ensures.0 in
    record { head = IfOk-from_err _ _ failed; layout = on_error _ _ failed; scope = on_error _ _ failed; homes = on_error _ _ failed; item = on_error _ _ failed; emits = on_error _ _ failed }

pub returns-in_err-emit_inside : goal.returns-in_err-emit_inside
returns-in_err-emit_inside c =
    let failed = c.from_residual-in_err-emit_inside.ensures.0 in
    record { head = IfOk-from_err _ _ failed; layout = on_error _ _ failed; scope = on_error _ _ failed; homes = on_error _ _ failed; item = on_error _ _ failed; emits = on_error _ _ failed }

pub returns-in_err-emit_again : goal.returns-in_err-emit_again
returns-in_err-emit_again c =
    let failed = c.from_residual-in_err-emit_again.ensures.0 in
    record { head = IfOk-from_err _ _ failed; layout = on_error _ _ failed; scope = on_error _ _ failed; homes = on_error _ _ failed; item = on_error _ _ failed; emits = on_error _ _ failed }

pub overflow_add-item : goal.overflow_add-item
overflow_add-item c = loop_more c.args.item.now _ c.requires.fits

pub emit_inside-requires : goal.emit_inside-requires
emit_inside-requires c = record {
  last = last_given c.in_ok-labels.labels.last c.args.draft.now.labels c.emit_entry.new.draft.labels c.in_ok-labels.ensures.last c.in_ok-labels.ensures.emits.labels;
  kinds = c.requires.kinds;
  fits = inside_room (scope_of c.args.site.now.scope) (scope_of c.declare.new.scope) (block_of c.args.for_loop.now.body.items) c.args.item.now (ap (λ (s : Scope). s.index) c.in_ok-declare.ensures) c.requires.fits;
}

pub emit_again-requires : goal.emit_again-requires
emit_again-requires c = record {
  exit = c.in_ok-labels.ensures.exit ∙ sym (ap (λ n. n + 1) c.in_ok-labels.ensures.head);
  top = c.in_ok-labels.ensures.top ∙ sym (ap (λ n. n + 2) c.in_ok-labels.ensures.head);
  last = c.in_ok-labels.ensures.last ∙ sym (ap (λ n. n + 3) c.in_ok-labels.ensures.head);
  given = last_placed c.in_ok-labels.labels.last c.args.draft.now.labels c.emit_entry.new.draft.labels c.emit_inside.new.draft.labels _ c.in_ok-labels.ensures.last c.in_ok-labels.ensures.emits.labels c.in_ok-emit_inside.ensures.emits.labels;
}

pub returns : goal.returns
returns c = record {
  emits =
      let home = ap (λ (x : List ℕ). record { name = x; register = iteration; last_use = None }) c.text-name.ensures in
      let named = index_named c.args.site.now.homes.items c.push.new.self.items _ (for_loop_of c.args.for_loop.now) c.in_ok-push.ensures.items home in
      record {
        labels = c.in_ok-emit_again.ensures.labels ∙ c.in_ok-emit_inside.ensures.emits.labels ∙ ap₂ (λ n i. n + block_labels i (block_of c.args.for_loop.now.body.items)) c.in_ok-labels.ensures.emits.labels (ap (λ (s : Scope). s.index) c.in_ok-declare.ensures);
        code = λ rest. c.in_ok-emit_again.ensures.code rest
            ∙ ap (λ (M : Layout). c.emit_inside.new.draft.entries ++ again_code (loose_in M.loose (name_of c.args.for_loop.now.index)) c.register_at-bound.result.number c.in_ok-labels.labels.head (homes_of c.deref-3.result.now) M.loose rest) c.in_ok-emit_inside.ensures.layout
            ∙ c.in_ok-emit_inside.ensures.emits.code _
            ∙ c.in_ok-labels.ensures.emits.code _
            ∙ ap (λ (l : List DraftEntry). c.args.draft.now.entries ++ l)
            (loop_is c.args.site.now.layout (homes_of c.args.site.now.homes.items) (homes_of c.deref.result.now) (homes_of c.deref-2.result.now) (homes_of c.push.new.self.items) (homes_of c.deref-3.result.now) (scope_of c.args.site.now.scope) (scope_of c.declare.new.scope) (for_loop_of c.args.for_loop.now) c.args.item.now c.args.draft.now.labels c.register_at-bound.result.number c.in_ok-labels.labels.last c.emit_entry.new.draft.labels c.in_ok-labels.labels.head rest
            c.register_at-bound.ensures (ap homes_of c.deref.ensures.value) (ap homes_of c.deref-2.ensures.value ∙ named) named (ap homes_of c.deref-3.ensures.value ∙ c.in_ok-emit_inside.ensures.homes ∙ named) c.in_ok-declare.ensures c.in_ok-labels.ensures.last c.in_ok-labels.ensures.emits.labels c.in_ok-labels.ensures.head);
      };
  head = c.in_ok-labels.ensures.head;
  layout = c.in_ok-emit_inside.ensures.layout;
  scope = c.in_ok-emit_inside.ensures.scope ∙ c.in_ok-declare.ensures;
  homes =
      let home = ap (λ (x : List ℕ). record { name = x; register = iteration; last_use = None }) c.text-name.ensures in
      c.in_ok-emit_inside.ensures.homes ∙ index_named c.args.site.now.homes.items c.push.new.self.items _ (for_loop_of c.args.for_loop.now) c.in_ok-push.ensures.items home;
  item = loop_items (scope_of c.args.site.now.scope) (scope_of c.declare.new.scope) (block_of c.args.for_loop.now.body.items) c.args.item.now c.emit_inside.new.item (ap (λ (s : Scope). s.index) c.in_ok-declare.ensures) c.in_ok-emit_inside.ensures.item;
}
