use Rattle.std.proofs.Common.{List, refl, ap, ◌∙◌, ◌+◌, ◌<◌, ◌^◌, sym, subst}
use Rattle.kernel_tree.specs.declared.ast.Stmt.{Stmt}
use Rattle.kernel_tree.specs.Plain.{block_of}
use Rattle.kernel_tree.specs.Typing.{Scope, after_block}
use Rattle.kernel_tree.specs.Kinds.{BlockKinds}
use Rattle.kernel_tree.specs.Items.{block_size}
use Rattle.kernel_scope.specs.Scopes.{scope_of, closed}
use Rattle.label_fix.specs.Emits.{Emits}
use Rattle.scalar_words.specs.View.{homes_of}
use Rattle.loop_code.specs.Statements.{block_homes, block_labels, block_code}
use Rattle.loop_code.specs.Loop.{inside_of}
use Rattle.loop_code.proofs.Emission.{homes_back, restored}
use Rattle.guest_types.proofs.Errors.{on_error}
use Rattle.scalar_emit.proofs.for_loop.emit_inside.Goals as goal

pub returns-in_err-emit_block : goal.returns-in_err-emit_block
returns-in_err-emit_block c =
    let failed = c.from_residual.ensures.0 in
    record { layout = on_error _ _ failed; scope = on_error _ _ failed; homes = on_error _ _ failed; item = on_error _ _ failed; emits = on_error _ _ failed }

pub emit_block-requires : goal.emit_block-requires
emit_block-requires c = record {
  exit = c.requires.last;
  kinds = subst (λ (b : List Stmt). BlockKinds (block_of b)) (sym c.deref.ensures.value) c.requires.kinds;
  fits = subst (λ (b : List Stmt). c.args.item.now + block_size (scope_of c.args.site.now.scope).index (block_of b) < 2 ^ 32) (sym c.deref.ensures.value) c.requires.fits;
}

pub returns : goal.returns
returns c = record {
  layout = c.in_ok-emit_block.ensures.layout;
  scope =
      let s = scope_of c.args.site.now.scope in
      let n = c.visible_count-visible.result in
      let m = c.declared_count-taken.result in
      ap (λ (t : Scope). record t { inside = s.inside }) (c.close.ensures ∙ ap (closed n m) (c.in_ok-emit_block.ensures.scope ∙ ap (λ (b : List Stmt). after_block (inside_of s) (block_of b)) c.deref.ensures.value))
      ∙ restored s (inside_of s) n m (block_of c.args.for_loop.now.body.items) refl refl refl c.visible_count-visible.ensures c.declared_count-taken.ensures;
  homes =
      ap homes_of c.truncate.ensures.items
      ∙ homes_back c.args.site.now.layout c.args.site.now.homes.items c.emit_block.new.site.homes.items (inside_of (scope_of c.args.site.now.scope)) c.len-known.result c.args.item.now (block_of c.args.for_loop.now.body.items) (c.len-known.ensures ∙ c.args.site.now.homes.ok.0) (c.in_ok-emit_block.ensures.homes ∙ ap (λ (b : List Stmt). block_homes c.args.site.now.layout (homes_of c.args.site.now.homes.items) (inside_of (scope_of c.args.site.now.scope)) c.args.item.now (block_of b)) c.deref.ensures.value);
  item = c.in_ok-emit_block.ensures.item ∙ ap (λ (b : List Stmt). c.args.item.now + block_size (scope_of c.args.site.now.scope).index (block_of b)) c.deref.ensures.value;
  emits =
      let s = scope_of c.args.site.now.scope in
      let n = c.args.draft.now.labels in
      subst (λ (b : List Stmt). Emits c.args.draft.now c.emit_block.new.draft (n + block_labels s.index (block_of b)) (block_code c.args.site.now.layout (homes_of c.args.site.now.homes.items) (inside_of s) c.args.last c.args.item.now n (block_of b))) c.deref.ensures.value c.in_ok-emit_block.ensures.emits;
}
