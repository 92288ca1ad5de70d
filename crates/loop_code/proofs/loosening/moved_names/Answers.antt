use Rattle.std.proofs.Common.{ℕ, List, refl, ap, ◌∙◌}
use Rattle.kernel_tree.specs.declared.ast.Stmt.{Stmt}
use Rattle.kernel_tree.specs.Plain.{name_of, block_of}
use Rattle.kernel_scope.specs.Scopes.{scope_of, in_body}
use Rattle.scalar_words.specs.View.{looses_of}
use Rattle.scalar_words.specs.Layout.{Behind}
use Rattle.loop_code.specs.Loosening.{block_arrays}
use Rattle.guest_types.proofs.Errors.{on_error}
use Rattle.loop_code.proofs.LooseSteps.{pushed}
use Rattle.loop_code.proofs.loosening.moved_names.Goals as goal

pub returns-in_err-push : goal.returns-in_err-push
returns-in_err-push c =
    let failed = c.from_residual.ensures.0 in
    record { scope = on_error _ _ failed; loose = on_error _ _ failed }

pub returns-in_err-add_block : goal.returns-in_err-add_block
returns-in_err-add_block c =
    let failed = c.from_residual-in_err-add_block.ensures.0 in
    record { scope = on_error _ _ failed; loose = on_error _ _ failed }

pub returns : goal.returns
returns c = record {
  scope = refl;
  loose =
      c.in_ok-add_block.ensures
      ∙ ap (λ (b : List Stmt). block_arrays (in_body (scope_of c.args.scope.now)) (block_of b) (looses_of c.push.new.self.items)) c.deref.ensures.value
      ∙ ap (block_arrays (in_body (scope_of c.args.scope.now)) (block_of c.args.for_loop.now.body.items))
      (pushed c.args.loose.now.items c.push.new.self.items _ (record { name = name_of c.args.for_loop.now.index; form = Behind }) c.in_ok-push.ensures.items (ap (λ (x : List ℕ). record { name = x; form = Behind }) c.text-name.ensures));
}
