use Rattle.std.proofs.Common.{◌≡◌, ℕ, List, Option, Some, true, sym, ap, ap₂, ◌∙◌}
use Rattle.std.specs.Prelude.{option_map}
use Rattle.std.proofs.lemmas.Result.{IfOk-from_err}
use Rattle.kernel_tree.specs.declared.ast.Loop.{Loop}
use Rattle.kernel_tree.specs.declared.ast.Stmt.{Stmt}
use Rattle.kernel_tree.specs.Plain.{block_of, for_loop_of}
use Rattle.kernel_tree.specs.Typing.{Scope, after_for_loop}
use Rattle.kernel_scope.specs.Scopes.{scope_of}
use Rattle.kernel_plan.specs.Trees.{Tasks}
use Rattle.kernel_plan.specs.Resolve.{resolved_block}
use Rattle.kernel_plan.specs.Plans.{LoopPlan, resolved_for_loop}
use Rattle.kernel_plan.proofs.kernels.resolve_loop.Goals as goal

same_loop : (n m i j : ℕ) (a b : Tasks) → n ≡ m → i ≡ j → a ≡ b → ◌≡◌ {A = Option LoopPlan} (Some (record { bound = n; index = i; body = a })) (Some (record { bound = m; index = j; body = b }))
same_loop n m i j a b e f g = ap₂ (λ (n i : ℕ). Some (record { bound = n; index = i; body = a })) e f ∙ ap (λ (a : Tasks). Some (record { bound = m; index = j; body = a })) g

pub returns-in_err-declare-in-Some : goal.returns-in_err-declare-in-Some
returns-in_err-declare-in-Some c =
    let failed = c.from_residual.ensures.0 in
    record { for_loop = IfOk-from_err _ _ failed; visible = IfOk-from_err _ _ failed; index = IfOk-from_err _ _ failed }

pub returns-in_err-body-in-Some : goal.returns-in_err-body-in-Some
returns-in_err-body-in-Some c =
    let failed = c.from_residual-in_err-body-in-Some.ensures.0 in
    record { for_loop = IfOk-from_err _ _ failed; visible = IfOk-from_err _ _ failed; index = IfOk-from_err _ _ failed }

pub returns-in-None : goal.returns-in-None
returns-in-None c =
    let s = scope_of c.args.scope.now in
    record {
      for_loop = ap (λ (o : Option Loop). resolved_for_loop s (option_map for_loop_of o)) (sym c.in-None.is);
      visible = ap (λ (o : Option Loop). (after_for_loop s (option_map for_loop_of o)).visible) (sym c.in-None.is);
      index = ap (λ (o : Option Loop). (after_for_loop s (option_map for_loop_of o)).index) (sym c.in-None.is);
    }

pub returns-in_ok-body-in-Some : goal.returns-in_ok-body-in-Some
returns-in_ok-body-in-Some c =
    let s = scope_of c.args.scope.now in
    let body = c.in_ok-body-in-Some.ensures in
    record {
      for_loop =
          same_loop _ _ _ _ _ _ c.slot-bound.ensures c.visible_count-index.ensures (body.steps ∙ ap₂ (λ (t : Scope) (b : List Stmt). resolved_block (record t { inside = true }) (block_of b)) c.in_ok-declare-in-Some.ensures c.deref.ensures.value)
          ∙ ap (λ (o : Option Loop). resolved_for_loop s (option_map for_loop_of o)) (sym c.in-Some.is);
      visible = ap (λ (t : Scope). t.visible) body.scope ∙ ap (λ (t : Scope). t.visible) c.in_ok-declare-in-Some.ensures ∙ ap (λ (o : Option Loop). (after_for_loop s (option_map for_loop_of o)).visible) (sym c.in-Some.is);
      index = ap (λ (t : Scope). t.index) body.scope ∙ ap (λ (t : Scope). t.index) c.in_ok-declare-in-Some.ensures ∙ ap (λ (o : Option Loop). (after_for_loop s (option_map for_loop_of o)).index) (sym c.in-Some.is);
    }
