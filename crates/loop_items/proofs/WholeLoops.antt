-- The items of a kernel's loop, from those of its body.
use Rattle.std.proofs.Common.{◌≡◌, ℕ, ◌+◌, ◌≤◌, List, [], ◌++◌, ◌∙◌, length, Option, Some, None, sym, ap, ap₂, subst, arith, append-nil}
use Rattle.std.specs.Prelude.{option_map, vec_len}
use Rattle.std.proofs.lemmas.List.{length-map}
use Rattle.kernel_tree.specs.declared.ast.Kernel.{Kernel}
use Rattle.kernel_tree.specs.declared.ast.Loop.{Loop}
use Rattle.kernel_tree.specs.declared.ast.Stmt.{Stmt}
use Rattle.kernel_tree.specs.declared.ast.Var.{Var}
use Rattle.kernel_tree.specs.declared.checked.Checked.{Checked}
use Rattle.kernel_tree.specs.Checked.{kernel_of}
use Rattle.kernel_tree.specs.Plain.{PlainLoop, Program, name_of, parameter_of, parameters_of, accumulators_of, block_of, for_loop_of}
use Rattle.kernel_tree.specs.Items.{index_of, loop_index, vars_size, block_size, for_loop_size, loop_start, size_of}
use Rattle.kernel_tree.specs.Typing.{Scope, in_loop, var_scope}
use Rattle.loop_form.specs.declared.visible.Visible.{Visible}
use Rattle.loop_form.specs.LoopItems.{Bound, Item, loop_env, block_items, for_loop_items, loop_items_of}
use Rattle.loop_form.specs.LoopView.{env_of, scope_of, IsLoopHead}
use Rattle.loop_form.specs.Near.{NearBlock, NearForLoop}
use Rattle.loop_form.specs.View.{program}

module _ (c : Checked) (tree : Kernel) (is : tree ≡ kernel_of c) where
  pub vars_listed : (vs : List Var) → vs ≡ tree.vars.items → accumulators_of vs ≡ (program c).vars
  unfolding program
  vars_listed vs e = ap accumulators_of e ∙ ap (λ (t : Kernel). accumulators_of t.vars.items) is

  pub params_counted : (n : ℕ) → n ≡ vec_len tree.params → n ≡ length (program c).params
  unfolding program
  params_counted n e = e ∙ tree.params.ok.0 ∙ sym (length-map tree.params.items parameter_of) ∙ ap (λ (t : Kernel). length (parameters_of t.params.items)) is

  pub started : (n v : ℕ) (vs : List Var) → n ≡ vec_len tree.params → v ≡ vars_size (loop_index (program c)) (accumulators_of vs) → vs ≡ tree.vars.items → n + v ≡ loop_start (program c)
  started n v vs p q e = ap₂ (λ (m w : ℕ). m + w) (params_counted n p) (q ∙ ap (vars_size (loop_index (program c))) (vars_listed vs e))

  module _ (f : Loop) (at : tree.body ≡ Some f) where
    pub loop_is_program_loop : (program c).for_loop ≡ Some (for_loop_of f)
    unfolding program
    loop_is_program_loop = sym (ap (λ (t : Kernel). option_map for_loop_of t.body) is) ∙ ap (option_map for_loop_of) at

    pub body_fits : (start : ℕ) (b : List Stmt) → start ≡ loop_start (program c) → b ≡ f.body.items → size_of (program c) ≤ 1000 → start + 1 + block_size (loop_index (program c)) (block_of b) ≤ 1000
    body_fits start b s e few =
        let size : for_loop_size (program c).for_loop ≡ 1 + block_size (Some (name_of f.index)) (block_of f.body.items) = ap for_loop_size loop_is_program_loop in
        let index : loop_index (program c) ≡ Some (name_of f.index) = ap (option_map index_of) loop_is_program_loop in
        let block : block_size (loop_index (program c)) (block_of b) ≡ block_size (Some (name_of f.index)) (block_of f.body.items) = ap₂ (λ (i : Option (List ℕ)) (x : List Stmt). block_size i (block_of x)) index e in
        omega (arith, s, few, size, block)

    pub body_near : (b : List Stmt) → b ≡ f.body.items → NearForLoop (loop_index (program c)) (program c).for_loop → NearBlock (loop_index (program c)) (block_of b)
    body_near b e near = subst (λ (x : List Stmt). NearBlock (loop_index (program c)) (block_of x)) (sym e) (subst (NearForLoop (loop_index (program c))) loop_is_program_loop near)

  pub no_loop_of_no_body : tree.body ≡ None → (program c).for_loop ≡ None
  unfolding program
  no_loop_of_no_body at = sym (ap (λ (t : Kernel). option_map for_loop_of t.body) is) ∙ ap (option_map for_loop_of) at

module _ (k : Program) (old new : List Item) (none : old ≡ []) where
  pub loop_listed : (l : PlainLoop) (names : List Visible) (start : ℕ) → k.for_loop ≡ Some l → IsLoopHead k l names → start ≡ loop_start k
      → ((taken : List (List ℕ)) (rest : List Item) → new ++ rest ≡ old ++ block_items (scope_of (loop_index k) names taken) None (start + 1) (env_of names) l.body rest)
      → new ≡ loop_items_of k
  loop_listed l names start is head s p =
      sym (append-nil new) ∙ p (in_loop (var_scope k) l).taken []
      ∙ ap (λ (x : List Item). x ++ block_items (scope_of (loop_index k) names (in_loop (var_scope k) l).taken) None (start + 1) (env_of names) l.body []) none
      ∙ ap₂ (λ (S : Scope) (env : List Bound). block_items S None (start + 1) env l.body []) (sym head.0) (sym head.1)
      ∙ ap (λ (n : ℕ). block_items (in_loop (var_scope k) l) None (n + 1) (loop_env (var_scope k) l.index) l.body []) s
      ∙ sym (ap (for_loop_items k) is)

  pub nothing_listed : k.for_loop ≡ None → new ≡ old → new ≡ loop_items_of k
  nothing_listed is e = e ∙ none ∙ sym (ap (for_loop_items k) is)
