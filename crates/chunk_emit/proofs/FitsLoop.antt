-- The items of a checked kernel's loop fit the layout that the registers of its intervals give.
use Rattle.std.proofs.Common.{◌≡◌, ℕ, ◌+◌, ◌≤◌, true, List, [], ◌∷◌, ◌++◌, length, Option, Some, None, sym, ap, ◌∙◌, subst, append_assoc}
use Rattle.kernel_tree.specs.Plain.{PlainLoop, Program}
use Rattle.kernel_tree.specs.Items.{loop_index, loop_start}
use Rattle.kernel_tree.specs.Typing.{Scope, Local, local, insert_name, block_faults, block_types, for_loop_types, check_fault, in_loop, var_scope}
use Rattle.kernel_tree.proofs.Scopes.{var_visible, scope_index}
use Rattle.kernel_tree.proofs.Faultless.{body_faultless}
use Rattle.reg_assign.specs.Registers.{Assignment}
use Rattle.loop_form.specs.declared.loop_item.Operand.TheVariants.{LoopIndex}
use Rattle.loop_form.specs.Entries.{block_entries, for_loop_entries}
use Rattle.loop_form.specs.LoopItems.{bound, Item, outer_env, loop_env, block_items, loop_items, for_loop_items, loop_items_of}
use Rattle.loop_form.proofs.ItemTypes.{loop_types}
use Rattle.dependence.specs.Classes.{class_of}
use Rattle.dependence.specs.declared.reason.Class.TheVariants.{Vector}
use Rattle.chunk_emit.specs.Chunk.{Setting}
use Rattle.chunk_emit.specs.KernelLayout.{type_in, tests_in, layout_of_loop}
use Rattle.chunk_emit.specs.LoopFits.{FitsSetting, FitsSteps}
use Rattle.chunk_emit.proofs.FitsNumbers.{Ascends, loop_ascends, type_at_item, test_at_item, untested_after}
use Rattle.chunk_emit.proofs.FitsKnown.{Part, part_following, loop_known}
use Rattle.chunk_emit.proofs.FitsNames.{head_locals, head_env, head_names}
use Rattle.chunk_emit.proofs.FitsOperands.{AllTyped}
use Rattle.chunk_emit.proofs.FitsStatements.{block_steps}
use Rattle.kernel_tree.specs.declared.fault.Binding.TheVariants as binding

-- ---- the types of all items

typed_from : (k : Program) (p : ℕ) (xs items : List Item) → xs ++ items ≡ loop_items_of k → Ascends p (xs ++ items) → AllTyped k items
typed_from k p xs [] split h = tt
typed_from k p xs (it ∷ items) split h =
    let next = append_assoc xs (it ∷ []) items in (
      record {
        type = ap (λ all. type_in all it.item) (sym split) ∙ type_at_item p xs it items h;
        truth = ap (λ all. tests_in all it.item) (sym split) ∙ test_at_item p xs it items h;
        gap = λ r lt to. ap (λ all. tests_in all r) (sym split) ∙ untested_after p r xs it items h lt to;
      },
      typed_from k p (xs ++ it ∷ []) items (next ∙ split) (subst (Ascends p) (sym next) h),
    )

items_typed : (k : Program) (l : PlainLoop) → k.for_loop ≡ Some l → AllTyped k (loop_items k l)
items_typed k l for_loop = typed_from k (loop_start k + 1) [] (loop_items k l) (ap (for_loop_items k) (sym for_loop)) (loop_ascends k l)

-- ---- the scope of the loop

abbrev body_scope : Program → PlainLoop → Scope
body_scope k l = record { visible = head_locals k.params k.vars l.index; taken = insert_name (var_scope k).taken l.index; index = loop_index k; inside = true }

scope_is : (k : Program) (l : PlainLoop) → in_loop (var_scope k) l ≡ body_scope k l
scope_is k l =
    ap (λ (vs : List Local). record { visible = vs ++ local l.index binding.Index ∷ []; taken = insert_name (var_scope k).taken l.index; index = (var_scope k).index; inside = true }) (var_visible k)
    ∙ ap (λ (i : Option (List ℕ)). record { visible = head_locals k.params k.vars l.index; taken = insert_name (var_scope k).taken l.index; index = i; inside = true }) (scope_index k)

env_is : (k : Program) (l : PlainLoop) → loop_env (var_scope k) l.index ≡ head_env 0 k.params k.vars l.index
env_is k l = ap (λ vs. outer_env 0 vs ++ bound l.index LoopIndex ∷ []) (var_visible k)

body_known : (k : Program) (l : PlainLoop) → check_fault k ≡ None → k.for_loop ≡ Some l → class_of k ≡ Vector → Part k (block_entries k (loop_start k + 1) l.body) (block_types (in_loop (var_scope k) l) l.body)
body_known k l checked for_loop vector =
    let all : Part k (for_loop_entries k (loop_start k) k.for_loop) (for_loop_types (var_scope k) k.for_loop) = record { known = loop_known k checked vector; types = loop_types k } in
    part_following k _ _ None _ (subst (λ o. Part k (for_loop_entries k (loop_start k) o) (for_loop_types (var_scope k) o)) for_loop all)

-- ---- the loop

pub loop_steps : (k : Program) (l : PlainLoop) (zs ps : Assignment) (f : Setting) → check_fault k ≡ None → k.for_loop ≡ Some l → class_of k ≡ Vector → length k.params ≤ 8 → FitsSetting k f → FitsSteps (layout_of_loop k zs ps) f (loop_start k + 1) (loop_items k l)
loop_steps k l zs ps f checked for_loop vector few setting =
    let L = layout_of_loop k zs ps in
    let b = loop_start k + 1 in
    let S = body_scope k l in
    let env = head_env 0 k.params k.vars l.index in
    let none : block_faults S (loop_start k + 1) l.body ≡ [] = subst (λ s. block_faults s (loop_start k + 1) l.body ≡ []) (scope_is k l) (body_faultless k l checked for_loop) in
    let part : Part k (block_entries k b l.body) (block_types S l.body) = subst (λ s. Part k (block_entries k b l.body) (block_types s l.body)) (scope_is k l) (body_known k l checked for_loop vector) in
    let types : AllTyped k (block_items S None b env l.body []) = subst (λ e. AllTyped k (block_items S None b e l.body [])) (env_is k l) (subst (λ s. AllTyped k (block_items s None b (loop_env (var_scope k) l.index) l.body [])) (scope_is k l) (items_typed k l for_loop)) in
    let steps = block_steps k zs ps f setting few l.body (head_locals k.params k.vars l.index) (insert_name (var_scope k).taken l.index) true env None b (loop_start k + 1) [] (head_names k l b for_loop) none part types (λ r lo hi. tt) tt in
    subst (λ s. FitsSteps L f b (block_items s None b (loop_env (var_scope k) l.index) l.body [])) (sym (scope_is k l)) (subst (λ e. FitsSteps L f b (block_items S None b e l.body [])) (sym (env_is k l)) steps)
