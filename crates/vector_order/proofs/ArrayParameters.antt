-- The names from before a loop are those that are visible there, with the values of the arguments.
use Rattle.std.proofs.Common.{◌≡◌, ℕ, zero, suc, Bool, true, false, cond, List, [], ◌∷◌, ◌++◌, Some, None, refl, ap, ◌∙◌}
use Rattle.std.specs.Prelude.{pos, bytes_eq, drop}
use Rattle.kernel_tree.specs.declared.ops.Ty.{Ty}
use Rattle.kernel_tree.specs.Plain.{Parameter, PlainLoop, Program}
use Rattle.kernel_tree.specs.Typing.{Local, var_scope, check_fault}
use Rattle.guest_types.specs.Memory.{Memory}
use Rattle.kernel_meaning.specs.Eval.{Names}
use Rattle.kernel_meaning.specs.ScalarRun.{argument_names, started}
use Rattle.loop_form.specs.Streams.{type_of_place}
use Rattle.loop_form.specs.declared.loop_item.Operand.TheVariants as operands
use Rattle.vector_order.specs.Operands.{nth_value}
use Rattle.vector_order.specs.Apart.{base_of}
use Rattle.kernel_tree.proofs.Names.{bytes_eq-refl, NoName, index_alone}
use Rattle.kernel_meaning.proofs.Started.{started_names}
use Rattle.loop_form.specs.LoopItems.{bound, operand_at, outer_env, loop_env}
use Rattle.loop_form.specs.declared.loop_item.Operand.TheVariants.{Constant, Outer}

-- ---- the names from before the loop

nth_front : (ps : List Parameter) (args : List ℕ) (more : Names) (p : ℕ) (t : Ty) → type_of_place ps p ≡ Some t → nth_value (argument_names ps args ++ more) p ≡ nth_value (argument_names ps args) p
nth_front [] args more p t e = absurd cc
nth_front (q ∷ ps) args more zero t e = refl
nth_front (q ∷ ps) args more (suc p) t e = nth_front ps (drop 1 args) more p t e

pub started_bases : (k : Program) (args : List ℕ) (m : Memory) (names : Names) → started k args m ≡ Some names → (p : ℕ) (t : Ty) → type_of_place k.params p ≡ Some t → nth_value names p ≡ base_of k args p
started_bases k args m names e p t h = let r = started_names k args m names e in ap (λ ns. nth_value ns p) r.1 ∙ nth_front k.params args r.0 p t h

-- ---- the loop variable's name is that of nothing else

index_as_loop_index : (vs : List Local) (x : List ℕ) (n : ℕ) → NoName x vs → operand_at (outer_env n vs ++ bound x operands.LoopIndex ∷ []) x ≡ operands.LoopIndex
index_as_loop_index [] x n h = by_test (bytes_eq x x) (bytes_eq-refl x)
  where
    by_test : (b : Bool) → b ≡ true → cond b operands.LoopIndex (Constant None (pos 0)) ≡ operands.LoopIndex
    by_test true e = refl
    by_test false e = absurd cc
index_as_loop_index (v ∷ vs) x n h = by_test (bytes_eq v.name x) h.0 (index_as_loop_index vs x (suc n) h.1)
  where
    by_test : (b : Bool) → b ≡ false → operand_at (outer_env (suc n) vs ++ bound x operands.LoopIndex ∷ []) x ≡ operands.LoopIndex → cond b (Outer n) (operand_at (outer_env (suc n) vs ++ bound x operands.LoopIndex ∷ []) x) ≡ operands.LoopIndex
    by_test true e h = absurd cc
    by_test false e h = h

-- in the body of a loop its variable is found as the number of the iteration
pub index_is_loop_index : (k : Program) (l : PlainLoop) → check_fault k ≡ None → k.for_loop ≡ Some l → operand_at (loop_env (var_scope k) l.index) l.index ≡ operands.LoopIndex
index_is_loop_index k l e loop = index_as_loop_index (var_scope k).visible l.index 0 (index_alone k l e loop).visible
