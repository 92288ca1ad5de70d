-- The values from before a loop are of their types.
use Rattle.std.proofs.Common.{◌≡◌, ℕ, zero, suc, ◌<◌, ◌^◌, pos, List, [], ◌∷◌, ◌++◌, Some, sym, subst}
use Rattle.std.specs.Prelude.{drop, slice_get, slice_index}
use Rattle.guest_types.specs.Memory.{Memory}
use Rattle.kernel_tree.specs.declared.ops.Ty.{Ty}
use Rattle.kernel_tree.specs.declared.ops.Ty.TheVariants.{U64}
use Rattle.kernel_tree.specs.declared.ast.Shape.TheVariants as shape
use Rattle.kernel_tree.specs.Plain.{Parameter, Program}
use Rattle.kernel_meaning.specs.Eval.{Names}
use Rattle.kernel_meaning.specs.ScalarRun.{argument_names, argument, started}
use Rattle.kernel_meaning.proofs.Started.{started_names}
use Rattle.loop_form.specs.declared.loop_item.Operand.TheVariants.{LoopIndex}
use Rattle.vector_order.specs.Orders.{Lane}
use Rattle.vector_order.specs.Operands.{nth_value, operand_value}
use Rattle.lane_emit.specs.Right.{IsOf}
use Rattle.lane_emit.proofs.Ranges.{is_of, wrap-is_of}

pub loop_index_typed : (names : Names) (i : ℕ) (a : Lane) → i < 2 ^ 64 → IsOf U64 (operand_value names i a LoopIndex)
loop_index_typed names i a h = is_of U64 (pos i) h

-- a scalar parameter, whose argument was wrapped to its type
given_typed : (ps : List Parameter) (args : List ℕ) (more : Names) (p : ℕ) (x : List ℕ) (t : Ty) → slice_get ps p ≡ Some (record { name = x; shape = shape.Scalar t }) → IsOf t (nth_value (argument_names ps args ++ more) p)
given_typed [] args more p x t e = absurd cc
given_typed (q ∷ ps) args more zero x t e =
    let same : q ≡ record { name = x; shape = shape.Scalar t } = cc in
    subst (λ (r : Parameter). IsOf t (argument r.shape (slice_index args 0))) (sym same) (wrap-is_of t (pos (slice_index args 0)))
given_typed (q ∷ ps) args more (suc p) x t e = given_typed ps (drop 1 args) more p x t e

pub parameter_typed : (k : Program) (args : List ℕ) (m : Memory) (names : Names) (p : ℕ) (x : List ℕ) (t : Ty) → started k args m ≡ Some names → slice_get k.params p ≡ Some (record { name = x; shape = shape.Scalar t }) → IsOf t (nth_value names p)
parameter_typed k args m names p x t e is = let s = started_names k args m names e in subst (λ (ns : Names). IsOf t (nth_value ns p)) (sym s.1) (given_typed k.params args s.0 p x t is)
