-- The layout of a worked kernel's loop: where its values are kept, and until when.
use Rattle.std.proofs.Common.{◌≡◌, ℕ, pos, true, false, [], ◌∷◌, map, Some, None, refl}
use Rattle.kernel_tree.specs.Plain.{Literal, Variable, Element, Operation, Comparison, Update, Choose, Done, Then, Nothing, Program}
use Rattle.reg_assign.specs.declared.interval.Interval.{Interval}
use Rattle.reg_assign.specs.declared.interval.RegClass.TheVariants.{Z, P}
use Rattle.reg_assign.specs.Registers.{Assignment, assignment}
use Rattle.loop_form.specs.Entries.{item_type}
use Rattle.loop_form.specs.Listing.{last_use_from}
use Rattle.loop_form.specs.Needs.{constants, intervals}
use Rattle.loop_form.specs.declared.loop_item.Operand.TheVariants.{Constant, Outer, LoopIndex, Made}
use Rattle.loop_form.proofs.Kernels.{a, f, i, m, n, s}
use Rattle.chunk_emit.specs.Registers.{Layout}
use Rattle.chunk_emit.specs.KernelLayout.{layout_of_loop}
use Rattle.kernel_tree.specs.declared.ops.Ty.TheVariants as ty
use Rattle.kernel_tree.specs.declared.ops.BinaryOp.TheVariants as binary
use Rattle.kernel_tree.specs.declared.ops.CompareOp.TheVariants as compare
use Rattle.kernel_tree.specs.declared.ops.UpdateOp.TheVariants as update
use Rattle.kernel_tree.specs.declared.ast.Shape.TheVariants as shape

-- kernel f(a: [u8], m: u8, n: u64) { var s: u8 = 0; for i in 0..n { if a[i] > m { s ^= a[i] & 7; } } }
abbrev masked : Program
masked = record {
  name = f;
  params = record { name = a; shape = shape.Array ty.U8 } ∷ record { name = m; shape = shape.Scalar ty.U8 } ∷ record { name = n; shape = shape.Scalar ty.U64 } ∷ [];
  vars = record { name = s; type = ty.U8; init = (Literal (pos 0)) } ∷ [];
  for_loop = Some (record { index = i; bound = n; body = (Then (Choose (Comparison compare.Gt (Element a (Variable i)) (Variable m)) (Then (Update s update.Xor (Operation binary.And (Element a (Variable i)) (Literal (pos 7)))) Done) Nothing) Done) });
  answer = None;
}

abbrev span : ℕ → ℕ → Interval
span from last_use = record { from = from; last_use = last_use }

abbrev kept : Assignment
kept = assignment (span 0 15 ∷ span 0 15 ∷ span 0 15 ∷ span 6 8 ∷ span 10 12 ∷ span 12 13 ∷ []) (0 ∷ 1 ∷ 2 ∷ 3 ∷ 4 ∷ 3 ∷ [])

abbrev conditions : Assignment
conditions = assignment (span 8 14 ∷ []) (5 ∷ [])

kept-intervals : intervals masked Z ≡ kept.intervals
unfolding item_type last_use_from constants
kept-intervals = refl

condition-intervals : intervals masked P ≡ conditions.intervals
unfolding item_type last_use_from constants
condition-intervals = refl

abbrev layout : Layout
layout = layout_of_loop masked kept conditions

-- m, 7, and the accumulator throughout
throughout-registers : map layout.registers.source (Outer 1 ∷ Constant (Some ty.U8) (pos 7) ∷ Made 6 ∷ Made 10 ∷ Made 12 ∷ []) ≡ 0 ∷ 1 ∷ 3 ∷ 4 ∷ 3 ∷ []
unfolding item_type last_use_from constants
throughout-registers = refl

sum-register : layout.sum s ≡ 2
unfolding item_type last_use_from constants
sum-register = refl

condition-register : layout.registers.p 8 ≡ 7
unfolding item_type last_use_from constants
condition-register = refl

-- a, m and n, a literal of another type, and the loop variable
throughout-values : map layout.held (Outer 0 ∷ Outer 1 ∷ Outer 2 ∷ Outer 3 ∷ Constant (Some ty.I8) (pos 7) ∷ Constant (Some ty.U8) (pos 7) ∷ LoopIndex ∷ []) ≡ false ∷ true ∷ false ∷ false ∷ false ∷ true ∷ false ∷ []
unfolding item_type last_use_from constants
throughout-values = refl

updated-names : map layout.updated (s ∷ m ∷ []) ≡ true ∷ false ∷ []
unfolding item_type last_use_from constants
updated-names = refl

updated-by : layout.update s ≡ update.Xor
unfolding item_type
updated-by = refl

value-uses : map layout.z_last_use (0 ∷ 3 ∷ 5 ∷ 6 ∷ 7 ∷ 8 ∷ 9 ∷ 10 ∷ 11 ∷ 12 ∷ 13 ∷ 14 ∷ 15 ∷ []) ≡ 0 ∷ 0 ∷ 0 ∷ 8 ∷ 0 ∷ 0 ∷ 0 ∷ 12 ∷ 0 ∷ 13 ∷ 0 ∷ 0 ∷ 0 ∷ []
unfolding item_type last_use_from
value-uses = refl

condition-uses : map layout.p_last_use (0 ∷ 3 ∷ 6 ∷ 8 ∷ 9 ∷ 15 ∷ []) ≡ 0 ∷ 0 ∷ 0 ∷ 14 ∷ 0 ∷ 0 ∷ []
unfolding item_type last_use_from
condition-uses = refl

types : map layout.type (Outer 1 ∷ Outer 2 ∷ LoopIndex ∷ Made 6 ∷ Made 12 ∷ []) ≡ ty.U8 ∷ ty.U64 ∷ ty.U64 ∷ ty.U8 ∷ ty.U8 ∷ []
types = refl
