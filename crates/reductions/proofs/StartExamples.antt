-- A worked kernel: the code before its loop.
use Rattle.std.proofs.Common.{◌≡◌, pos, negsuc, [], ◌∷◌, Some, None, refl}
use Rattle.kernel_tree.specs.Plain.{Literal, Variable, Element, Operation, Update, Done, Then, Program}
use Rattle.a64_code.specs.Table.{movz, movn}
use Rattle.sve_code.specs.Table.{ptrue, dup}
use Rattle.machine_model.specs.InstructionTable.{Vector}
use Rattle.reg_assign.specs.Registers.{Assignment, assignment}
use Rattle.label_fix.specs.DraftRun.{Put, ins}
use Rattle.loop_form.specs.Entries.{item_type}
use Rattle.loop_form.specs.Lanes.{widest}
use Rattle.loop_form.specs.Needs.{constants}
use Rattle.loop_form.proofs.Kernels.{a, b, f, i, n, s}
use Rattle.lane_emit.specs.Stretch.{word}
use Rattle.reductions.specs.EdgeCode.{start_code}
use Rattle.kernel_tree.specs.declared.ops.Ty.TheVariants as ty
use Rattle.kernel_tree.specs.declared.ops.BinaryOp.TheVariants as binary
use Rattle.kernel_tree.specs.declared.ops.UpdateOp.TheVariants as update
use Rattle.kernel_tree.specs.declared.ast.Shape.TheVariants as shape

-- kernel f(a: [i16], b: i16, n: u64) { var s: i16 = 0; for i in 0..n { s min= a[i] + (b & -2); } }
abbrev lowest : Program
lowest = record {
  name = f;
  params = record { name = a; shape = shape.Array ty.I16 } ∷ record { name = b; shape = shape.Scalar ty.I16 } ∷ record { name = n; shape = shape.Scalar ty.U64 } ∷ [];
  vars = record { name = s; type = ty.I16; init = (Literal (pos 0)) } ∷ [];
  for_loop = Some (record { index = i; bound = n; body = (Then (Update s update.Min (Operation binary.Add (Element a (Variable i)) (Operation binary.And (Variable b) (Literal (negsuc 1))))) Done) });
  answer = None;
}

-- the registers of b, the literal and s, and of three values of items
abbrev kept : Assignment
kept = assignment [] (4 ∷ 9 ∷ 2 ∷ 0 ∷ 1 ∷ 0 ∷ [])

-- ptrue p1.b; dup z4.h, w1; x26 = -2; dup z9.h, w26; x26 = 32767; dup z2.h, w26
lowest-starts : start_code lowest kept []
    ≡ Put (Vector (word ptrue (1 ∷ 0 ∷ []))) ∷ Put (Vector (word dup (4 ∷ 1 ∷ 1 ∷ [])))
    ∷ ins movn (26 ∷ 1 ∷ 0 ∷ []) ∷ Put (Vector (word dup (9 ∷ 26 ∷ 1 ∷ [])))
    ∷ ins movz (26 ∷ 32767 ∷ 0 ∷ []) ∷ Put (Vector (word dup (2 ∷ 26 ∷ 1 ∷ []))) ∷ []
unfolding item_type widest constants
lowest-starts = refl
