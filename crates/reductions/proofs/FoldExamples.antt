-- A worked kernel: the code after its loop.
use Rattle.std.proofs.Common.{◌≡◌, pos, [], ◌∷◌, Some, None, refl}
use Rattle.kernel_tree.specs.Plain.{Literal, Variable, Element, Update, Done, Then, Program}
use Rattle.a64_code.specs.Table.{umov, add, subs, csel, sbfm, ubfm}
use Rattle.sve_code.specs.Table.{sminv, uaddv}
use Rattle.machine_model.specs.InstructionTable.{Vector}
use Rattle.reg_assign.specs.Registers.{Assignment, assignment}
use Rattle.label_fix.specs.DraftRun.{Put, ins}
use Rattle.loop_form.specs.Entries.{item_type}
use Rattle.loop_form.specs.Lanes.{widest}
use Rattle.loop_form.specs.Needs.{constants}
use Rattle.loop_form.proofs.Kernels.{a, b, f, i, n, s, t}
use Rattle.scalar_words.specs.KernelRegisters.{register_in}
use Rattle.lane_emit.specs.Stretch.{word}
use Rattle.reductions.specs.EdgeCode.{fold_code}
use Rattle.kernel_tree.specs.declared.ops.Ty.TheVariants as ty
use Rattle.kernel_tree.specs.declared.ops.UpdateOp.TheVariants as update
use Rattle.kernel_tree.specs.declared.ast.Shape.TheVariants as shape

-- kernel f(a: [i16], b: [u32], n: u64) { var s: i16 = 0; var t: u32 = 0; for i in 0..n { s min= a[i]; t += b[i]; } }
abbrev two_sums : Program
two_sums = record {
  name = f;
  params = record { name = a; shape = shape.Array ty.I16 } ∷ record { name = b; shape = shape.Array ty.U32 } ∷ record { name = n; shape = shape.Scalar ty.U64 } ∷ [];
  vars = record { name = s; type = ty.I16; init = (Literal (pos 0)) } ∷ record { name = t; type = ty.U32; init = (Literal (pos 0)) } ∷ [];
  for_loop = Some (record { index = i; bound = n; body = (Then (Update s update.Min (Element a (Variable i))) (Then (Update t update.Add (Element b (Variable i))) Done)) });
  answer = None;
}

-- the vector registers of s and t, and of two values of items
abbrev kept : Assignment
kept = assignment [] (3 ∷ 5 ∷ 0 ∷ 0 ∷ [])

-- X10 and X19
abbrev general : Assignment
general = assignment [] (0 ∷ 8 ∷ [])

-- sminv s31, p1, z3.s; umov x27, v31.d[0]; sxth x27, w27; cmp x10, x27; csel x10, x27, x10, gt;
-- uaddv d31, p1, z5.s; umov x27, v31.d[0]; ubfx x27, x27, #0, #32; add x19, x19, x27; ubfx x19, x19, #0, #32
two_sums-fold : fold_code (register_in general) two_sums kept []
    ≡ Put (Vector (word sminv (31 ∷ 3 ∷ 1 ∷ 2 ∷ []))) ∷ ins umov (27 ∷ 31 ∷ []) ∷ ins sbfm (27 ∷ 27 ∷ 15 ∷ 0 ∷ []) ∷ ins subs (31 ∷ 10 ∷ 0 ∷ 27 ∷ 0 ∷ []) ∷ ins csel (10 ∷ 27 ∷ 12 ∷ 10 ∷ [])
    ∷ Put (Vector (word uaddv (31 ∷ 5 ∷ 1 ∷ 2 ∷ []))) ∷ ins umov (27 ∷ 31 ∷ []) ∷ ins ubfm (27 ∷ 27 ∷ 31 ∷ 0 ∷ []) ∷ ins add (19 ∷ 19 ∷ 0 ∷ 27 ∷ 0 ∷ []) ∷ ins ubfm (19 ∷ 19 ∷ 31 ∷ 0 ∷ []) ∷ []
unfolding item_type widest constants
two_sums-fold = refl
