-- The general register that the A64 instructions of a form write, whichever of them it is.
use Rattle.std.proofs.Common.{◌≡◌, ℕ, List, Some, None, refl}
use Rattle.a64_code.specs.View.{add_sub_imm_name, add_sub_shifted_name, logical_name, move_wide_name, multiply_add_name, shift_variable_name, bitfield_name, select_name, branch_zero_name, exception_name}
use Rattle.a64_code.specs.declared.AddSubOp.{AddSubOp}
use Rattle.a64_code.specs.declared.AddSubOp.TheVariants as add_sub_ops
use Rattle.a64_code.specs.declared.LogicalOp.{LogicalOp}
use Rattle.a64_code.specs.declared.LogicalOp.TheVariants as logical_ops
use Rattle.a64_code.specs.declared.MoveWideOp.{MoveWideOp}
use Rattle.a64_code.specs.declared.MoveWideOp.TheVariants as move_wide_ops
use Rattle.a64_code.specs.declared.MultiplyOp.{MultiplyOp}
use Rattle.a64_code.specs.declared.MultiplyOp.TheVariants as multiply_ops
use Rattle.a64_code.specs.declared.ShiftVariableOp.{ShiftVariableOp}
use Rattle.a64_code.specs.declared.ShiftVariableOp.TheVariants as shift_variable_ops
use Rattle.a64_code.specs.declared.BitfieldOp.{BitfieldOp}
use Rattle.a64_code.specs.declared.BitfieldOp.TheVariants as bitfield_ops
use Rattle.a64_code.specs.declared.SelectOp.{SelectOp}
use Rattle.a64_code.specs.declared.SelectOp.TheVariants as select_ops
use Rattle.a64_code.specs.declared.CompareBranchOp.{CompareBranchOp}
use Rattle.a64_code.specs.declared.CompareBranchOp.TheVariants as compare_branch_ops
use Rattle.a64_code.specs.declared.ExceptionOp.{ExceptionOp}
use Rattle.a64_code.specs.declared.ExceptionOp.TheVariants as exception_ops
use Rattle.machine_model.specs.Effects.{arg}
use Rattle.machine_model.specs.Frames.{x_written}

pub scalar_add_sub_imm : (op : AddSubOp) (ns : List ℕ) → x_written (add_sub_imm_name op) ns ≡ Some (arg ns 0)
scalar_add_sub_imm add_sub_ops.Add ns = refl
scalar_add_sub_imm add_sub_ops.Sub ns = refl
scalar_add_sub_imm add_sub_ops.Subs ns = refl

pub scalar_add_sub_shifted : (op : AddSubOp) (ns : List ℕ) → x_written (add_sub_shifted_name op) ns ≡ Some (arg ns 0)
scalar_add_sub_shifted add_sub_ops.Add ns = refl
scalar_add_sub_shifted add_sub_ops.Sub ns = refl
scalar_add_sub_shifted add_sub_ops.Subs ns = refl

pub scalar_logical : (op : LogicalOp) (ns : List ℕ) → x_written (logical_name op) ns ≡ Some (arg ns 0)
scalar_logical logical_ops.And ns = refl
scalar_logical logical_ops.Orr ns = refl
scalar_logical logical_ops.Eor ns = refl
scalar_logical logical_ops.Orn ns = refl

pub scalar_move_wide : (op : MoveWideOp) (ns : List ℕ) → x_written (move_wide_name op) ns ≡ Some (arg ns 0)
scalar_move_wide move_wide_ops.Movz ns = refl
scalar_move_wide move_wide_ops.Movk ns = refl
scalar_move_wide move_wide_ops.Movn ns = refl

pub scalar_multiply_add : (op : MultiplyOp) (ns : List ℕ) → x_written (multiply_add_name op) ns ≡ Some (arg ns 0)
scalar_multiply_add multiply_ops.Madd ns = refl
scalar_multiply_add multiply_ops.Msub ns = refl

pub scalar_shift_variable : (op : ShiftVariableOp) (ns : List ℕ) → x_written (shift_variable_name op) ns ≡ Some (arg ns 0)
scalar_shift_variable shift_variable_ops.Lslv ns = refl
scalar_shift_variable shift_variable_ops.Lsrv ns = refl
scalar_shift_variable shift_variable_ops.Asrv ns = refl

pub scalar_bitfield : (op : BitfieldOp) (ns : List ℕ) → x_written (bitfield_name op) ns ≡ Some (arg ns 0)
scalar_bitfield bitfield_ops.Sbfm ns = refl
scalar_bitfield bitfield_ops.Ubfm ns = refl

pub scalar_select : (op : SelectOp) (ns : List ℕ) → x_written (select_name op) ns ≡ Some (arg ns 0)
scalar_select select_ops.Csel ns = refl
scalar_select select_ops.Csinc ns = refl

pub scalar_branch_zero : (op : CompareBranchOp) (ns : List ℕ) → x_written (branch_zero_name op) ns ≡ None
scalar_branch_zero compare_branch_ops.Cbz ns = refl
scalar_branch_zero compare_branch_ops.Cbnz ns = refl

pub scalar_exception : (op : ExceptionOp) (ns : List ℕ) → x_written (exception_name op) ns ≡ None
scalar_exception exception_ops.Svc ns = refl
scalar_exception exception_ops.Brk ns = refl

pub ruleset scalar_forms = (scalar_add_sub_imm, scalar_add_sub_shifted, scalar_logical, scalar_move_wide, scalar_multiply_add, scalar_shift_variable, scalar_bitfield, scalar_select, scalar_branch_zero, scalar_exception)
