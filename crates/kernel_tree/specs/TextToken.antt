-- A token as plain data.
use Rattle.std.specs.Prelude.{ℕ, List}
use Rattle.kernel_tree.specs.declared.ops.Ty.{Ty}
use Rattle.kernel_tree.specs.declared.ops.CompareOp.{CompareOp}
use Rattle.kernel_tree.specs.declared.ops.UpdateOp.{UpdateOp}
use Rattle.kernel_tree.specs.declared.mark.Mark.{Mark}

pub data TextToken : Type 0 where
  -- a name, by its bytes
  IsName : List ℕ → TextToken
  IsNumber : ℕ → TextToken
  IsType : Ty → TextToken
  IsCompare : CompareOp → TextToken
  IsUpdate : UpdateOp → TextToken
  IsMark : Mark → TextToken
