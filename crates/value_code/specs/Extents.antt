-- How much of a value is asked for. A place asks for the low bits of a value or for the value itself; what is computed for it
-- agrees with the value in these, and is not extended where the bits above do not matter.
use Rattle.std.specs.Prelude.{Bool, true, false, Option, Some, None, nat_le}
use Rattle.kernel_tree.specs.declared.ops.Ty.{Ty}
use Rattle.kernel_tree.specs.declared.ops.UnaryOp.{UnaryOp}
use Rattle.kernel_tree.specs.declared.ops.BinaryOp.{BinaryOp}
use Rattle.kernel_tree.specs.Wrap.{bits_of}
use Rattle.kernel_meaning.specs.TypeValues.{fits, binary_leaves}
use Rattle.value_code.specs.declared.extent.Extent.{Extent}
pub use Rattle.value_code.specs.declared.extent.Extent.TheVariants.{Low8, Low16, Low32, Whole}
use Rattle.scalar_words.specs.Operands.{binary_joins}
use Rattle.kernel_tree.specs.declared.ops.Ty.TheVariants as ty
use Rattle.kernel_tree.specs.declared.ops.UnaryOp.TheVariants as unary

-- the low bits that tell a value of a type
abbrev pub extent_of : Ty → Extent
extent_of ty.I8 = Low8
extent_of ty.U8 = Low8
extent_of ty.I16 = Low16
extent_of ty.U16 = Low16
extent_of ty.I32 = Low32
extent_of ty.U32 = Low32
extent_of ty.I64 = Whole
extent_of ty.U64 = Whole

abbrev pub extent_at : Option Ty → Extent
extent_at None = Whole
extent_at (Some t) = extent_of t

-- low bits, and none above the type: a result need not be extended
abbrev pub within_type : Extent → Ty → Bool
within_type Low8 t = true
within_type Low16 t = nat_le 16 (bits_of t)
within_type Low32 t = nat_le 32 (bits_of t)
within_type Whole t = false

abbrev pub within : Extent → Option Ty → Bool
within w None = false
within w (Some t) = within_type w t

abbrev pub unary_joins : UnaryOp → Bool
unary_joins unary.Neg = true
unary_joins unary.Flip = true
unary_joins unary.Abs = false

-- what an operator asks of its operands: by whether no more low bits are asked for than its type has, whether it joins them,
-- and whether its result may have to be extended
abbrev pub operand_extent : (low joins leaves : Bool) → Extent → Option Ty → Extent
operand_extent true true leaves w want = w
operand_extent true false leaves w want = Whole
operand_extent false true true w want = extent_at want
operand_extent false true false w want = Whole
operand_extent false false leaves w want = Whole

abbrev pub asked_extent : (joins leaves : Bool) → Extent → Option Ty → Extent
asked_extent joins leaves w want = operand_extent (within w want) joins leaves w want

-- the same of an operator of whose operands nothing is known but their type
abbrev pub binary_extent : BinaryOp → Extent → Option Ty → Extent
binary_extent op w want = asked_extent (binary_joins op) (binary_leaves op) w want

-- a cast: no more is asked of it than its type has, or its type has each value of the operand's
abbrev pub fits_at : Option Ty → Ty → Bool
fits_at None t = false
fits_at (Some s) t = fits s t

abbrev pub cast_extent : (low fit : Bool) → Extent → Ty → Extent
cast_extent true fit w t = w
cast_extent false true w t = Whole
cast_extent false false w t = extent_of t

abbrev pub converted_extent : Extent → Option Ty → Ty → Extent
converted_extent w from t = cast_extent (within_type w t) (fits_at from t) w t

-- whether a result is extended: where its operator may leave the extended form, and more is asked for than it joins
abbrev pub settles : (low joins leaves : Bool) → Bool
settles true true leaves = false
settles true false leaves = leaves
settles false joins leaves = leaves
