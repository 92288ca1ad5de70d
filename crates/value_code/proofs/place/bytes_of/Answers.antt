use Rattle.std.proofs.Common.{refl}
use Rattle.kernel_tree.specs.declared.ops.Ty.TheVariants as ty
use Rattle.value_code.proofs.ByteCounts.{cast_fits, two_fits, four_fits, eight_fits, bytes_one, bytes_times}
use Rattle.value_code.proofs.place.bytes_of.Goals as goal

pub overflow_cast-result : goal.overflow_cast-result
overflow_cast-result c = cast_fits c.args.offset c.ranges.offset

pub overflow_cast-result-in-I16 : goal.overflow_cast-result-in-I16
overflow_cast-result-in-I16 c = cast_fits c.args.offset c.ranges.offset

pub overflow_cast-result-in-I32 : goal.overflow_cast-result-in-I32
overflow_cast-result-in-I32 c = cast_fits c.args.offset c.ranges.offset

pub overflow_cast-result-in-I64 : goal.overflow_cast-result-in-I64
overflow_cast-result-in-I64 c = cast_fits c.args.offset c.ranges.offset

pub overflow_mul-result : goal.overflow_mul-result
overflow_mul-result c = two_fits c.args.offset c.ranges.offset

pub overflow_mul-result-in-I32 : goal.overflow_mul-result-in-I32
overflow_mul-result-in-I32 c = four_fits c.args.offset c.ranges.offset

pub overflow_mul-result-in-I64 : goal.overflow_mul-result-in-I64
overflow_mul-result-in-I64 c = eight_fits c.args.offset c.ranges.offset

pub returns-in-I8 : goal.returns-in-I8
returns-in-I8 c = bytes_one c.args.offset c.ranges.offset c.args.ty ty.I8 ty.U8 c.in-I8.is refl refl

pub returns-in-I16 : goal.returns-in-I16
returns-in-I16 c = bytes_times c.args.offset c.ranges.offset c.args.ty ty.I16 ty.U16 c.in-I16.is 2 refl refl (two_fits c.args.offset c.ranges.offset)

pub returns-in-I32 : goal.returns-in-I32
returns-in-I32 c = bytes_times c.args.offset c.ranges.offset c.args.ty ty.I32 ty.U32 c.in-I32.is 4 refl refl (four_fits c.args.offset c.ranges.offset)

pub returns-in-I64 : goal.returns-in-I64
returns-in-I64 c = bytes_times c.args.offset c.ranges.offset c.args.ty ty.I64 ty.U64 c.in-I64.is 8 refl refl (eight_fits c.args.offset c.ranges.offset)
