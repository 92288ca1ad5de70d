use Rattle.guest_types.specs.declared.length.Width.TheVariants.{H}
use Rattle.lane_arith.proofs.Chosen.{merge-operation}
use Rattle.lane_arith.proofs.bank.merge_in_16.Goals as goal

pub each_merged-requires : goal.each_merged-requires
each_merged-requires c = record { right = c.requires.right; out = c.requires.out; ends = c.requires.ends }

pub returns-in-Add : goal.returns-in-Add
returns-in-Add c = merge-operation c.args.vl c.args.pg.now.bits c.args.right c.args.out c.args.zs.now _ H c.args.op _ c.in-Add.is c.each_merged.ensures

pub each_merged-requires-in-Sub : goal.each_merged-requires-in-Sub
each_merged-requires-in-Sub c = record { right = c.requires.right; out = c.requires.out; ends = c.requires.ends }

pub returns-in-Sub : goal.returns-in-Sub
returns-in-Sub c = merge-operation c.args.vl c.args.pg.now.bits c.args.right c.args.out c.args.zs.now _ H c.args.op _ c.in-Sub.is c.each_merged-in-Sub.ensures

pub each_merged-requires-in-Mul : goal.each_merged-requires-in-Mul
each_merged-requires-in-Mul c = record { right = c.requires.right; out = c.requires.out; ends = c.requires.ends }

pub returns-in-Mul : goal.returns-in-Mul
returns-in-Mul c = merge-operation c.args.vl c.args.pg.now.bits c.args.right c.args.out c.args.zs.now _ H c.args.op _ c.in-Mul.is c.each_merged-in-Mul.ensures

pub each_merged-requires-in-And : goal.each_merged-requires-in-And
each_merged-requires-in-And c = record { right = c.requires.right; out = c.requires.out; ends = c.requires.ends }

pub returns-in-And : goal.returns-in-And
returns-in-And c = merge-operation c.args.vl c.args.pg.now.bits c.args.right c.args.out c.args.zs.now _ H c.args.op _ c.in-And.is c.each_merged-in-And.ensures

pub each_merged-requires-in-Or : goal.each_merged-requires-in-Or
each_merged-requires-in-Or c = record { right = c.requires.right; out = c.requires.out; ends = c.requires.ends }

pub returns-in-Or : goal.returns-in-Or
returns-in-Or c = merge-operation c.args.vl c.args.pg.now.bits c.args.right c.args.out c.args.zs.now _ H c.args.op _ c.in-Or.is c.each_merged-in-Or.ensures

pub each_merged-requires-in-Xor : goal.each_merged-requires-in-Xor
each_merged-requires-in-Xor c = record { right = c.requires.right; out = c.requires.out; ends = c.requires.ends }

pub returns-in-Xor : goal.returns-in-Xor
returns-in-Xor c = merge-operation c.args.vl c.args.pg.now.bits c.args.right c.args.out c.args.zs.now _ H c.args.op _ c.in-Xor.is c.each_merged-in-Xor.ensures

pub each_merged-requires-in-Bic : goal.each_merged-requires-in-Bic
each_merged-requires-in-Bic c = record { right = c.requires.right; out = c.requires.out; ends = c.requires.ends }

pub returns-in-Bic : goal.returns-in-Bic
returns-in-Bic c = merge-operation c.args.vl c.args.pg.now.bits c.args.right c.args.out c.args.zs.now _ H c.args.op _ c.in-Bic.is c.each_merged-in-Bic.ensures

pub each_merged-requires-in-SMin : goal.each_merged-requires-in-SMin
each_merged-requires-in-SMin c = record { right = c.requires.right; out = c.requires.out; ends = c.requires.ends }

pub returns-in-SMin : goal.returns-in-SMin
returns-in-SMin c = merge-operation c.args.vl c.args.pg.now.bits c.args.right c.args.out c.args.zs.now _ H c.args.op _ c.in-SMin.is c.each_merged-in-SMin.ensures

pub each_merged-requires-in-SMax : goal.each_merged-requires-in-SMax
each_merged-requires-in-SMax c = record { right = c.requires.right; out = c.requires.out; ends = c.requires.ends }

pub returns-in-SMax : goal.returns-in-SMax
returns-in-SMax c = merge-operation c.args.vl c.args.pg.now.bits c.args.right c.args.out c.args.zs.now _ H c.args.op _ c.in-SMax.is c.each_merged-in-SMax.ensures

pub each_merged-requires-in-UMin : goal.each_merged-requires-in-UMin
each_merged-requires-in-UMin c = record { right = c.requires.right; out = c.requires.out; ends = c.requires.ends }

pub returns-in-UMin : goal.returns-in-UMin
returns-in-UMin c = merge-operation c.args.vl c.args.pg.now.bits c.args.right c.args.out c.args.zs.now _ H c.args.op _ c.in-UMin.is c.each_merged-in-UMin.ensures

pub each_merged-requires-in-UMax : goal.each_merged-requires-in-UMax
each_merged-requires-in-UMax c = record { right = c.requires.right; out = c.requires.out; ends = c.requires.ends }

pub returns-in-UMax : goal.returns-in-UMax
returns-in-UMax c = merge-operation c.args.vl c.args.pg.now.bits c.args.right c.args.out c.args.zs.now _ H c.args.op _ c.in-UMax.is c.each_merged-in-UMax.ensures
