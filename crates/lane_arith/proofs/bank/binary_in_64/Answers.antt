use Rattle.guest_types.specs.declared.length.Width.TheVariants.{D}
use Rattle.lane_arith.proofs.Chosen.{binary-operation}
use Rattle.lane_arith.proofs.bank.binary_in_64.Goals as goal

pub each_binary-requires : goal.each_binary-requires
each_binary-requires c = record { left = c.requires.left; right = c.requires.right; out = c.requires.out; ends = c.requires.ends }

pub returns-in-Add : goal.returns-in-Add
returns-in-Add c = binary-operation c.args.vl c.args.left c.args.right c.args.out c.args.zs.now _ D c.args.op _ c.in-Add.is c.each_binary.ensures

pub each_binary-requires-in-Sub : goal.each_binary-requires-in-Sub
each_binary-requires-in-Sub c = record { left = c.requires.left; right = c.requires.right; out = c.requires.out; ends = c.requires.ends }

pub returns-in-Sub : goal.returns-in-Sub
returns-in-Sub c = binary-operation c.args.vl c.args.left c.args.right c.args.out c.args.zs.now _ D c.args.op _ c.in-Sub.is c.each_binary-in-Sub.ensures

pub each_binary-requires-in-Mul : goal.each_binary-requires-in-Mul
each_binary-requires-in-Mul c = record { left = c.requires.left; right = c.requires.right; out = c.requires.out; ends = c.requires.ends }

pub returns-in-Mul : goal.returns-in-Mul
returns-in-Mul c = binary-operation c.args.vl c.args.left c.args.right c.args.out c.args.zs.now _ D c.args.op _ c.in-Mul.is c.each_binary-in-Mul.ensures

pub each_binary-requires-in-And : goal.each_binary-requires-in-And
each_binary-requires-in-And c = record { left = c.requires.left; right = c.requires.right; out = c.requires.out; ends = c.requires.ends }

pub returns-in-And : goal.returns-in-And
returns-in-And c = binary-operation c.args.vl c.args.left c.args.right c.args.out c.args.zs.now _ D c.args.op _ c.in-And.is c.each_binary-in-And.ensures

pub each_binary-requires-in-Or : goal.each_binary-requires-in-Or
each_binary-requires-in-Or c = record { left = c.requires.left; right = c.requires.right; out = c.requires.out; ends = c.requires.ends }

pub returns-in-Or : goal.returns-in-Or
returns-in-Or c = binary-operation c.args.vl c.args.left c.args.right c.args.out c.args.zs.now _ D c.args.op _ c.in-Or.is c.each_binary-in-Or.ensures

pub each_binary-requires-in-Xor : goal.each_binary-requires-in-Xor
each_binary-requires-in-Xor c = record { left = c.requires.left; right = c.requires.right; out = c.requires.out; ends = c.requires.ends }

pub returns-in-Xor : goal.returns-in-Xor
returns-in-Xor c = binary-operation c.args.vl c.args.left c.args.right c.args.out c.args.zs.now _ D c.args.op _ c.in-Xor.is c.each_binary-in-Xor.ensures

pub each_binary-requires-in-Bic : goal.each_binary-requires-in-Bic
each_binary-requires-in-Bic c = record { left = c.requires.left; right = c.requires.right; out = c.requires.out; ends = c.requires.ends }

pub returns-in-Bic : goal.returns-in-Bic
returns-in-Bic c = binary-operation c.args.vl c.args.left c.args.right c.args.out c.args.zs.now _ D c.args.op _ c.in-Bic.is c.each_binary-in-Bic.ensures

pub each_binary-requires-in-SMin : goal.each_binary-requires-in-SMin
each_binary-requires-in-SMin c = record { left = c.requires.left; right = c.requires.right; out = c.requires.out; ends = c.requires.ends }

pub returns-in-SMin : goal.returns-in-SMin
returns-in-SMin c = binary-operation c.args.vl c.args.left c.args.right c.args.out c.args.zs.now _ D c.args.op _ c.in-SMin.is c.each_binary-in-SMin.ensures

pub each_binary-requires-in-SMax : goal.each_binary-requires-in-SMax
each_binary-requires-in-SMax c = record { left = c.requires.left; right = c.requires.right; out = c.requires.out; ends = c.requires.ends }

pub returns-in-SMax : goal.returns-in-SMax
returns-in-SMax c = binary-operation c.args.vl c.args.left c.args.right c.args.out c.args.zs.now _ D c.args.op _ c.in-SMax.is c.each_binary-in-SMax.ensures

pub each_binary-requires-in-UMin : goal.each_binary-requires-in-UMin
each_binary-requires-in-UMin c = record { left = c.requires.left; right = c.requires.right; out = c.requires.out; ends = c.requires.ends }

pub returns-in-UMin : goal.returns-in-UMin
returns-in-UMin c = binary-operation c.args.vl c.args.left c.args.right c.args.out c.args.zs.now _ D c.args.op _ c.in-UMin.is c.each_binary-in-UMin.ensures

pub each_binary-requires-in-UMax : goal.each_binary-requires-in-UMax
each_binary-requires-in-UMax c = record { left = c.requires.left; right = c.requires.right; out = c.requires.out; ends = c.requires.ends }

pub returns-in-UMax : goal.returns-in-UMax
returns-in-UMax c = binary-operation c.args.vl c.args.left c.args.right c.args.out c.args.zs.now _ D c.args.op _ c.in-UMax.is c.each_binary-in-UMax.ensures
