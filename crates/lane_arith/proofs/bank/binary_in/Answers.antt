use Rattle.lane_arith.proofs.Chosen.{binary-width}
use Rattle.lane_arith.proofs.bank.binary_in.Goals as goal

pub binary_in_8-requires : goal.binary_in_8-requires
binary_in_8-requires c = record { left = c.requires.left; right = c.requires.right; out = c.requires.out; ends = c.requires.ends }

pub returns-in-B : goal.returns-in-B
returns-in-B c = binary-width c.args.shape.vl c.args.left c.args.right c.args.out c.args.zs.now _ c.args.op c.args.shape.width _ c.in-B.is c.binary_in_8.ensures

pub binary_in_16-requires : goal.binary_in_16-requires
binary_in_16-requires c = record { left = c.requires.left; right = c.requires.right; out = c.requires.out; ends = c.requires.ends }

pub returns-in-H : goal.returns-in-H
returns-in-H c = binary-width c.args.shape.vl c.args.left c.args.right c.args.out c.args.zs.now _ c.args.op c.args.shape.width _ c.in-H.is c.binary_in_16.ensures

pub binary_in_32-requires : goal.binary_in_32-requires
binary_in_32-requires c = record { left = c.requires.left; right = c.requires.right; out = c.requires.out; ends = c.requires.ends }

pub returns-in-S : goal.returns-in-S
returns-in-S c = binary-width c.args.shape.vl c.args.left c.args.right c.args.out c.args.zs.now _ c.args.op c.args.shape.width _ c.in-S.is c.binary_in_32.ensures

pub binary_in_64-requires : goal.binary_in_64-requires
binary_in_64-requires c = record { left = c.requires.left; right = c.requires.right; out = c.requires.out; ends = c.requires.ends }

pub returns-in-D : goal.returns-in-D
returns-in-D c = binary-width c.args.shape.vl c.args.left c.args.right c.args.out c.args.zs.now _ c.args.op c.args.shape.width _ c.in-D.is c.binary_in_64.ensures
