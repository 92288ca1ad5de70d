use Rattle.lane_arith.proofs.Chosen.{merge-width}
use Rattle.lane_arith.proofs.bank.merge_in.Goals as goal

pub merge_in_8-requires : goal.merge_in_8-requires
merge_in_8-requires c = record { right = c.requires.right; out = c.requires.out; ends = c.requires.ends }

pub returns-in-B : goal.returns-in-B
returns-in-B c = merge-width c.args.shape.vl c.args.pg.now.bits c.args.right c.args.out c.args.zs.now _ c.args.op c.args.shape.width _ c.in-B.is c.merge_in_8.ensures

pub merge_in_16-requires : goal.merge_in_16-requires
merge_in_16-requires c = record { right = c.requires.right; out = c.requires.out; ends = c.requires.ends }

pub returns-in-H : goal.returns-in-H
returns-in-H c = merge-width c.args.shape.vl c.args.pg.now.bits c.args.right c.args.out c.args.zs.now _ c.args.op c.args.shape.width _ c.in-H.is c.merge_in_16.ensures

pub merge_in_32-requires : goal.merge_in_32-requires
merge_in_32-requires c = record { right = c.requires.right; out = c.requires.out; ends = c.requires.ends }

pub returns-in-S : goal.returns-in-S
returns-in-S c = merge-width c.args.shape.vl c.args.pg.now.bits c.args.right c.args.out c.args.zs.now _ c.args.op c.args.shape.width _ c.in-S.is c.merge_in_32.ensures

pub merge_in_64-requires : goal.merge_in_64-requires
merge_in_64-requires c = record { right = c.requires.right; out = c.requires.out; ends = c.requires.ends }

pub returns-in-D : goal.returns-in-D
returns-in-D c = merge-width c.args.shape.vl c.args.pg.now.bits c.args.right c.args.out c.args.zs.now _ c.args.op c.args.shape.width _ c.in-D.is c.merge_in_64.ensures
