use Rattle.lane_arith.proofs.Chosen.{merge_one-width}
use Rattle.std.proofs.Common.{◌<◌, subst}
use Rattle.guest_types.specs.Length.{width_bits}
use Rattle.guest_types.specs.Lanes.{source_bits}
use Rattle.lane_arith.proofs.bank.merge_one_in.Goals as goal

pub merge_one_in_8-requires : goal.merge_one_in_8-requires
merge_one_in_8-requires c = record { narrower = subst (λ w. source_bits c.args.op < width_bits w) c.in-B.is c.requires.narrower; z = c.requires.z; out = c.requires.out; ends = c.requires.ends }

pub returns-in-B : goal.returns-in-B
returns-in-B c = merge_one-width c.args.shape.vl c.args.pg.now.bits c.args.z c.args.out c.args.zs.now _ c.args.op c.args.shape.width _ c.in-B.is c.merge_one_in_8.ensures

pub merge_one_in_16-requires : goal.merge_one_in_16-requires
merge_one_in_16-requires c = record { narrower = subst (λ w. source_bits c.args.op < width_bits w) c.in-H.is c.requires.narrower; z = c.requires.z; out = c.requires.out; ends = c.requires.ends }

pub returns-in-H : goal.returns-in-H
returns-in-H c = merge_one-width c.args.shape.vl c.args.pg.now.bits c.args.z c.args.out c.args.zs.now _ c.args.op c.args.shape.width _ c.in-H.is c.merge_one_in_16.ensures

pub merge_one_in_32-requires : goal.merge_one_in_32-requires
merge_one_in_32-requires c = record { narrower = subst (λ w. source_bits c.args.op < width_bits w) c.in-S.is c.requires.narrower; z = c.requires.z; out = c.requires.out; ends = c.requires.ends }

pub returns-in-S : goal.returns-in-S
returns-in-S c = merge_one-width c.args.shape.vl c.args.pg.now.bits c.args.z c.args.out c.args.zs.now _ c.args.op c.args.shape.width _ c.in-S.is c.merge_one_in_32.ensures

pub merge_one_in_64-requires : goal.merge_one_in_64-requires
merge_one_in_64-requires c = record { narrower = subst (λ w. source_bits c.args.op < width_bits w) c.in-D.is c.requires.narrower; z = c.requires.z; out = c.requires.out; ends = c.requires.ends }

pub returns-in-D : goal.returns-in-D
returns-in-D c = merge_one-width c.args.shape.vl c.args.pg.now.bits c.args.z c.args.out c.args.zs.now _ c.args.op c.args.shape.width _ c.in-D.is c.merge_one_in_64.ensures
