use Rattle.guest_types.specs.declared.length.Width.TheVariants.{H}
use Rattle.lane_arith.proofs.Chosen.{merge_one-operation}
use Rattle.std.proofs.Common.{◌<◌, subst}
use Rattle.guest_types.specs.Length.{width_bits}
use Rattle.guest_types.specs.Lanes.{source_bits}
use Rattle.lane_arith.proofs.bank.merge_one_in_16.Goals as goal

pub each_merged_one-requires : goal.each_merged_one-requires
each_merged_one-requires c = record { narrower = subst (λ op. source_bits op < width_bits H) c.in-Abs.is c.requires.narrower; z = c.requires.z; out = c.requires.out; ends = c.requires.ends }

pub returns-in-Abs : goal.returns-in-Abs
returns-in-Abs c = merge_one-operation c.args.vl c.args.pg.now.bits c.args.z c.args.out c.args.zs.now _ H c.args.op _ c.in-Abs.is c.each_merged_one.ensures

pub each_merged_one-requires-in-Neg : goal.each_merged_one-requires-in-Neg
each_merged_one-requires-in-Neg c = record { narrower = subst (λ op. source_bits op < width_bits H) c.in-Neg.is c.requires.narrower; z = c.requires.z; out = c.requires.out; ends = c.requires.ends }

pub returns-in-Neg : goal.returns-in-Neg
returns-in-Neg c = merge_one-operation c.args.vl c.args.pg.now.bits c.args.z c.args.out c.args.zs.now _ H c.args.op _ c.in-Neg.is c.each_merged_one-in-Neg.ensures

pub each_merged_one-requires-in-Not : goal.each_merged_one-requires-in-Not
each_merged_one-requires-in-Not c = record { narrower = subst (λ op. source_bits op < width_bits H) c.in-Not.is c.requires.narrower; z = c.requires.z; out = c.requires.out; ends = c.requires.ends }

pub returns-in-Not : goal.returns-in-Not
returns-in-Not c = merge_one-operation c.args.vl c.args.pg.now.bits c.args.z c.args.out c.args.zs.now _ H c.args.op _ c.in-Not.is c.each_merged_one-in-Not.ensures

pub each_merged_one-requires-in-SxtB : goal.each_merged_one-requires-in-SxtB
each_merged_one-requires-in-SxtB c = record { narrower = subst (λ op. source_bits op < width_bits H) c.in-SxtB.is c.requires.narrower; z = c.requires.z; out = c.requires.out; ends = c.requires.ends }

pub returns-in-SxtB : goal.returns-in-SxtB
returns-in-SxtB c = merge_one-operation c.args.vl c.args.pg.now.bits c.args.z c.args.out c.args.zs.now _ H c.args.op _ c.in-SxtB.is c.each_merged_one-in-SxtB.ensures

pub each_merged_one-requires-in-UxtB : goal.each_merged_one-requires-in-UxtB
each_merged_one-requires-in-UxtB c = record { narrower = subst (λ op. source_bits op < width_bits H) c.in-UxtB.is c.requires.narrower; z = c.requires.z; out = c.requires.out; ends = c.requires.ends }

pub returns-in-UxtB : goal.returns-in-UxtB
returns-in-UxtB c = merge_one-operation c.args.vl c.args.pg.now.bits c.args.z c.args.out c.args.zs.now _ H c.args.op _ c.in-UxtB.is c.each_merged_one-in-UxtB.ensures

pub each_merged_one-requires-in-SxtH : goal.each_merged_one-requires-in-SxtH
each_merged_one-requires-in-SxtH c = record { narrower = subst (λ op. source_bits op < width_bits H) c.in-SxtH.is c.requires.narrower; z = c.requires.z; out = c.requires.out; ends = c.requires.ends }

pub returns-in-SxtH : goal.returns-in-SxtH
returns-in-SxtH c = merge_one-operation c.args.vl c.args.pg.now.bits c.args.z c.args.out c.args.zs.now _ H c.args.op _ c.in-SxtH.is c.each_merged_one-in-SxtH.ensures

pub each_merged_one-requires-in-UxtH : goal.each_merged_one-requires-in-UxtH
each_merged_one-requires-in-UxtH c = record { narrower = subst (λ op. source_bits op < width_bits H) c.in-UxtH.is c.requires.narrower; z = c.requires.z; out = c.requires.out; ends = c.requires.ends }

pub returns-in-UxtH : goal.returns-in-UxtH
returns-in-UxtH c = merge_one-operation c.args.vl c.args.pg.now.bits c.args.z c.args.out c.args.zs.now _ H c.args.op _ c.in-UxtH.is c.each_merged_one-in-UxtH.ensures

pub each_merged_one-requires-in-SxtW : goal.each_merged_one-requires-in-SxtW
each_merged_one-requires-in-SxtW c = record { narrower = subst (λ op. source_bits op < width_bits H) c.in-SxtW.is c.requires.narrower; z = c.requires.z; out = c.requires.out; ends = c.requires.ends }

pub returns-in-SxtW : goal.returns-in-SxtW
returns-in-SxtW c = merge_one-operation c.args.vl c.args.pg.now.bits c.args.z c.args.out c.args.zs.now _ H c.args.op _ c.in-SxtW.is c.each_merged_one-in-SxtW.ensures

pub each_merged_one-requires-in-UxtW : goal.each_merged_one-requires-in-UxtW
each_merged_one-requires-in-UxtW c = record { narrower = subst (λ op. source_bits op < width_bits H) c.in-UxtW.is c.requires.narrower; z = c.requires.z; out = c.requires.out; ends = c.requires.ends }

pub returns-in-UxtW : goal.returns-in-UxtW
returns-in-UxtW c = merge_one-operation c.args.vl c.args.pg.now.bits c.args.z c.args.out c.args.zs.now _ H c.args.op _ c.in-UxtW.is c.each_merged_one-in-UxtW.ensures
