use Rattle.std.proofs.Common.{◌<◌, subst, sym, ap, ◌∙◌}
use Rattle.guest_types.specs.Length.{width_bits}
use Rattle.guest_types.specs.Lanes.{source_bits, merge_one_of}
use Rattle.lane_arith.proofs.unary.by_operation.Goals as goal

pub each_merged-requires : goal.each_merged-requires
each_merged-requires c = subst (λ op. source_bits op < width_bits c.args.width) c.in-Abs.is c.requires

pub returns-in-Abs : goal.returns-in-Abs
returns-in-Abs c = c.each_merged.ensures ∙ ap (λ op. merge_one_of op c.args.width c.args.pg.now.bits c.args.old.now.bytes c.args.z.now.bytes) (sym c.in-Abs.is)

pub each_merged-requires-in-Neg : goal.each_merged-requires-in-Neg
each_merged-requires-in-Neg c = subst (λ op. source_bits op < width_bits c.args.width) c.in-Neg.is c.requires

pub returns-in-Neg : goal.returns-in-Neg
returns-in-Neg c = c.each_merged-in-Neg.ensures ∙ ap (λ op. merge_one_of op c.args.width c.args.pg.now.bits c.args.old.now.bytes c.args.z.now.bytes) (sym c.in-Neg.is)

pub each_merged-requires-in-Not : goal.each_merged-requires-in-Not
each_merged-requires-in-Not c = subst (λ op. source_bits op < width_bits c.args.width) c.in-Not.is c.requires

pub returns-in-Not : goal.returns-in-Not
returns-in-Not c = c.each_merged-in-Not.ensures ∙ ap (λ op. merge_one_of op c.args.width c.args.pg.now.bits c.args.old.now.bytes c.args.z.now.bytes) (sym c.in-Not.is)

pub each_merged-requires-in-SxtB : goal.each_merged-requires-in-SxtB
each_merged-requires-in-SxtB c = subst (λ op. source_bits op < width_bits c.args.width) c.in-SxtB.is c.requires

pub returns-in-SxtB : goal.returns-in-SxtB
returns-in-SxtB c = c.each_merged-in-SxtB.ensures ∙ ap (λ op. merge_one_of op c.args.width c.args.pg.now.bits c.args.old.now.bytes c.args.z.now.bytes) (sym c.in-SxtB.is)

pub each_merged-requires-in-UxtB : goal.each_merged-requires-in-UxtB
each_merged-requires-in-UxtB c = subst (λ op. source_bits op < width_bits c.args.width) c.in-UxtB.is c.requires

pub returns-in-UxtB : goal.returns-in-UxtB
returns-in-UxtB c = c.each_merged-in-UxtB.ensures ∙ ap (λ op. merge_one_of op c.args.width c.args.pg.now.bits c.args.old.now.bytes c.args.z.now.bytes) (sym c.in-UxtB.is)

pub each_merged-requires-in-SxtH : goal.each_merged-requires-in-SxtH
each_merged-requires-in-SxtH c = subst (λ op. source_bits op < width_bits c.args.width) c.in-SxtH.is c.requires

pub returns-in-SxtH : goal.returns-in-SxtH
returns-in-SxtH c = c.each_merged-in-SxtH.ensures ∙ ap (λ op. merge_one_of op c.args.width c.args.pg.now.bits c.args.old.now.bytes c.args.z.now.bytes) (sym c.in-SxtH.is)

pub each_merged-requires-in-UxtH : goal.each_merged-requires-in-UxtH
each_merged-requires-in-UxtH c = subst (λ op. source_bits op < width_bits c.args.width) c.in-UxtH.is c.requires

pub returns-in-UxtH : goal.returns-in-UxtH
returns-in-UxtH c = c.each_merged-in-UxtH.ensures ∙ ap (λ op. merge_one_of op c.args.width c.args.pg.now.bits c.args.old.now.bytes c.args.z.now.bytes) (sym c.in-UxtH.is)

pub each_merged-requires-in-SxtW : goal.each_merged-requires-in-SxtW
each_merged-requires-in-SxtW c = subst (λ op. source_bits op < width_bits c.args.width) c.in-SxtW.is c.requires

pub returns-in-SxtW : goal.returns-in-SxtW
returns-in-SxtW c = c.each_merged-in-SxtW.ensures ∙ ap (λ op. merge_one_of op c.args.width c.args.pg.now.bits c.args.old.now.bytes c.args.z.now.bytes) (sym c.in-SxtW.is)

pub each_merged-requires-in-UxtW : goal.each_merged-requires-in-UxtW
each_merged-requires-in-UxtW c = subst (λ op. source_bits op < width_bits c.args.width) c.in-UxtW.is c.requires

pub returns-in-UxtW : goal.returns-in-UxtW
returns-in-UxtW c = c.each_merged-in-UxtW.ensures ∙ ap (λ op. merge_one_of op c.args.width c.args.pg.now.bits c.args.old.now.bytes c.args.z.now.bytes) (sym c.in-UxtW.is)
