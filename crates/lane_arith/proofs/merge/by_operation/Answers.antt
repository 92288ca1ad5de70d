use Rattle.std.proofs.Common.{sym, ap, ◌∙◌}
use Rattle.guest_types.specs.Lanes.{merge_of}
use Rattle.lane_arith.proofs.merge.by_operation.Goals as goal

pub returns-in-Add : goal.returns-in-Add
returns-in-Add c = c.each_merged.ensures ∙ ap (λ op. merge_of op c.args.width c.args.pg.now.bits c.args.left.now.bytes c.args.right.now.bytes) (sym c.in-Add.is)

pub returns-in-Sub : goal.returns-in-Sub
returns-in-Sub c = c.each_merged-in-Sub.ensures ∙ ap (λ op. merge_of op c.args.width c.args.pg.now.bits c.args.left.now.bytes c.args.right.now.bytes) (sym c.in-Sub.is)

pub returns-in-Mul : goal.returns-in-Mul
returns-in-Mul c = c.each_merged-in-Mul.ensures ∙ ap (λ op. merge_of op c.args.width c.args.pg.now.bits c.args.left.now.bytes c.args.right.now.bytes) (sym c.in-Mul.is)

pub returns-in-And : goal.returns-in-And
returns-in-And c = c.each_merged-in-And.ensures ∙ ap (λ op. merge_of op c.args.width c.args.pg.now.bits c.args.left.now.bytes c.args.right.now.bytes) (sym c.in-And.is)

pub returns-in-Or : goal.returns-in-Or
returns-in-Or c = c.each_merged-in-Or.ensures ∙ ap (λ op. merge_of op c.args.width c.args.pg.now.bits c.args.left.now.bytes c.args.right.now.bytes) (sym c.in-Or.is)

pub returns-in-Xor : goal.returns-in-Xor
returns-in-Xor c = c.each_merged-in-Xor.ensures ∙ ap (λ op. merge_of op c.args.width c.args.pg.now.bits c.args.left.now.bytes c.args.right.now.bytes) (sym c.in-Xor.is)

pub returns-in-Bic : goal.returns-in-Bic
returns-in-Bic c = c.each_merged-in-Bic.ensures ∙ ap (λ op. merge_of op c.args.width c.args.pg.now.bits c.args.left.now.bytes c.args.right.now.bytes) (sym c.in-Bic.is)

pub returns-in-SMin : goal.returns-in-SMin
returns-in-SMin c = c.each_merged-in-SMin.ensures ∙ ap (λ op. merge_of op c.args.width c.args.pg.now.bits c.args.left.now.bytes c.args.right.now.bytes) (sym c.in-SMin.is)

pub returns-in-SMax : goal.returns-in-SMax
returns-in-SMax c = c.each_merged-in-SMax.ensures ∙ ap (λ op. merge_of op c.args.width c.args.pg.now.bits c.args.left.now.bytes c.args.right.now.bytes) (sym c.in-SMax.is)

pub returns-in-UMin : goal.returns-in-UMin
returns-in-UMin c = c.each_merged-in-UMin.ensures ∙ ap (λ op. merge_of op c.args.width c.args.pg.now.bits c.args.left.now.bytes c.args.right.now.bytes) (sym c.in-UMin.is)

pub returns-in-UMax : goal.returns-in-UMax
returns-in-UMax c = c.each_merged-in-UMax.ensures ∙ ap (λ op. merge_of op c.args.width c.args.pg.now.bits c.args.left.now.bytes c.args.right.now.bytes) (sym c.in-UMax.is)
