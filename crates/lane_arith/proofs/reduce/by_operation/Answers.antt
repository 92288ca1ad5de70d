use Rattle.std.proofs.Common.{sym, ap, ◌∙◌}
use Rattle.guest_types.specs.Length.{lanes}
use Rattle.guest_types.specs.Lanes.{reduce_of}
use Rattle.lane_arith.proofs.reduce.by_operation.Goals as goal

pub returns-in-UAdd : goal.returns-in-UAdd
returns-in-UAdd c = c.sum.ensures ∙ ap (λ op. reduce_of op c.args.width (lanes c.args.vl c.args.width) c.args.pg.now.bits c.args.z.now.bytes) (sym c.in-UAdd.is)

pub returns-in-SMax : goal.returns-in-SMax
returns-in-SMax c = c.fold.ensures ∙ ap (λ op. reduce_of op c.args.width (lanes c.args.vl c.args.width) c.args.pg.now.bits c.args.z.now.bytes) (sym c.in-SMax.is)

pub returns-in-UMax : goal.returns-in-UMax
returns-in-UMax c = c.fold-in-UMax.ensures ∙ ap (λ op. reduce_of op c.args.width (lanes c.args.vl c.args.width) c.args.pg.now.bits c.args.z.now.bytes) (sym c.in-UMax.is)

pub returns-in-SMin : goal.returns-in-SMin
returns-in-SMin c = c.fold-in-SMin.ensures ∙ ap (λ op. reduce_of op c.args.width (lanes c.args.vl c.args.width) c.args.pg.now.bits c.args.z.now.bytes) (sym c.in-SMin.is)

pub returns-in-UMin : goal.returns-in-UMin
returns-in-UMin c = c.fold-in-UMin.ensures ∙ ap (λ op. reduce_of op c.args.width (lanes c.args.vl c.args.width) c.args.pg.now.bits c.args.z.now.bytes) (sym c.in-UMin.is)

pub returns-in-Or : goal.returns-in-Or
returns-in-Or c = c.fold-in-Or.ensures ∙ ap (λ op. reduce_of op c.args.width (lanes c.args.vl c.args.width) c.args.pg.now.bits c.args.z.now.bytes) (sym c.in-Or.is)

pub returns-in-Xor : goal.returns-in-Xor
returns-in-Xor c = c.fold-in-Xor.ensures ∙ ap (λ op. reduce_of op c.args.width (lanes c.args.vl c.args.width) c.args.pg.now.bits c.args.z.now.bytes) (sym c.in-Xor.is)

pub returns-in-And : goal.returns-in-And
returns-in-And c = c.fold-in-And.ensures ∙ ap (λ op. reduce_of op c.args.width (lanes c.args.vl c.args.width) c.args.pg.now.bits c.args.z.now.bytes) (sym c.in-And.is)
