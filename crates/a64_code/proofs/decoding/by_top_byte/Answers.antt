use Rattle.std.proofs.Common.{◌∙◌, sym, rules, arith}
use Rattle.a64_code.proofs.Tops.{top-add_sub_imm, top-add_sub_shifted, top-logical, top-move_wide, top-multiply_add, top-shift_or_select, top-bitfield, top-branch, top-branch_if, top-branch_zero, top-ret_form, top-exception, top-nop_form, top-umov_form, top-byte_imm, top-wide_imm, top-byte_register, top-wide_register, top-other, among_branch, among_branch_zero}
use Rattle.a64_code.proofs.decoding.by_top_byte.Goals as goal

pub returns-in-20 : goal.returns-in-20
returns-in-20 c = c.branch_of.ensures ∙ sym (top-branch c.args.word c.ranges.word.fits (among_branch _ (omega arith) (omega arith)))

pub returns-in-56 : goal.returns-in-56
returns-in-56 c = c.byte_register_of.ensures ∙ sym (top-byte_register c.args.word c.ranges.word.fits c.in-56.is)

pub returns-in-57 : goal.returns-in-57
returns-in-57 c = c.byte_imm_of.ensures ∙ sym (top-byte_imm c.args.word c.ranges.word.fits c.in-57.is)

pub returns-in-78 : goal.returns-in-78
returns-in-78 c = c.umov_form_of.ensures ∙ sym (top-umov_form c.args.word c.ranges.word.fits c.in-78.is)

pub returns-in-84 : goal.returns-in-84
returns-in-84 c = c.branch_if_of.ensures ∙ sym (top-branch_if c.args.word c.ranges.word.fits c.in-84.is)

pub returns-in-120 : goal.returns-in-120
returns-in-120 c = c.wide_register_of.ensures ∙ sym (top-wide_register c.args.word c.ranges.word.fits c.in-120.is)

pub returns-in-121 : goal.returns-in-121
returns-in-121 c = c.wide_imm_of.ensures ∙ sym (top-wide_imm c.args.word c.ranges.word.fits c.in-121.is)

pub returns-in-138 : goal.returns-in-138
returns-in-138 c = c.logical_of.ensures ∙ sym (top-logical c.args.word c.ranges.word.fits c.in-138.is)

pub returns-in-139 : goal.returns-in-139
returns-in-139 c = c.add_sub_shifted_of.ensures ∙ sym (top-add_sub_shifted c.args.word c.ranges.word.fits c.in-139.is)

pub returns-in-145 : goal.returns-in-145
returns-in-145 c = c.add_sub_imm_of.ensures ∙ sym (top-add_sub_imm c.args.word c.ranges.word.fits c.in-145.is)

pub returns-in-146 : goal.returns-in-146
returns-in-146 c = c.move_wide_of.ensures ∙ sym (top-move_wide c.args.word c.ranges.word.fits c.in-146.is)

pub returns-in-147 : goal.returns-in-147
returns-in-147 c = c.bitfield_of.ensures ∙ sym (top-bitfield c.args.word c.ranges.word.fits c.in-147.is)

pub returns-in-154 : goal.returns-in-154
returns-in-154 c = c.shift_or_select_of.ensures ∙ sym (top-shift_or_select c.args.word c.ranges.word.fits c.in-154.is)

pub returns-in-155 : goal.returns-in-155
returns-in-155 c = c.multiply_add_of.ensures ∙ sym (top-multiply_add c.args.word c.ranges.word.fits c.in-155.is)

pub returns-in-180 : goal.returns-in-180
returns-in-180 c = c.branch_zero_of.ensures ∙ sym (top-branch_zero c.args.word c.ranges.word.fits (among_branch_zero _ (omega arith) (omega arith)))

pub returns-in-212 : goal.returns-in-212
returns-in-212 c = c.exception_of.ensures ∙ sym (top-exception c.args.word c.ranges.word.fits c.in-212.is)

pub returns-in-213 : goal.returns-in-213
returns-in-213 c = c.nop_form_of.ensures ∙ sym (top-nop_form c.args.word c.ranges.word.fits c.in-213.is)

pub returns-in-214 : goal.returns-in-214
returns-in-214 c = c.ret_form_of.ensures ∙ sym (top-ret_form c.args.word c.ranges.word.fits c.in-214.is)

pub returns-in_default : goal.returns-in_default
returns-in_default c = sym (top-other c.args.word c.ranges.word.fits (search rules))

pub returns-in_default-2 : goal.returns-in_default-2
returns-in_default-2 c = sym (top-other c.args.word c.ranges.word.fits (search rules))

pub returns-in_default-3 : goal.returns-in_default-3
returns-in_default-3 c = sym (top-other c.args.word c.ranges.word.fits (search rules))
