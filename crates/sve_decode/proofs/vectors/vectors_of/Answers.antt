use Rattle.std.proofs.Common.{◌∙◌, sym, rules}
use Rattle.sve_decode.proofs.Tops.{vector-arithmetic, vector-bitwise, vector-index, vector-shift_imm, vector-unary_forms, vector-count, vector-other}
use Rattle.sve_decode.proofs.vectors.vectors_of.Goals as goal

pub returns-in-0 : goal.returns-in-0
returns-in-0 c = c.arithmetic_of.ensures ∙ sym (vector-arithmetic c.args.word (sym c.field.ensures.value ∙ c.in-0.is))

pub returns-in-1 : goal.returns-in-1
returns-in-1 c = c.bitwise_of.ensures ∙ sym (vector-bitwise c.args.word (sym c.field.ensures.value ∙ c.in-1.is))

pub returns-in-2 : goal.returns-in-2
returns-in-2 c = c.index_of.ensures ∙ sym (vector-index c.args.word (sym c.field.ensures.value ∙ c.in-2.is))

pub returns-in-4 : goal.returns-in-4
returns-in-4 c = c.shift_imm_of.ensures ∙ sym (vector-shift_imm c.args.word (sym c.field.ensures.value ∙ c.in-4.is))

pub returns-in-5 : goal.returns-in-5
returns-in-5 c = c.unary_forms_of.ensures ∙ sym (vector-unary_forms c.args.word (sym c.field.ensures.value ∙ c.in-5.is))

pub returns-in-7 : goal.returns-in-7
returns-in-7 c = c.count_of.ensures ∙ sym (vector-count c.args.word (sym c.field.ensures.value ∙ c.in-7.is))

pub returns-in_default : goal.returns-in_default
returns-in_default c = sym (vector-other c.args.word (rw (← c.field.ensures.value) (search rules)))
