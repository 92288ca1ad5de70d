use Rattle.std.proofs.Common.{sym, ap, ◌∙◌, lit≤}
use Rattle.sve_code.specs.View.{instruction_view}
use Rattle.list_text.specs.SveText.{sve_text}
use Rattle.list_text.proofs.sve.instruction_text.Goals as goal

pub begin-requires : goal.begin-requires
begin-requires c = lit≤ tt

pub returns-in-Ptrue : goal.returns-in-Ptrue
returns-in-Ptrue c = c.ptrue.ensures ∙ ap (λ i. sve_text (instruction_view i)) (sym c.in-Ptrue.is)

pub returns-in-Pfalse : goal.returns-in-Pfalse
returns-in-Pfalse c = c.pfalse.ensures ∙ ap (λ i. sve_text (instruction_view i)) (sym c.in-Pfalse.is)

pub returns-in-Whilelo : goal.returns-in-Whilelo
returns-in-Whilelo c = c.whilelo.ensures ∙ ap (λ i. sve_text (instruction_view i)) (sym c.in-Whilelo.is)

pub returns-in-Ptest : goal.returns-in-Ptest
returns-in-Ptest c = c.ptest.ensures ∙ ap (λ i. sve_text (instruction_view i)) (sym c.in-Ptest.is)

pub returns-in-PredicateLogical : goal.returns-in-PredicateLogical
returns-in-PredicateLogical c = c.predicate_logical.ensures ∙ ap (λ i. sve_text (instruction_view i)) (sym c.in-PredicateLogical.is)

pub returns-in-Break : goal.returns-in-Break
returns-in-Break c = c.break_at.ensures ∙ ap (λ i. sve_text (instruction_view i)) (sym c.in-Break.is)

pub returns-in-Rdffr : goal.returns-in-Rdffr
returns-in-Rdffr c = c.rdffr.ensures ∙ ap (λ i. sve_text (instruction_view i)) (sym c.in-Rdffr.is)

pub returns-in-RdffrPredicated : goal.returns-in-RdffrPredicated
returns-in-RdffrPredicated c = c.rdffr_predicated.ensures ∙ ap (λ i. sve_text (instruction_view i)) (sym c.in-RdffrPredicated.is)

pub returns-in-Setffr : goal.returns-in-Setffr
returns-in-Setffr c = c.begin.ensures.bytes ∙ ap (λ i. sve_text (instruction_view i)) (sym c.in-Setffr.is)

pub returns-in-Wrffr : goal.returns-in-Wrffr
returns-in-Wrffr c = c.wrffr.ensures ∙ ap (λ i. sve_text (instruction_view i)) (sym c.in-Wrffr.is)

pub returns-in-ElementCount : goal.returns-in-ElementCount
returns-in-ElementCount c = c.element_count.ensures ∙ ap (λ i. sve_text (instruction_view i)) (sym c.in-ElementCount.is)

pub returns-in-Incp : goal.returns-in-Incp
returns-in-Incp c = c.incp.ensures ∙ ap (λ i. sve_text (instruction_view i)) (sym c.in-Incp.is)

pub returns-in-Cntp : goal.returns-in-Cntp
returns-in-Cntp c = c.cntp.ensures ∙ ap (λ i. sve_text (instruction_view i)) (sym c.in-Cntp.is)

pub returns-in-DupScalar : goal.returns-in-DupScalar
returns-in-DupScalar c = c.dup_scalar.ensures ∙ ap (λ i. sve_text (instruction_view i)) (sym c.in-DupScalar.is)

pub returns-in-IndexScalarImmediate : goal.returns-in-IndexScalarImmediate
returns-in-IndexScalarImmediate c = c.index.ensures ∙ ap (λ i. sve_text (instruction_view i)) (sym c.in-IndexScalarImmediate.is)

pub returns-in-Sel : goal.returns-in-Sel
returns-in-Sel c = c.sel.ensures ∙ ap (λ i. sve_text (instruction_view i)) (sym c.in-Sel.is)

pub returns-in-AddSub : goal.returns-in-AddSub
returns-in-AddSub c = c.add_sub.ensures ∙ ap (λ i. sve_text (instruction_view i)) (sym c.in-AddSub.is)

pub returns-in-Bitwise : goal.returns-in-Bitwise
returns-in-Bitwise c = c.bitwise.ensures ∙ ap (λ i. sve_text (instruction_view i)) (sym c.in-Bitwise.is)

pub returns-in-ShiftImmediate : goal.returns-in-ShiftImmediate
returns-in-ShiftImmediate c = c.shift_immediate.ensures ∙ ap (λ i. sve_text (instruction_view i)) (sym c.in-ShiftImmediate.is)

pub returns-in-BinaryPredicated : goal.returns-in-BinaryPredicated
returns-in-BinaryPredicated c = c.binary_predicated.ensures ∙ ap (λ i. sve_text (instruction_view i)) (sym c.in-BinaryPredicated.is)

pub returns-in-UnaryPredicated : goal.returns-in-UnaryPredicated
returns-in-UnaryPredicated c = c.unary_predicated.ensures ∙ ap (λ i. sve_text (instruction_view i)) (sym c.in-UnaryPredicated.is)

pub returns-in-ExtendByte : goal.returns-in-ExtendByte
returns-in-ExtendByte c = c.extend_byte.ensures ∙ ap (λ i. sve_text (instruction_view i)) (sym c.in-ExtendByte.is)

pub returns-in-ExtendHalfword : goal.returns-in-ExtendHalfword
returns-in-ExtendHalfword c = c.extend_halfword.ensures ∙ ap (λ i. sve_text (instruction_view i)) (sym c.in-ExtendHalfword.is)

pub returns-in-ExtendWord : goal.returns-in-ExtendWord
returns-in-ExtendWord c = c.extend_word.ensures ∙ ap (λ i. sve_text (instruction_view i)) (sym c.in-ExtendWord.is)

pub returns-in-Reduction : goal.returns-in-Reduction
returns-in-Reduction c = c.reduction.ensures ∙ ap (λ i. sve_text (instruction_view i)) (sym c.in-Reduction.is)

pub returns-in-CompareVectors : goal.returns-in-CompareVectors
returns-in-CompareVectors c = c.compare_vectors.ensures ∙ ap (λ i. sve_text (instruction_view i)) (sym c.in-CompareVectors.is)

pub returns-in-ContiguousLoad : goal.returns-in-ContiguousLoad
returns-in-ContiguousLoad c = c.contiguous_load.ensures ∙ ap (λ i. sve_text (instruction_view i)) (sym c.in-ContiguousLoad.is)

pub returns-in-FirstFaultLoad : goal.returns-in-FirstFaultLoad
returns-in-FirstFaultLoad c = c.first_fault_load.ensures ∙ ap (λ i. sve_text (instruction_view i)) (sym c.in-FirstFaultLoad.is)

pub returns-in-NonFaultLoad : goal.returns-in-NonFaultLoad
returns-in-NonFaultLoad c = c.non_fault_load.ensures ∙ ap (λ i. sve_text (instruction_view i)) (sym c.in-NonFaultLoad.is)

pub returns-in-GatherLoad : goal.returns-in-GatherLoad
returns-in-GatherLoad c = c.gather_load.ensures ∙ ap (λ i. sve_text (instruction_view i)) (sym c.in-GatherLoad.is)

pub returns-in-ContiguousStore : goal.returns-in-ContiguousStore
returns-in-ContiguousStore c = c.contiguous_store.ensures ∙ ap (λ i. sve_text (instruction_view i)) (sym c.in-ContiguousStore.is)
