use Rattle.std.proofs.Common.{sym, ap, ◌∙◌, lit≤}
use Rattle.a64_code.specs.View.{instruction_view}
use Rattle.list_text.specs.A64Text.{a64_text}
use Rattle.list_text.proofs.a64.instruction_text.Goals as goal

pub begin_x-requires : goal.begin_x-requires
begin_x-requires c = lit≤ tt

pub begin-requires : goal.begin-requires
begin-requires c = lit≤ tt

pub returns-in-AddSubImmediate : goal.returns-in-AddSubImmediate
returns-in-AddSubImmediate c = c.add_sub_immediate.ensures ∙ ap (λ i. a64_text (instruction_view i)) (sym c.in-AddSubImmediate.is)

pub returns-in-AddSubShifted : goal.returns-in-AddSubShifted
returns-in-AddSubShifted c = c.add_sub_shifted.ensures ∙ ap (λ i. a64_text (instruction_view i)) (sym c.in-AddSubShifted.is)

pub returns-in-LogicalShifted : goal.returns-in-LogicalShifted
returns-in-LogicalShifted c = c.logical_shifted.ensures ∙ ap (λ i. a64_text (instruction_view i)) (sym c.in-LogicalShifted.is)

pub returns-in-MoveWide : goal.returns-in-MoveWide
returns-in-MoveWide c = c.move_wide.ensures ∙ ap (λ i. a64_text (instruction_view i)) (sym c.in-MoveWide.is)

pub returns-in-MultiplyAdd : goal.returns-in-MultiplyAdd
returns-in-MultiplyAdd c = c.multiply_add.ensures ∙ ap (λ i. a64_text (instruction_view i)) (sym c.in-MultiplyAdd.is)

pub returns-in-ShiftVariable : goal.returns-in-ShiftVariable
returns-in-ShiftVariable c = c.shift_variable.ensures ∙ ap (λ i. a64_text (instruction_view i)) (sym c.in-ShiftVariable.is)

pub returns-in-Bitfield : goal.returns-in-Bitfield
returns-in-Bitfield c = c.bitfield.ensures ∙ ap (λ i. a64_text (instruction_view i)) (sym c.in-Bitfield.is)

pub returns-in-ConditionalSelect : goal.returns-in-ConditionalSelect
returns-in-ConditionalSelect c = c.conditional_select.ensures ∙ ap (λ i. a64_text (instruction_view i)) (sym c.in-ConditionalSelect.is)

pub returns-in-BranchConditional : goal.returns-in-BranchConditional
returns-in-BranchConditional c = c.branch_conditional.ensures ∙ ap (λ i. a64_text (instruction_view i)) (sym c.in-BranchConditional.is)

pub returns-in-CompareBranch : goal.returns-in-CompareBranch
returns-in-CompareBranch c = c.compare_branch.ensures ∙ ap (λ i. a64_text (instruction_view i)) (sym c.in-CompareBranch.is)

pub returns-in-Ret : goal.returns-in-Ret
returns-in-Ret c = c.begin_x.ensures.bytes ∙ ap (λ i. a64_text (instruction_view i)) (sym c.in-Ret.is)

pub returns-in-Exception : goal.returns-in-Exception
returns-in-Exception c = c.exception.ensures ∙ ap (λ i. a64_text (instruction_view i)) (sym c.in-Exception.is)

pub returns-in-Nop : goal.returns-in-Nop
returns-in-Nop c = c.begin.ensures.bytes ∙ ap (λ i. a64_text (instruction_view i)) (sym c.in-Nop.is)

pub returns-in-Umov : goal.returns-in-Umov
returns-in-Umov c = c.umov.ensures ∙ ap (λ i. a64_text (instruction_view i)) (sym c.in-Umov.is)

pub returns-in-LoadStoreByteImmediate : goal.returns-in-LoadStoreByteImmediate
returns-in-LoadStoreByteImmediate c = c.load_store_byte_immediate.ensures ∙ ap (λ i. a64_text (instruction_view i)) (sym c.in-LoadStoreByteImmediate.is)

pub returns-in-LoadStoreImmediate : goal.returns-in-LoadStoreImmediate
returns-in-LoadStoreImmediate c = c.load_store_immediate.ensures ∙ ap (λ i. a64_text (instruction_view i)) (sym c.in-LoadStoreImmediate.is)

pub returns-in-LoadStoreByteRegister : goal.returns-in-LoadStoreByteRegister
returns-in-LoadStoreByteRegister c = c.load_store_byte_register.ensures ∙ ap (λ i. a64_text (instruction_view i)) (sym c.in-LoadStoreByteRegister.is)

pub returns-in-LoadStoreRegister : goal.returns-in-LoadStoreRegister
returns-in-LoadStoreRegister c = c.load_store_register.ensures ∙ ap (λ i. a64_text (instruction_view i)) (sym c.in-LoadStoreRegister.is)
