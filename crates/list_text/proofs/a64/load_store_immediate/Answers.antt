use Rattle.std.proofs.Common.{sym, ap, ◌∙◌, lit≤}
use Rattle.a64_code.specs.View.{instruction_view}
use Rattle.a64_code.specs.declared.A64.{A64}
use Rattle.list_text.specs.A64Text.{a64_text}
use Rattle.list_text.proofs.a64.load_store_immediate.Goals as goal

pub w_at_offset-requires : goal.w_at_offset-requires
w_at_offset-requires c = record { short = lit≤ tt; sized = lit≤ tt }

pub w_at_offset-requires-in-LdrW : goal.w_at_offset-requires-in-LdrW
w_at_offset-requires-in-LdrW c = record { short = lit≤ tt; sized = lit≤ tt }

pub x_at_offset-requires : goal.x_at_offset-requires
x_at_offset-requires c = record { short = lit≤ tt; sized = lit≤ tt }

pub x_at_offset-requires-in-Ldrsh : goal.x_at_offset-requires-in-Ldrsh
x_at_offset-requires-in-Ldrsh c = record { short = lit≤ tt; sized = lit≤ tt }

pub x_at_offset-requires-in-Ldrsw : goal.x_at_offset-requires-in-Ldrsw
x_at_offset-requires-in-Ldrsw c = record { short = lit≤ tt; sized = lit≤ tt }

pub w_at_offset-requires-in-Strh : goal.w_at_offset-requires-in-Strh
w_at_offset-requires-in-Strh c = record { short = lit≤ tt; sized = lit≤ tt }

pub w_at_offset-requires-in-StrW : goal.w_at_offset-requires-in-StrW
w_at_offset-requires-in-StrW c = record { short = lit≤ tt; sized = lit≤ tt }

pub x_at_offset-requires-in-StrX : goal.x_at_offset-requires-in-StrX
x_at_offset-requires-in-StrX c = record { short = lit≤ tt; sized = lit≤ tt }

pub returns-in-Ldrh : goal.returns-in-Ldrh
returns-in-Ldrh c = c.w_at_offset.ensures ∙ ap (λ o. a64_text (instruction_view (A64.LoadStoreImmediate o c.args.rt c.args.rn c.args.imm12))) (sym c.in-Ldrh.is)

pub returns-in-LdrW : goal.returns-in-LdrW
returns-in-LdrW c = c.w_at_offset-in-LdrW.ensures ∙ ap (λ o. a64_text (instruction_view (A64.LoadStoreImmediate o c.args.rt c.args.rn c.args.imm12))) (sym c.in-LdrW.is)

pub returns-in-LdrX : goal.returns-in-LdrX
returns-in-LdrX c = c.x_at_offset.ensures ∙ ap (λ o. a64_text (instruction_view (A64.LoadStoreImmediate o c.args.rt c.args.rn c.args.imm12))) (sym c.in-LdrX.is)

pub returns-in-Ldrsh : goal.returns-in-Ldrsh
returns-in-Ldrsh c =
    c.x_at_offset-in-Ldrsh.ensures
    ∙ ap (λ o. a64_text (instruction_view (A64.LoadStoreImmediate o c.args.rt c.args.rn c.args.imm12))) (sym c.in-Ldrsh.is)

pub returns-in-Ldrsw : goal.returns-in-Ldrsw
returns-in-Ldrsw c =
    c.x_at_offset-in-Ldrsw.ensures
    ∙ ap (λ o. a64_text (instruction_view (A64.LoadStoreImmediate o c.args.rt c.args.rn c.args.imm12))) (sym c.in-Ldrsw.is)

pub returns-in-Strh : goal.returns-in-Strh
returns-in-Strh c = c.w_at_offset-in-Strh.ensures ∙ ap (λ o. a64_text (instruction_view (A64.LoadStoreImmediate o c.args.rt c.args.rn c.args.imm12))) (sym c.in-Strh.is)

pub returns-in-StrW : goal.returns-in-StrW
returns-in-StrW c = c.w_at_offset-in-StrW.ensures ∙ ap (λ o. a64_text (instruction_view (A64.LoadStoreImmediate o c.args.rt c.args.rn c.args.imm12))) (sym c.in-StrW.is)

pub returns-in-StrX : goal.returns-in-StrX
returns-in-StrX c = c.x_at_offset-in-StrX.ensures ∙ ap (λ o. a64_text (instruction_view (A64.LoadStoreImmediate o c.args.rt c.args.rn c.args.imm12))) (sym c.in-StrX.is)
