use Rattle.std.proofs.Common.{sym, ◌∙◌, subst}
use Rattle.guest_types.specs.declared.row.LoadMode.TheVariants.{FirstFault}
use Rattle.sve_code.specs.Numbers.{dtype_number}
use Rattle.machine_model.specs.Answers.{IsAnswer}
use Rattle.a64_machine.specs.Cores.{state_of, said}
use Rattle.sve_machine.proofs.Loads.{first_row, load_by_operands}
use Rattle.sve_machine.proofs.memory.first_fault_load.Goals as goal

pub returns : goal.returns
returns c =
    let o = c.args.operands in
    let r = c.args.vectors.now in
    let core = c.args.core.now in
    let memory = c.args.pages.now.memory in
    let e =
    first_row o.zt.number o.rn.number o.pg.number c.args.rm.number (dtype_number o.dtype) r core memory
    ∙ load_by_operands FirstFault _ _ _ c.load_row-row.result.dtype c.register_or_sp-base.result c.register-index.result o.zt.number o.pg.number r core memory c.load_row-row.ensures c.register_or_sp-base.ensures c.register-index.ensures
    in
    subst (λ o. IsAnswer o (said c.load.result c.load.new.answer) (state_of core memory r) (state_of c.load.new.core memory c.load.new.vectors)) (sym e) c.load.ensures
