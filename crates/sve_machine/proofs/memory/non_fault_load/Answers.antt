use Rattle.std.proofs.Common.{refl, sym, ◌∙◌, subst}
use Rattle.guest_types.specs.declared.row.LoadMode.TheVariants.{NonFault}
use Rattle.sve_code.specs.Numbers.{dtype_number}
use Rattle.machine_model.specs.Answers.{IsAnswer}
use Rattle.a64_machine.specs.Cores.{state_of, said}
use Rattle.sve_machine.proofs.Loads.{non_row, load_by_operands}
use Rattle.sve_machine.proofs.memory.non_fault_load.Goals as goal

pub returns : goal.returns
returns c =
    let o = c.args.operands in
    let r = c.args.vectors.now in
    let core = c.args.core.now in
    let memory = c.args.pages.now.memory in
    let e =
    non_row o.zt.number o.rn.number o.pg.number (dtype_number o.dtype) r core memory
    ∙ load_by_operands NonFault _ _ _ c.load_row-row.result.dtype c.register_or_sp-base.result 0 o.zt.number o.pg.number r core memory c.load_row-row.ensures c.register_or_sp-base.ensures refl
    in
    subst (λ o. IsAnswer o (said c.load.result c.load.new.answer) (state_of core memory r) (state_of c.load.new.core memory c.load.new.vectors)) (sym e) c.load.ensures
