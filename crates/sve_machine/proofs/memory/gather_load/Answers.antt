use Rattle.std.proofs.Common.{sym, ap₂, ◌∙◌, subst}
use Rattle.machine_model.specs.Answers.{IsAnswer}
use Rattle.lane_memory.specs.Gathers.{gather_of}
use Rattle.a64_machine.specs.Cores.{state_of, said}
use Rattle.sve_machine.specs.VectorStates.{p_of, put_load, z_of}
use Rattle.sve_machine.specs.Rows.{after_load}
use Rattle.sve_machine.proofs.Loads.{gather_row}
use Rattle.sve_machine.proofs.memory.gather_load.Goals as goal

pub returns : goal.returns
returns c =
    let r = c.args.vectors.now in
    let core = c.args.core.now in
    let memory = c.args.pages.now.memory in
    let e =
    gather_row c.args.operands.op c.args.operands.zt.number c.args.operands.rn.number c.args.operands.pg.number c.args.operands.zm.number r core memory
    ∙ ap₂ (λ d b. after_load (put_load (gather_of d b r.vl memory r.stops (z_of r c.args.operands.zm.number) (p_of r c.args.operands.pg.number) r.ffr) c.args.operands.zt.number r) core memory) (sym c.gather_row-row.ensures.dtype) (sym c.register_or_sp-base.ensures)
    in
    subst (λ o. IsAnswer o (said c.gather.result c.gather.new.answer) (state_of core memory r) (state_of c.gather.new.core memory c.gather.new.vectors)) (sym e) c.gather.ensures
