use Rattle.lane_memory.specs.Gathers.{gather_of}
use Rattle.sve_machine.specs.VectorStates.{p_of, put_load, z_of}
use Rattle.sve_machine.proofs.Loads.{load_went, load_stopped}
use Rattle.sve_machine.proofs.memory.gather.Goals as goal

pub returns-in-Ok : goal.returns-in-Ok
returns-in-Ok c =
    let r = c.args.vectors.now in
    let memory = c.args.pages.now.memory in
    load_went (put_load (gather_of c.args.row.dtype c.args.base r.vl memory r.stops (z_of r c.args.operands.zm.number) (p_of r c.args.operands.pg.number) r.ffr) c.args.operands.zt.number r) c.args.core.now c.go_on.new.self memory c.gather.new.self c.in-Ok.ensures.done c.go_on.ensures

pub returns-in-Err : goal.returns-in-Err
returns-in-Err c =
    let r = c.args.vectors.now in
    let memory = c.args.pages.now.memory in
    load_stopped (put_load (gather_of c.args.row.dtype c.args.base r.vl memory r.stops (z_of r c.args.operands.zm.number) (p_of r c.args.operands.pg.number) r.ffr) c.args.operands.zt.number r) c.in-Err.fault c.refused.result c.refused.new.answer c.args.core.now memory r c.gather.new.self c.in-Err.ensures.refused c.in-Err.ensures.unchanged c.refused.ensures.went c.refused.ensures.answer
