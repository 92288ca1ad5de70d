use Rattle.lane_memory.specs.Loads.{load_of}
use Rattle.sve_machine.specs.VectorStates.{p_of, put_load}
use Rattle.sve_machine.proofs.Loads.{load_went, load_stopped}
use Rattle.sve_machine.proofs.memory.load.Goals as goal

pub returns-in-Ok : goal.returns-in-Ok
returns-in-Ok c =
    let r = c.args.vectors.now in
    let o = c.args.operands in
    let l = c.args.load.now in
    let memory = c.args.pages.now.memory in
    load_went (put_load (load_of l.mode l.row.dtype l.base l.index r.vl memory r.stops (p_of r o.pg.number) r.ffr) o.zt.number r) c.args.core.now c.go_on.new.self memory c.load.new.self c.in-Ok.ensures.done c.go_on.ensures

pub returns-in-Err : goal.returns-in-Err
returns-in-Err c =
    let r = c.args.vectors.now in
    let o = c.args.operands in
    let l = c.args.load.now in
    let memory = c.args.pages.now.memory in
    load_stopped (put_load (load_of l.mode l.row.dtype l.base l.index r.vl memory r.stops (p_of r o.pg.number) r.ffr) o.zt.number r) c.in-Err.fault c.refused.result c.refused.new.answer c.args.core.now memory r c.load.new.self c.in-Err.ensures.refused c.in-Err.ensures.unchanged c.refused.ensures.went c.refused.ensures.answer
