use Rattle.std.proofs.Common.{ap, arith, length}
use Rattle.sve_machine.proofs.history.History.cut.Goals as goal

pub overflow_add-n : goal.overflow_add-n
overflow_add-n c =
    let same = ap length c.self.view_is in
    let inside = c.requires in
    let count = c.len-count.ensures.len in
    let room = c.len-count.ensures.within.0 in
    let most = c.len-count.ensures.within.1 in
    record { fits = omega (arith, same, inside, count, room, most) }
