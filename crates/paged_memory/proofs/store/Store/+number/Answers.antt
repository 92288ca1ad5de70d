use Rattle.std.proofs.Common.{arith}
use Rattle.paged_memory.proofs.Bytes.{more_bytes, eight_bytes}
use Rattle.paged_memory.proofs.store.Store.+number.Goals as goal

pub overflow_mul-result : goal.overflow_mul-result
overflow_mul-result t c =
    let b = more_bytes c.args.size 0 c.number.result (omega arith) (omega arith) c.number.ensures.bound in
    let e = eight_bytes c.args.size c.requires in
    omega (arith, b, e)

pub overflow_add-result : goal.overflow_add-result
overflow_add-result t c =
    let b = more_bytes c.args.size c.from.result c.number.result (omega arith) (omega arith) c.number.ensures.bound in
    let e = eight_bytes c.args.size c.requires in
    omega (arith, b, e)

pub returns-clause-bound : goal.returns-clause-bound
returns-clause-bound t c = more_bytes c.args.size c.from.result c.number.result (omega arith) (omega arith) c.number.ensures.bound
