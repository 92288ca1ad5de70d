use Rattle.std.proofs.Common.{◌≡◌, ap, arith}
use Rattle.paged_memory.specs.Numbers.{number_in}
use Rattle.paged_memory.proofs.Bytes.{number_in-bytes}
use Rattle.paged_memory.proofs.number.number.Goals as goal

pub returns-in-1 : goal.returns-in-1
returns-in-1 c =
    let e : number_in c.args.bytes.now c.args.at c.args.size ≡ number_in c.args.bytes.now c.args.at 1 = ap (number_in c.args.bytes.now c.args.at) c.in-1.is in
    omega (arith, c.from.ensures, e, number_in-bytes c.args.bytes.now c.args.at 0 (omega arith))
