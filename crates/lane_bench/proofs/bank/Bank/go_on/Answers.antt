use Rattle.std.proofs.Common.{arith}
use Rattle.lane_bench.proofs.Ends.{ends_kept}
use Rattle.lane_bench.proofs.bank.Bank.go_on.Goals as goal

pub invariant_of-self : goal.invariant_of-self
invariant_of-self c =
    let own = c.self.inside in
    (c.self.invariant.0, ends_kept own.vl 1 _ own.zs (omega arith) c.self.invariant.1)
