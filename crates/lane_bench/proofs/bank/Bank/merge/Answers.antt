use Rattle.std.proofs.Common.{◌≡◌, length, arith, rules}
use Rattle.lane_bench.proofs.Ends.{ends_made}
use Rattle.lane_bench.proofs.bank.Bank.merge.Goals as goal

pub merge_in-requires-clause-ends : goal.merge_in-requires-clause-ends
merge_in-requires-clause-ends c = c.self.invariant.1

pub invariant_of-self : goal.invariant_of-self
invariant_of-self c =
    let own = c.self.inside in
    let long : length own.zs ≡ 32 = search rules in
    (c.self.invariant.0, ends_made own.vl 0 c.args.width _ own.zs c.merge_in.new.zs c.self.invariant.0 (omega (arith, long)) c.merge_in.ensures)
