use Rattle.std.proofs.Common.{ℕ, List, replicate, arith}
use Rattle.std.specs.Prelude.{slice_set}
use Rattle.guest_types.specs.declared.register.ZReg.{ZReg}
use Rattle.lane_bench.proofs.Ends.{ends_begun, ends_kept}
use Rattle.lane_bench.proofs.bank.Bank.new.Goals as goal

pub invariant_of-result : goal.invariant_of-result
invariant_of-result c =
    let vl = c.args.vl in
    let zs : List ZReg = replicate {A = ZReg} 32 (record { bytes = replicate {A = ℕ} 256 0 }) in
    (c.bits-bits.ensures.valid, ends_kept vl 2 c.args.right (slice_set zs 1 c.args.left) (omega arith) (ends_kept vl 1 c.args.left zs (omega arith) (ends_begun vl)))
