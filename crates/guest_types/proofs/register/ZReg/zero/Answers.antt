use Rattle.std.proofs.Common.{ap, sym, ◌-◌, replicate}
use Rattle.std.proofs.Math.Nat.{mul-zero}
use Rattle.guest_types.specs.Elements.{elements}
use Rattle.guest_types.proofs.register.ZReg.zero.Goals as goal

pub returns-clause-elements : goal.returns-clause-elements
unfolding elements
returns-clause-elements c k f = ap (λ n. replicate (256 - n) 0) (sym (mul-zero k))
