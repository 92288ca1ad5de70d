use Rattle.sve_machine.proofs.VectorStateLaws.{zeros_are}
use Rattle.sve_machine.proofs.vectors.Vectors.new.Goals as goal

pub invariant_of-result : goal.invariant_of-result
invariant_of-result c = zeros_are c.args.vl c.args.stops c.bits-bits.ensures.valid
