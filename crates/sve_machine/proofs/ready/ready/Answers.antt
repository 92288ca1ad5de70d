use Rattle.std.proofs.Common.{refl}
use Rattle.sve_machine.specs.declared.instruction.Instruction.TheVariants as instructions
use Rattle.sve_machine.specs.declared.decoded.Decoded.TheVariants.{Scalar, Vector}
use Rattle.sve_machine.proofs.DecodedWords.{ready_as}
use Rattle.sve_machine.proofs.ready.ready.Goals as goal

pub returns-in-Some : goal.returns-in-Some
returns-in-Some c = record {
  same = ready_as c.args.instruction (instructions.Scalar c.in-Scalar.word) c.args.pc c.alone_or.result c.in-Scalar.is (c.alone_or.ensures.same c.args.pc c.in-Some.ensures);
  alone = c.alone_or.ensures.alone;
}

pub returns-in-None : goal.returns-in-None
returns-in-None c = record { same = ready_as c.args.instruction (instructions.Scalar c.in-Scalar.word) c.args.pc (Scalar c.in-Scalar.word) c.in-Scalar.is (λ s at. refl); alone = tt }

pub returns-in-Vector : goal.returns-in-Vector
returns-in-Vector c = record { same = ready_as c.args.instruction (instructions.Vector c.in-Vector.word) c.args.pc (Vector c.in-Vector.word) c.in-Vector.is (λ s at. refl); alone = tt }
