use Rattle.std.proofs.Common.{refl, subst}
use Rattle.a64_machine.specs.Cores.{state_of}
use Rattle.sve_machine.specs.declared.decoded.Decoded.TheVariants.{Vector, Scalar}
use Rattle.sve_machine.specs.DecodedWords.{IsOther}
use Rattle.sve_machine.proofs.DecodedWords.{decoded_as, stops_nowhere}
use Rattle.sve_machine.proofs.advance.execute_other.Goals as goal

pub returns-in-Vector : goal.returns-in-Vector
returns-in-Vector c = record {
  answer = decoded_as c.args.decoded.now (Vector c.in-Vector.word) _ _ _ c.in-Vector.is c.vector_goes.ensures.answer;
  past = c.vector_goes.ensures.past;
}

pub returns-in-Scalar : goal.returns-in-Scalar
returns-in-Scalar c = record {
  answer = decoded_as c.args.decoded.now (Scalar c.in-Scalar.word) _ _ _ c.in-Scalar.is c.scalar_goes.ensures.answer;
  past = c.scalar_goes.ensures.past;
}

pub returns-in-Nowhere : goal.returns-in-Nowhere
returns-in-Nowhere c = record {
  answer = stops_nowhere c.args.decoded.now c.stop.result c.stop.new.answer (state_of c.args.core.now c.args.pages.now.memory c.args.vectors.now) c.in-Nowhere.is c.stop.ensures.found c.stop.ensures.answer;
  past = refl;
}

pub returns-in-Ready : goal.returns-in-Ready
returns-in-Ready c = absurd (subst IsOther c.in-Ready.is c.requires)
