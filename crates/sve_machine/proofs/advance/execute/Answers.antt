use Rattle.std.proofs.Common.{refl}
use Rattle.sve_machine.specs.declared.decoded.Decoded.TheVariants.{Ready}
use Rattle.sve_machine.proofs.DecodedWords.{decoded_as, both_as}
use Rattle.sve_machine.proofs.advance.execute.Goals as goal

pub returns-in-Ready : goal.returns-in-Ready
returns-in-Ready g c = record {
  answer = λ same. decoded_as c.args.decoded.now (Ready c.in-Ready.prepared) _ _ _ c.in-Ready.is (c.prepared_goes.ensures.answer c.args.vectors.now same);
  both = λ other.
      let go = c.prepared_goes.ensures.both c.args.vectors.now other in
      (go.0, both_as c.args.decoded.now c.in-Ready.prepared _ _ c.in-Ready.is go.1);
  fewer = c.prepared_goes.ensures.fewer;
  past = c.prepared_goes.ensures.past;
}

pub returns-in_default : goal.returns-in_default
returns-in_default g c = record {
  answer = λ same. c.execute_other.ensures.answer;
  both = λ other. absurd (other refl);
  fewer = λ other. absurd (other refl);
  past = c.execute_other.ensures.past;
}
