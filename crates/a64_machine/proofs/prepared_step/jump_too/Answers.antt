use Rattle.std.proofs.Common.{refl, arith}
use Rattle.a64_machine.proofs.prepared_step.jump_too.Goals as goal

pub returns-then-more-eq0 : goal.returns-then-more-eq0
returns-then-more-eq0 c = record { one = λ same. refl; two = λ other. absurd (other refl); fewer = λ other. absurd (other refl) }

pub returns : goal.returns
returns c = record {
  one = λ same. absurd (omega (arith, same, c.if-more-eq0.false));
  two = λ other. c.jump_where.ensures;
  fewer = λ other. omega (arith, c.if-more-eq0.false);
}
