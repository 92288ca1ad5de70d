use Rattle.std.proofs.Common.{refl, ap, inl}
use Rattle.a64_machine.specs.Cores.{state_of}
use Rattle.a64_machine.specs.Accesses.{byte_access}
use Rattle.a64_machine.proofs.AddressForms.{answer_as}
use Rattle.a64_machine.proofs.at_once.byte_at_once.Goals as goal

pub load-requires : goal.load-requires
load-requires c = inl refl

pub load-requires-in-Ldrsb : goal.load-requires-in-Ldrsb
load-requires-in-Ldrsb c = inl refl

pub store-requires : goal.store-requires
store-requires c = inl refl

pub returns-in-Ldrb : goal.returns-in-Ldrb
returns-in-Ldrb c = record {
  answer = λ rest. answer_as _ _ _ _ _ (ap (λ o. byte_access o (state_of c.args.core.now c.args.pages.now.memory rest) c.args.rt.number c.args.address) c.in-Ldrb.is) (c.load.ensures.answer rest);
  past = refl;
}

pub returns-in-Ldrsb : goal.returns-in-Ldrsb
returns-in-Ldrsb c = record {
  answer = λ rest. answer_as _ _ _ _ _ (ap (λ o. byte_access o (state_of c.args.core.now c.args.pages.now.memory rest) c.args.rt.number c.args.address) c.in-Ldrsb.is) (c.load-in-Ldrsb.ensures.answer rest);
  past = refl;
}

pub returns-in-Strb : goal.returns-in-Strb
returns-in-Strb c = record {
  answer = λ rest. answer_as _ _ _ _ _ (ap (λ o. byte_access o (state_of c.args.core.now c.args.pages.now.memory rest) c.args.rt.number c.args.address) c.in-Strb.is) (c.store.ensures.answer rest);
  past = c.store.ensures.past;
}
