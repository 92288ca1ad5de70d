use Rattle.std.proofs.Common.{refl, ap, inl}
use Rattle.a64_machine.specs.Cores.{state_of}
use Rattle.a64_machine.specs.Accesses.{byte_access}
use Rattle.a64_machine.proofs.AddressForms.{answer_as, on_any_stop}
use Rattle.a64_machine.proofs.accesses.byte_access.Goals as goal

pub load-requires : goal.load-requires
load-requires g c = inl refl

pub load-requires-in-Ldrsb : goal.load-requires-in-Ldrsb
load-requires-in-Ldrsb g c = inl refl

pub store-requires : goal.store-requires
store-requires g c = inl refl

pub returns-in-Ldrb : goal.returns-in-Ldrb
returns-in-Ldrb g c = record {
  answer = λ rest. answer_as _ _ _ _ _ (ap (λ o. byte_access o (state_of c.args.core.now (g.M.GuestMemory.memory c.args.memory.now) rest) c.args.rt.number c.args.address) c.in-Ldrb.is) (c.load.ensures.answer rest);
  kept = c.load.ensures.kept;
  kept_memory = on_any_stop _ refl;
  past = refl;
}

pub returns-in-Ldrsb : goal.returns-in-Ldrsb
returns-in-Ldrsb g c = record {
  answer = λ rest. answer_as _ _ _ _ _ (ap (λ o. byte_access o (state_of c.args.core.now (g.M.GuestMemory.memory c.args.memory.now) rest) c.args.rt.number c.args.address) c.in-Ldrsb.is) (c.load-in-Ldrsb.ensures.answer rest);
  kept = c.load-in-Ldrsb.ensures.kept;
  kept_memory = on_any_stop _ refl;
  past = refl;
}

pub returns-in-Strb : goal.returns-in-Strb
returns-in-Strb g c = record {
  answer = λ rest. answer_as _ _ _ _ _ (ap (λ o. byte_access o (state_of c.args.core.now (g.M.GuestMemory.memory c.args.memory.now) rest) c.args.rt.number c.args.address) c.in-Strb.is) (c.store.ensures.answer rest);
  kept = c.store.ensures.kept;
  kept_memory = c.store.ensures.kept_memory;
  past = c.store.ensures.past;
}
