use Rattle.std.proofs.Common.{refl, ap, inl, inr}
use Rattle.a64_machine.specs.Cores.{state_of}
use Rattle.a64_machine.specs.Accesses.{access}
use Rattle.a64_machine.proofs.AddressForms.{answer_as, on_any_stop}
use Rattle.a64_machine.proofs.accesses.access.Goals as goal

pub load-requires : goal.load-requires
load-requires g c = inr (inl refl)

pub load-requires-in-LdrW : goal.load-requires-in-LdrW
load-requires-in-LdrW g c = inr (inr (inl refl))

pub load-requires-in-LdrX : goal.load-requires-in-LdrX
load-requires-in-LdrX g c = inr (inr (inr refl))

pub load-requires-in-Ldrsh : goal.load-requires-in-Ldrsh
load-requires-in-Ldrsh g c = inr (inl refl)

pub load-requires-in-Ldrsw : goal.load-requires-in-Ldrsw
load-requires-in-Ldrsw g c = inr (inr (inl refl))

pub store-requires : goal.store-requires
store-requires g c = inr (inl refl)

pub store-requires-in-StrW : goal.store-requires-in-StrW
store-requires-in-StrW g c = inr (inr (inl refl))

pub store-requires-in-StrX : goal.store-requires-in-StrX
store-requires-in-StrX g c = inr (inr (inr refl))

pub returns-in-Ldrh : goal.returns-in-Ldrh
returns-in-Ldrh g c = record {
  answer = λ rest. answer_as _ _ _ _ _ (ap (λ o. access o (state_of c.args.core.now (g.M.GuestMemory.memory c.args.memory.now) rest) c.args.rt.number c.args.address) c.in-Ldrh.is) (c.load.ensures.answer rest);
  kept = c.load.ensures.kept;
  kept_memory = on_any_stop _ refl;
  past = refl;
}

pub returns-in-LdrW : goal.returns-in-LdrW
returns-in-LdrW g c = record {
  answer = λ rest. answer_as _ _ _ _ _ (ap (λ o. access o (state_of c.args.core.now (g.M.GuestMemory.memory c.args.memory.now) rest) c.args.rt.number c.args.address) c.in-LdrW.is) (c.load-in-LdrW.ensures.answer rest);
  kept = c.load-in-LdrW.ensures.kept;
  kept_memory = on_any_stop _ refl;
  past = refl;
}

pub returns-in-LdrX : goal.returns-in-LdrX
returns-in-LdrX g c = record {
  answer = λ rest. answer_as _ _ _ _ _ (ap (λ o. access o (state_of c.args.core.now (g.M.GuestMemory.memory c.args.memory.now) rest) c.args.rt.number c.args.address) c.in-LdrX.is) (c.load-in-LdrX.ensures.answer rest);
  kept = c.load-in-LdrX.ensures.kept;
  kept_memory = on_any_stop _ refl;
  past = refl;
}

pub returns-in-Ldrsh : goal.returns-in-Ldrsh
returns-in-Ldrsh g c = record {
  answer = λ rest. answer_as _ _ _ _ _ (ap (λ o. access o (state_of c.args.core.now (g.M.GuestMemory.memory c.args.memory.now) rest) c.args.rt.number c.args.address) c.in-Ldrsh.is) (c.load-in-Ldrsh.ensures.answer rest);
  kept = c.load-in-Ldrsh.ensures.kept;
  kept_memory = on_any_stop _ refl;
  past = refl;
}

pub returns-in-Ldrsw : goal.returns-in-Ldrsw
returns-in-Ldrsw g c = record {
  answer = λ rest. answer_as _ _ _ _ _ (ap (λ o. access o (state_of c.args.core.now (g.M.GuestMemory.memory c.args.memory.now) rest) c.args.rt.number c.args.address) c.in-Ldrsw.is) (c.load-in-Ldrsw.ensures.answer rest);
  kept = c.load-in-Ldrsw.ensures.kept;
  kept_memory = on_any_stop _ refl;
  past = refl;
}

pub returns-in-Strh : goal.returns-in-Strh
returns-in-Strh g c = record {
  answer = λ rest. answer_as _ _ _ _ _ (ap (λ o. access o (state_of c.args.core.now (g.M.GuestMemory.memory c.args.memory.now) rest) c.args.rt.number c.args.address) c.in-Strh.is) (c.store.ensures.answer rest);
  kept = c.store.ensures.kept;
  kept_memory = c.store.ensures.kept_memory;
  past = c.store.ensures.past;
}

pub returns-in-StrW : goal.returns-in-StrW
returns-in-StrW g c = record {
  answer = λ rest. answer_as _ _ _ _ _ (ap (λ o. access o (state_of c.args.core.now (g.M.GuestMemory.memory c.args.memory.now) rest) c.args.rt.number c.args.address) c.in-StrW.is) (c.store-in-StrW.ensures.answer rest);
  kept = c.store-in-StrW.ensures.kept;
  kept_memory = c.store-in-StrW.ensures.kept_memory;
  past = c.store-in-StrW.ensures.past;
}

pub returns-in-StrX : goal.returns-in-StrX
returns-in-StrX g c = record {
  answer = λ rest. answer_as _ _ _ _ _ (ap (λ o. access o (state_of c.args.core.now (g.M.GuestMemory.memory c.args.memory.now) rest) c.args.rt.number c.args.address) c.in-StrX.is) (c.store-in-StrX.ensures.answer rest);
  kept = c.store-in-StrX.ensures.kept;
  kept_memory = c.store-in-StrX.ensures.kept_memory;
  past = c.store-in-StrX.ensures.past;
}
