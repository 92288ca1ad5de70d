use Rattle.std.proofs.Common.{refl, ap, inl, inr}
use Rattle.a64_machine.specs.Cores.{state_of}
use Rattle.a64_machine.specs.Accesses.{access}
use Rattle.a64_machine.proofs.AddressForms.{answer_as}
use Rattle.a64_machine.proofs.at_once.wide_at_once.Goals as goal

pub load-requires : goal.load-requires
load-requires c = inr (inl refl)

pub load-requires-in-LdrW : goal.load-requires-in-LdrW
load-requires-in-LdrW c = inr (inr (inl refl))

pub load-requires-in-LdrX : goal.load-requires-in-LdrX
load-requires-in-LdrX c = inr (inr (inr refl))

pub load-requires-in-Ldrsh : goal.load-requires-in-Ldrsh
load-requires-in-Ldrsh c = inr (inl refl)

pub load-requires-in-Ldrsw : goal.load-requires-in-Ldrsw
load-requires-in-Ldrsw c = inr (inr (inl refl))

pub store-requires : goal.store-requires
store-requires c = inr (inl refl)

pub store-requires-in-StrW : goal.store-requires-in-StrW
store-requires-in-StrW c = inr (inr (inl refl))

pub store-requires-in-StrX : goal.store-requires-in-StrX
store-requires-in-StrX c = inr (inr (inr refl))

pub returns-in-Ldrh : goal.returns-in-Ldrh
returns-in-Ldrh c = record {
  answer = λ rest. answer_as _ _ _ _ _ (ap (λ o. access o (state_of c.args.core.now c.args.pages.now.memory rest) c.args.rt.number c.args.address) c.in-Ldrh.is) (c.load.ensures.answer rest);
  past = refl;
}

pub returns-in-LdrW : goal.returns-in-LdrW
returns-in-LdrW c = record {
  answer = λ rest. answer_as _ _ _ _ _ (ap (λ o. access o (state_of c.args.core.now c.args.pages.now.memory rest) c.args.rt.number c.args.address) c.in-LdrW.is) (c.load-in-LdrW.ensures.answer rest);
  past = refl;
}

pub returns-in-LdrX : goal.returns-in-LdrX
returns-in-LdrX c = record {
  answer = λ rest. answer_as _ _ _ _ _ (ap (λ o. access o (state_of c.args.core.now c.args.pages.now.memory rest) c.args.rt.number c.args.address) c.in-LdrX.is) (c.load-in-LdrX.ensures.answer rest);
  past = refl;
}

pub returns-in-Ldrsh : goal.returns-in-Ldrsh
returns-in-Ldrsh c = record {
  answer = λ rest. answer_as _ _ _ _ _ (ap (λ o. access o (state_of c.args.core.now c.args.pages.now.memory rest) c.args.rt.number c.args.address) c.in-Ldrsh.is) (c.load-in-Ldrsh.ensures.answer rest);
  past = refl;
}

pub returns-in-Ldrsw : goal.returns-in-Ldrsw
returns-in-Ldrsw c = record {
  answer = λ rest. answer_as _ _ _ _ _ (ap (λ o. access o (state_of c.args.core.now c.args.pages.now.memory rest) c.args.rt.number c.args.address) c.in-Ldrsw.is) (c.load-in-Ldrsw.ensures.answer rest);
  past = refl;
}

pub returns-in-Strh : goal.returns-in-Strh
returns-in-Strh c = record {
  answer = λ rest. answer_as _ _ _ _ _ (ap (λ o. access o (state_of c.args.core.now c.args.pages.now.memory rest) c.args.rt.number c.args.address) c.in-Strh.is) (c.store.ensures.answer rest);
  past = c.store.ensures.past;
}

pub returns-in-StrW : goal.returns-in-StrW
returns-in-StrW c = record {
  answer = λ rest. answer_as _ _ _ _ _ (ap (λ o. access o (state_of c.args.core.now c.args.pages.now.memory rest) c.args.rt.number c.args.address) c.in-StrW.is) (c.store-in-StrW.ensures.answer rest);
  past = c.store-in-StrW.ensures.past;
}

pub returns-in-StrX : goal.returns-in-StrX
returns-in-StrX c = record {
  answer = λ rest. answer_as _ _ _ _ _ (ap (λ o. access o (state_of c.args.core.now c.args.pages.now.memory rest) c.args.rt.number c.args.address) c.in-StrX.is) (c.store-in-StrX.ensures.answer rest);
  past = c.store-in-StrX.ensures.past;
}
