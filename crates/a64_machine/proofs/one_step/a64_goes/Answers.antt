use Rattle.std.proofs.Common.{refl, ap}
use Rattle.a64_code.specs.View.{instruction_view}
use Rattle.machine_model.specs.InstructionTable.{Scalar}
use Rattle.machine_model.specs.OneStep.{does}
use Rattle.a64_machine.specs.Cores.{state_of}
use Rattle.a64_machine.proofs.AddressForms.{answer_as, on_any_stop}
use Rattle.a64_machine.proofs.one_step.a64_goes.Goals as goal

pub returns-in-LoadStoreImmediate : goal.returns-in-LoadStoreImmediate
returns-in-LoadStoreImmediate c = record {
  answer = λ rest vector. answer_as _ _ _ _ _ (ap (λ w. does (Scalar (instruction_view w)) (state_of c.args.core.now c.args.pages.now.memory rest)) c.in-LoadStoreImmediate.is) (c.wide_immediate.ensures.answer rest);
  kept = c.wide_immediate.ensures.kept;
  kept_memory = c.wide_immediate.ensures.kept_memory;
  past = c.wide_immediate.ensures.past;
}

pub returns-in-LoadStoreRegister : goal.returns-in-LoadStoreRegister
returns-in-LoadStoreRegister c = record {
  answer = λ rest vector. answer_as _ _ _ _ _ (ap (λ w. does (Scalar (instruction_view w)) (state_of c.args.core.now c.args.pages.now.memory rest)) c.in-LoadStoreRegister.is) (c.wide_register.ensures.answer rest);
  kept = c.wide_register.ensures.kept;
  kept_memory = c.wide_register.ensures.kept_memory;
  past = c.wide_register.ensures.past;
}

pub returns-in-LoadStoreByteImmediate : goal.returns-in-LoadStoreByteImmediate
returns-in-LoadStoreByteImmediate c = record {
  answer = λ rest vector. answer_as _ _ _ _ _ (ap (λ w. does (Scalar (instruction_view w)) (state_of c.args.core.now c.args.pages.now.memory rest)) c.in-LoadStoreByteImmediate.is) (c.byte_immediate.ensures.answer rest);
  kept = c.byte_immediate.ensures.kept;
  kept_memory = c.byte_immediate.ensures.kept_memory;
  past = c.byte_immediate.ensures.past;
}

pub returns-in-LoadStoreByteRegister : goal.returns-in-LoadStoreByteRegister
returns-in-LoadStoreByteRegister c = record {
  answer = λ rest vector. answer_as _ _ _ _ _ (ap (λ w. does (Scalar (instruction_view w)) (state_of c.args.core.now c.args.pages.now.memory rest)) c.in-LoadStoreByteRegister.is) (c.byte_register.ensures.answer rest);
  kept = c.byte_register.ensures.kept;
  kept_memory = c.byte_register.ensures.kept_memory;
  past = c.byte_register.ensures.past;
}

pub returns-in-Exception : goal.returns-in-Exception
returns-in-Exception c = record {
  answer = λ rest vector. answer_as _ _ _ _ _ (ap (λ w. does (Scalar (instruction_view w)) (state_of c.args.core.now c.args.pages.now.memory rest)) c.in-Exception.is) (c.exception.ensures c.args.pages.now.memory rest);
  kept = on_any_stop _ refl;
  kept_memory = on_any_stop _ refl;
  past = refl;
}
