use Rattle.a64_machine.specs.Cores.{state_of}
use Rattle.a64_machine.proofs.AddressForms.{byte_register, answer_as}
use Rattle.a64_machine.proofs.load_store.byte_register.Goals as goal

pub returns-clause-answer : goal.returns-clause-answer
returns-clause-answer g c rest =
    let before = state_of c.args.core.now (g.M.GuestMemory.memory c.args.memory.now) rest in
    let e = byte_register c.args.op c.args.rt.number c.args.rn.number c.args.rm.number c.at_register-address.result before c.at_register-address.ensures in
    answer_as _ _ _ _ _ e (c.byte_access.ensures.answer rest)
