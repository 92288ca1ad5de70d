use Rattle.word_rows.specs.Field.{flag_number}
use Rattle.a64_machine.specs.Cores.{state_of}
use Rattle.a64_machine.proofs.AddressForms.{wide_register, answer_as}
use Rattle.a64_machine.proofs.load_store.wide_register.Goals as goal

pub returns-clause-answer : goal.returns-clause-answer
returns-clause-answer g c rest =
    let before = state_of c.args.core.now (g.M.GuestMemory.memory c.args.memory.now) rest in
    let e = wide_register c.args.op c.args.rt.number c.args.rn.number (flag_number c.args.scaled) c.args.rm.number c.at_scaled-address.result c.scale.result before c.at_scaled-address.ensures c.scale.ensures.value in
    answer_as _ _ _ _ _ e (c.access.ensures.answer rest)
