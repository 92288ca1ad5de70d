use Rattle.std.proofs.Common.{◌*◌, ◌%◌, ◌^◌, refl, sym, ap, ap₂, ◌∙◌}
use Rattle.machine_model.specs.Arithmetic.{sum}
use Rattle.a64_machine.specs.Cores.{state_of}
use Rattle.a64_machine.specs.Accesses.{byte_access, access}
use Rattle.machine_model.specs.Machine.{Went}
use Rattle.a64_machine.specs.declared.prepared_form.Prepared.TheVariants.{LessNumber, CompareNumber, JumpWhere}
use Rattle.a64_machine.specs.Prepared.{prepared_does, branch_after}
use Rattle.a64_machine.proofs.AddressForms.{answer_as}
use Rattle.a64_machine.proofs.prepared_step.prepared_goes.Goals as goal

pub returns-in-ByteAtRegister : goal.returns-in-ByteAtRegister
returns-in-ByteAtRegister g c = record {
  answer = λ rest same.
      let before = state_of c.args.core.now c.args.pages.now.memory rest in
      let at = ap₂ sum (sym c.general.ensures) (sym c.general-in-ByteAtRegister.ensures) in
      let does = ap (λ p. prepared_does p before) c.in-ByteAtRegister.is ∙ ap (byte_access c.in-ByteAtRegister.op before c.in-ByteAtRegister.rt.number) at in
      answer_as _ _ _ _ _ does (c.byte_at_once.ensures.answer rest);
  both = λ rest other. absurd (other refl);
  fewer = λ other. absurd (other refl);
  past = c.byte_at_once.ensures.past;
}

pub returns-in-ByteAtNumber : goal.returns-in-ByteAtNumber
returns-in-ByteAtNumber g c = record {
  answer = λ rest same.
      let before = state_of c.args.core.now c.args.pages.now.memory rest in
      let at = ap (λ n. sum n c.in-ByteAtNumber.number) (sym c.general-in-ByteAtNumber.ensures) in
      let does = ap (λ p. prepared_does p before) c.in-ByteAtNumber.is ∙ ap (byte_access c.in-ByteAtNumber.op before c.in-ByteAtNumber.rt.number) at in
      answer_as _ _ _ _ _ does (c.byte_at_once-in-ByteAtNumber.ensures.answer rest);
  both = λ rest other. absurd (other refl);
  fewer = λ other. absurd (other refl);
  past = c.byte_at_once-in-ByteAtNumber.ensures.past;
}

pub returns-in-WideAtRegister : goal.returns-in-WideAtRegister
returns-in-WideAtRegister g c = record {
  answer = λ rest same.
      let before = state_of c.args.core.now c.args.pages.now.memory rest in
      let at = ap₂ (λ n m. sum n (m * 2 ^ c.in-WideAtRegister.by.number % 2 ^ 64)) (sym c.general-in-WideAtRegister.ensures) (sym c.general-in-WideAtRegister-2.ensures) in
      let does = ap (λ p. prepared_does p before) c.in-WideAtRegister.is ∙ ap (access c.in-WideAtRegister.op before c.in-WideAtRegister.rt.number) at in
      answer_as _ _ _ _ _ does (c.wide_at_once.ensures.answer rest);
  both = λ rest other. absurd (other refl);
  fewer = λ other. absurd (other refl);
  past = c.wide_at_once.ensures.past;
}

pub returns-in-WideAtNumber : goal.returns-in-WideAtNumber
returns-in-WideAtNumber g c = record {
  answer = λ rest same.
      let before = state_of c.args.core.now c.args.pages.now.memory rest in
      let at = ap (λ n. sum n c.in-WideAtNumber.number) (sym c.general-in-WideAtNumber.ensures) in
      let does = ap (λ p. prepared_does p before) c.in-WideAtNumber.is ∙ ap (access c.in-WideAtNumber.op before c.in-WideAtNumber.rt.number) at in
      answer_as _ _ _ _ _ does (c.wide_at_once-in-WideAtNumber.ensures.answer rest);
  both = λ rest other. absurd (other refl);
  fewer = λ other. absurd (other refl);
  past = c.wide_at_once-in-WideAtNumber.ensures.past;
}

pub returns-in-AddNumber-clause-answer : goal.returns-in-AddNumber-clause-answer
returns-in-AddNumber-clause-answer g c rest same =
    ap (λ p. prepared_does p (state_of c.args.core.now c.args.pages.now.memory rest)) c.in-AddNumber.is ∙ c.add_number.ensures c.args.pages.now.memory rest

pub returns-in-LessNumber-clause-answer : goal.returns-in-LessNumber-clause-answer
returns-in-LessNumber-clause-answer g c rest same =
    ap (λ p. prepared_does p (state_of c.args.core.now c.args.pages.now.memory rest)) c.in-LessNumber.is ∙ c.less_number.ensures c.args.pages.now.memory rest

pub returns-in-Add-clause-answer : goal.returns-in-Add-clause-answer
returns-in-Add-clause-answer g c rest same =
    ap (λ p. prepared_does p (state_of c.args.core.now c.args.pages.now.memory rest)) c.in-Add.is ∙ c.add.ensures c.args.pages.now.memory rest

pub returns-in-Subtract-clause-answer : goal.returns-in-Subtract-clause-answer
returns-in-Subtract-clause-answer g c rest same =
    ap (λ p. prepared_does p (state_of c.args.core.now c.args.pages.now.memory rest)) c.in-Subtract.is ∙ c.subtract.ensures c.args.pages.now.memory rest

pub returns-in-CompareNumber-clause-answer : goal.returns-in-CompareNumber-clause-answer
returns-in-CompareNumber-clause-answer g c rest same =
    ap (λ p. prepared_does p (state_of c.args.core.now c.args.pages.now.memory rest)) c.in-CompareNumber.is ∙ c.compare_number-in-CompareNumber.ensures c.args.pages.now.memory rest

pub returns-in-Compare-clause-answer : goal.returns-in-Compare-clause-answer
returns-in-Compare-clause-answer g c rest same =
    ap (λ p. prepared_does p (state_of c.args.core.now c.args.pages.now.memory rest)) c.in-Compare.is ∙ c.compare-in-Compare.ensures c.args.pages.now.memory rest

pub returns-in-MultiplyAdd-clause-answer : goal.returns-in-MultiplyAdd-clause-answer
returns-in-MultiplyAdd-clause-answer g c rest same =
    ap (λ p. prepared_does p (state_of c.args.core.now c.args.pages.now.memory rest)) c.in-MultiplyAdd.is ∙ c.multiply_add.ensures c.args.pages.now.memory rest

pub returns-in-AddNumber-clause-both : goal.returns-in-AddNumber-clause-both
returns-in-AddNumber-clause-both g c rest other = absurd (other refl)

pub returns-in-AddNumber-clause-fewer : goal.returns-in-AddNumber-clause-fewer
returns-in-AddNumber-clause-fewer g c other = absurd (other refl)

pub returns-in-LessNumber-clause-both : goal.returns-in-LessNumber-clause-both
returns-in-LessNumber-clause-both g c rest other = absurd (other refl)

pub returns-in-LessNumber-clause-fewer : goal.returns-in-LessNumber-clause-fewer
returns-in-LessNumber-clause-fewer g c other = absurd (other refl)

pub returns-in-JumpWhere-clause-both : goal.returns-in-JumpWhere-clause-both
returns-in-JumpWhere-clause-both g c rest other = absurd (other refl)

pub returns-in-JumpWhere-clause-fewer : goal.returns-in-JumpWhere-clause-fewer
returns-in-JumpWhere-clause-fewer g c other = absurd (other refl)

pub returns-in-Add-clause-both : goal.returns-in-Add-clause-both
returns-in-Add-clause-both g c rest other = absurd (other refl)

pub returns-in-Add-clause-fewer : goal.returns-in-Add-clause-fewer
returns-in-Add-clause-fewer g c other = absurd (other refl)

pub returns-in-Subtract-clause-both : goal.returns-in-Subtract-clause-both
returns-in-Subtract-clause-both g c rest other = absurd (other refl)

pub returns-in-Subtract-clause-fewer : goal.returns-in-Subtract-clause-fewer
returns-in-Subtract-clause-fewer g c other = absurd (other refl)

pub returns-in-Field-clause-both : goal.returns-in-Field-clause-both
returns-in-Field-clause-both g c rest other = absurd (other refl)

pub returns-in-Field-clause-fewer : goal.returns-in-Field-clause-fewer
returns-in-Field-clause-fewer g c other = absurd (other refl)

pub returns-in-CompareNumber-clause-both : goal.returns-in-CompareNumber-clause-both
returns-in-CompareNumber-clause-both g c rest other = absurd (other refl)

pub returns-in-CompareNumber-clause-fewer : goal.returns-in-CompareNumber-clause-fewer
returns-in-CompareNumber-clause-fewer g c other = absurd (other refl)

pub returns-in-Compare-clause-both : goal.returns-in-Compare-clause-both
returns-in-Compare-clause-both g c rest other = absurd (other refl)

pub returns-in-Compare-clause-fewer : goal.returns-in-Compare-clause-fewer
returns-in-Compare-clause-fewer g c other = absurd (other refl)

pub returns-in-Logical-clause-both : goal.returns-in-Logical-clause-both
returns-in-Logical-clause-both g c rest other = absurd (other refl)

pub returns-in-Logical-clause-fewer : goal.returns-in-Logical-clause-fewer
returns-in-Logical-clause-fewer g c other = absurd (other refl)

pub returns-in-MultiplyAdd-clause-both : goal.returns-in-MultiplyAdd-clause-both
returns-in-MultiplyAdd-clause-both g c rest other = absurd (other refl)

pub returns-in-MultiplyAdd-clause-fewer : goal.returns-in-MultiplyAdd-clause-fewer
returns-in-MultiplyAdd-clause-fewer g c other = absurd (other refl)

pub returns-in-Constant-clause-both : goal.returns-in-Constant-clause-both
returns-in-Constant-clause-both g c rest other = absurd (other refl)

pub returns-in-Constant-clause-fewer : goal.returns-in-Constant-clause-fewer
returns-in-Constant-clause-fewer g c other = absurd (other refl)

pub returns-in-Jump-clause-both : goal.returns-in-Jump-clause-both
returns-in-Jump-clause-both g c rest other = absurd (other refl)

pub returns-in-Jump-clause-fewer : goal.returns-in-Jump-clause-fewer
returns-in-Jump-clause-fewer g c other = absurd (other refl)

pub returns-in-JumpAtZero-clause-both : goal.returns-in-JumpAtZero-clause-both
returns-in-JumpAtZero-clause-both g c rest other = absurd (other refl)

pub returns-in-JumpAtZero-clause-fewer : goal.returns-in-JumpAtZero-clause-fewer
returns-in-JumpAtZero-clause-fewer g c other = absurd (other refl)

pub returns-in-JumpElse-clause-both : goal.returns-in-JumpElse-clause-both
returns-in-JumpElse-clause-both g c rest other = absurd (other refl)

pub returns-in-JumpElse-clause-fewer : goal.returns-in-JumpElse-clause-fewer
returns-in-JumpElse-clause-fewer g c other = absurd (other refl)

pub returns-in-LessNumberJump : goal.returns-in-LessNumberJump
returns-in-LessNumberJump g c = record {
  answer = λ rest same.
      let memory = c.args.pages.now.memory in
      ap (λ p. prepared_does p (state_of c.args.core.now memory rest)) c.in-LessNumberJump.is ∙ ap (λ k. prepared_does (LessNumber c.in-LessNumberJump.rd c.in-LessNumberJump.rn k) (state_of c.args.core.now memory rest)) (sym c.from.ensures) ∙ c.less_number-in-LessNumberJump.ensures memory rest
      ∙ ap (λ k. Went (state_of k memory rest)) (sym (c.jump_too.ensures.one same));
  both = λ rest other.
      let memory = c.args.pages.now.memory in (
        refl,
        record {
          branch = JumpWhere c.in-LessNumberJump.taken c.in-LessNumberJump.place;
          is = ap branch_after c.in-LessNumberJump.is;
          middle = state_of c.less_number-in-LessNumberJump.new.core memory rest;
          first = ap (λ p. prepared_does p (state_of c.args.core.now memory rest)) c.in-LessNumberJump.is ∙ ap (λ k. prepared_does (LessNumber c.in-LessNumberJump.rd c.in-LessNumberJump.rn k) (state_of c.args.core.now memory rest)) (sym c.from.ensures) ∙ c.less_number-in-LessNumberJump.ensures memory rest;
          second = c.jump_too.ensures.two other memory rest;
        },
      );
  fewer = c.jump_too.ensures.fewer;
  past = refl;
}

pub returns-in-CompareNumberJump : goal.returns-in-CompareNumberJump
returns-in-CompareNumberJump g c = record {
  answer = λ rest same.
      let memory = c.args.pages.now.memory in
      ap (λ p. prepared_does p (state_of c.args.core.now memory rest)) c.in-CompareNumberJump.is ∙ ap (λ k. prepared_does (CompareNumber c.in-CompareNumberJump.rn k) (state_of c.args.core.now memory rest)) (sym c.from-in-CompareNumberJump.ensures) ∙ c.compare_number.ensures memory rest
      ∙ ap (λ k. Went (state_of k memory rest)) (sym (c.jump_too-in-CompareNumberJump.ensures.one same));
  both = λ rest other.
      let memory = c.args.pages.now.memory in (
        refl,
        record {
          branch = JumpWhere c.in-CompareNumberJump.taken c.in-CompareNumberJump.place;
          is = ap branch_after c.in-CompareNumberJump.is;
          middle = state_of c.compare_number.new.core memory rest;
          first = ap (λ p. prepared_does p (state_of c.args.core.now memory rest)) c.in-CompareNumberJump.is ∙ ap (λ k. prepared_does (CompareNumber c.in-CompareNumberJump.rn k) (state_of c.args.core.now memory rest)) (sym c.from-in-CompareNumberJump.ensures) ∙ c.compare_number.ensures memory rest;
          second = c.jump_too-in-CompareNumberJump.ensures.two other memory rest;
        },
      );
  fewer = c.jump_too-in-CompareNumberJump.ensures.fewer;
  past = refl;
}

pub returns-in-CompareJump : goal.returns-in-CompareJump
returns-in-CompareJump g c = record {
  answer = λ rest same.
      let memory = c.args.pages.now.memory in
      ap (λ p. prepared_does p (state_of c.args.core.now memory rest)) c.in-CompareJump.is ∙ c.compare.ensures memory rest
      ∙ ap (λ k. Went (state_of k memory rest)) (sym (c.jump_too-in-CompareJump.ensures.one same));
  both = λ rest other.
      let memory = c.args.pages.now.memory in (
        refl,
        record {
          branch = JumpWhere c.in-CompareJump.taken c.in-CompareJump.place;
          is = ap branch_after c.in-CompareJump.is;
          middle = state_of c.compare.new.core memory rest;
          first = ap (λ p. prepared_does p (state_of c.args.core.now memory rest)) c.in-CompareJump.is ∙ c.compare.ensures memory rest;
          second = c.jump_too-in-CompareJump.ensures.two other memory rest;
        },
      );
  fewer = c.jump_too-in-CompareJump.ensures.fewer;
  past = refl;
}
