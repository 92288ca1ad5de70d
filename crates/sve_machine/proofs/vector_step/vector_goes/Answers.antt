use Rattle.sve_machine.proofs.RowAnswers.{answer_as, in_registers, goes_by}
use Rattle.std.proofs.Common.{refl}
use Rattle.machine_model.specs.OneStep.{does}
use Rattle.machine_model.specs.InstructionTable.{Vector}
use Rattle.sve_code.specs.View.{instruction_view}
use Rattle.a64_machine.specs.Cores.{state_of}
use Rattle.sve_machine.proofs.vector_step.vector_goes.Goals as goal

pub returns-in-ContiguousLoad : goal.returns-in-ContiguousLoad
returns-in-ContiguousLoad c = record {
  answer = answer_as _ _ _ _ _ c.in-ContiguousLoad.is c.contiguous_load.ensures;
  past = refl;
}

pub returns-in-FirstFaultLoad : goal.returns-in-FirstFaultLoad
returns-in-FirstFaultLoad c = record {
  answer = answer_as _ _ _ _ _ c.in-FirstFaultLoad.is c.first_fault_load.ensures;
  past = refl;
}

pub returns-in-NonFaultLoad : goal.returns-in-NonFaultLoad
returns-in-NonFaultLoad c = record {
  answer = answer_as _ _ _ _ _ c.in-NonFaultLoad.is c.non_fault_load.ensures;
  past = refl;
}

pub returns-in-GatherLoad : goal.returns-in-GatherLoad
returns-in-GatherLoad c = record {
  answer = answer_as _ _ _ _ _ c.in-GatherLoad.is c.gather_load.ensures;
  past = refl;
}

pub returns-in-ContiguousStore : goal.returns-in-ContiguousStore
returns-in-ContiguousStore c = record {
  answer = answer_as _ _ _ _ _ c.in-ContiguousStore.is c.contiguous_store.ensures.answer;
  past = c.contiguous_store.ensures.past;
}

pub returns-in_default : goal.returns-in_default
returns-in_default c =
    let left = c.in_registers.new in
    let no = c.in_default in
    record {
      answer =
          goes_by (does (Vector (instruction_view c.args.word)) (state_of c.args.core.now c.args.pages.now.memory c.args.vectors.now)) c.in_registers.result c.args.answer.now
          (state_of c.args.core.now c.args.pages.now.memory c.args.vectors.now) (state_of left.core c.args.pages.now.memory left.vectors)
          c.in_registers.ensures.goes_on
          (c.in_registers.ensures.went c.args.pages.now.memory (in_registers c.args.word no.not-ContiguousLoad no.not-FirstFaultLoad no.not-NonFaultLoad no.not-GatherLoad no.not-ContiguousStore));
      past = refl;
    }
