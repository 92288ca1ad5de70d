use Rattle.std.proofs.Common.{◌∙◌, subst}
use Rattle.command_line.specs.View.{task_view}
use Rattle.program_commands.specs.Ready.{BeginsProgram}
use Rattle.program_commands.proofs.Programs.{session_not_begun, session_begun, same_start}
use Rattle.program_commands.proofs.debug.debugger_of.Goals as goal

pub returns-in_err-machine-clause-refusal : goal.returns-in_err-machine-clause-refusal
returns-in_err-machine-clause-refusal c =
    session_not_begun c.args.vl (task_view c.args.task.now) c.args.bytes.now c.args.map.now c.in_err-machine.field-0.0 c.from_residual.result c.from_residual.ensures.1 c.in_err-machine.ensures.refusal

pub returns-clause-begins : goal.returns-clause-begins
returns-clause-begins c =
    let ready = subst (λ stops. BeginsProgram c.args.vl stops (task_view c.args.task.now) c.args.bytes.now c.args.map.now c.in_ok-machine.machine) c.none.ensures c.in_ok-machine.ensures.ready in
    record {
      begin = c.in_ok-machine.machine.state;
      image = ready.image;
      pages = ready.pages;
      loads = ready.loads;
      maps = ready.maps;
      at_start = ready.state ∙ same_start c.args.vl (task_view c.args.task.now) ready.image ready.pages;
      stands = c.in_ok-debugger.ensures;
      wanted = session_begun c.args.vl (task_view c.args.task.now) c.args.bytes.now c.args.map.now c.in_ok-machine.machine ready;
    }
