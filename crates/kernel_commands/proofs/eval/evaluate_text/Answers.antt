use Rattle.kernel_tree.specs.Plain.{program_of}
use Rattle.kernel_tree.specs.Checked.{kernel_of}
use Rattle.command_line.specs.View.{task_view}
use Rattle.kernel_commands.specs.Commands.{eval_kernel}
use Rattle.kernel_commands.proofs.Expectations.{eval_work, eval_refusal}
use Rattle.kernel_commands.proofs.eval.evaluate_text.Goals as goal

pub returns-clause-work : goal.returns-clause-work
returns-clause-work c =
    eval_work (eval_kernel (task_view c.args.task.now) c.args.map.now) c.args.text.now (program_of (kernel_of c.in_ok-kernel.kernel)) c.evaluate.result
    c.in_ok-kernel.ensures.sound c.evaluate.ensures.work

pub returns-clause-refusal : goal.returns-clause-refusal
returns-clause-refusal c =
    eval_refusal (eval_kernel (task_view c.args.task.now) c.args.map.now) c.args.text.now (program_of (kernel_of c.in_ok-kernel.kernel)) c.evaluate.result
    c.in_ok-kernel.ensures.sound c.evaluate.ensures.refusal c.evaluate.ensures.of_eval
