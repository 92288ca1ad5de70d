use Rattle.std.proofs.Common.{[]}
use Rattle.kernel_tree.specs.Plain.{program_of}
use Rattle.kernel_tree.specs.Checked.{kernel_of}
use Rattle.command_answers.specs.Works.{ended}
use Rattle.compile_command.proofs.Expectations.{compile_refusal, compile_wanted}
use Rattle.object_command.proofs.Made.{object_made}
use Rattle.object_command.proofs.object.object_text.Goals as goal

pub returns-clause-file : goal.returns-clause-file
returns-clause-file c =
    object_made c.args.text.now (program_of (kernel_of c.in_ok-kernel.kernel)) c.made.result c.in_ok-kernel.ensures.sound c.made.ensures.object

pub returns-clause-wanted : goal.returns-clause-wanted
returns-clause-wanted c =
    compile_wanted c.args.text.now (program_of (kernel_of c.in_ok-kernel.kernel)) (ended []) c.made.result c.in_ok-kernel.ensures.sound c.made.ensures.wanted

pub returns-clause-refusal : goal.returns-clause-refusal
returns-clause-refusal c =
    compile_refusal c.args.text.now (program_of (kernel_of c.in_ok-kernel.kernel)) c.made.result c.in_ok-kernel.ensures.sound c.made.ensures.refusal
