use Rattle.std.proofs.Common.{[]}
use Rattle.kernel_tree.specs.Plain.{program_of}
use Rattle.kernel_tree.specs.Checked.{kernel_of}
use Rattle.command_answers.specs.Works.{ended}
use Rattle.compile_command.proofs.Expectations.{compile_refusal, compile_wanted, compile_file}
use Rattle.compile_command.proofs.compile.compile_text.Goals as goal

pub returns-clause-file : goal.returns-clause-file
returns-clause-file c =
    let h = c.executable.ensures in
    compile_file c.args.text.now (program_of (kernel_of c.in_ok-kernel.kernel)) c.executable.result c.in_ok-kernel.ensures.sound h.faithful h.close h.ends h.code h.small

pub returns-clause-wanted : goal.returns-clause-wanted
returns-clause-wanted c =
    compile_wanted c.args.text.now (program_of (kernel_of c.in_ok-kernel.kernel)) (ended []) c.executable.result c.in_ok-kernel.ensures.sound c.executable.ensures.wanted

pub returns-clause-refusal : goal.returns-clause-refusal
returns-clause-refusal c =
    compile_refusal c.args.text.now (program_of (kernel_of c.in_ok-kernel.kernel)) c.executable.result c.in_ok-kernel.ensures.sound c.executable.ensures.refusal
