use Rattle.std.proofs.Common.{sym, subst}
use Rattle.kernel_tree.specs.Plain.{program_of}
use Rattle.kernel_tree.specs.Checked.{kernel_of}
use Rattle.kernel_commands.specs.Kernels.{ByVerdict}
use Rattle.kernel_commands.specs.Commands.{checked}
use Rattle.command_answers.specs.Works.{ended}
use Rattle.kernel_commands.proofs.Expectations.{sound_text}
use Rattle.kernel_commands.proofs.check.check_kernel.Goals as goal

pub returns-clause-wanted : goal.returns-clause-wanted
returns-clause-wanted c =
    subst (λ t. ByVerdict checked c.args.text.now (ended t)) (sym c.in_ok-report.ensures)
    (sound_text checked c.args.text.now (program_of (kernel_of c.in_ok-kernel.kernel)) c.in_ok-kernel.ensures.sound)
