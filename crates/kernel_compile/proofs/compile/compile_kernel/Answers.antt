use Rattle.std.proofs.Common.{◌≤◌, length}
use Rattle.kernel_tree.specs.declared.checked.Checked.{Checked}
use Rattle.kernel_tree.specs.Checked.{kernel_of}
use Rattle.kernel_tree.specs.Plain.{program_of}
use Rattle.loop_form.specs.View.{program}
use Rattle.machine_model.specs.Written.{file_of}
use Rattle.kernel_compile.proofs.compile.compile_kernel.Goals as goal

few : (kernel : Checked) → length (program_of (kernel_of kernel)).params ≤ 8 → length (program kernel).params ≤ 8
unfolding program
few kernel h = h

pub returns-clause-faithful : goal.returns-clause-faithful
returns-clause-faithful c =
    c.faithful_files.ensures.close (program c.args.kernel.now) (file_of c.in_ok-words.words.items) (few c.args.kernel.now c.few_params.ensures) c.in_ok-words.ensures.close
