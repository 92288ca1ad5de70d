use Rattle.std.proofs.Common.{sym, ap, ◌∙◌, subst}
use Rattle.kernel_tree.specs.Plain.{program_of}
use Rattle.kernel_tree.specs.Checked.{kernel_of}
use Rattle.loop_form.specs.View.{program}
use Rattle.machine_model.specs.Written.{file_of}
use Rattle.promises.specs.Faithful.{FreeFaithful, FreeEnds, CloseFaithful}
use Rattle.compile_command.specs.Compiles.{compiled_by, RefusesCompile}
use Rattle.compile_command.proofs.Expectations.{refuses_compile}
use Rattle.compile_command.proofs.compile.executable.Goals as goal

pub returns-in-Err-clause-refusal : goal.returns-in-Err-clause-refusal
unfolding program
returns-in-Err-clause-refusal c =
    subst (RefusesCompile (program_of (kernel_of c.args.kernel.now))) (sym c.of_compile.ensures)
    (refuses_compile (program_of (kernel_of c.args.kernel.now)) c.in-Err.fault c.in-Err.ensures.refusal)

pub returns-clause-faithful : goal.returns-clause-faithful
unfolding program
returns-clause-faithful c =
    subst (FreeFaithful (program_of (kernel_of c.args.kernel.now))) (sym (c.in_ok-file.ensures.file ∙ ap file_of c.deref.ensures.value)) c.in-Ok.ensures.faithful

pub returns-clause-close : goal.returns-clause-close
unfolding program
returns-clause-close c =
    subst (CloseFaithful (program_of (kernel_of c.args.kernel.now))) (sym (c.in_ok-file.ensures.file ∙ ap file_of c.deref.ensures.value)) c.in-Ok.ensures.close

pub returns-clause-ends : goal.returns-clause-ends
unfolding program
returns-clause-ends c =
    subst (FreeEnds (program_of (kernel_of c.args.kernel.now))) (sym (c.in_ok-file.ensures.file ∙ ap file_of c.deref.ensures.value)) c.in-Ok.ensures.ends

pub returns-clause-wanted : goal.returns-clause-wanted
unfolding program
returns-clause-wanted c = ap (compiled_by (program_of (kernel_of c.args.kernel.now))) c.in-Ok.ensures.enough

pub returns-clause-code : goal.returns-clause-code
unfolding program
returns-clause-code c = record {
  words = c.in-Ok.code.words.items;
  few = c.in-Ok.ensures.short;
  file_is = c.in_ok-file.ensures.file ∙ ap file_of c.deref.ensures.value;
  reserved = c.in-Ok.ensures.reserved;
  one_exit = c.in-Ok.ensures.one_exit;
}
