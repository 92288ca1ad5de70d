use Rattle.std.proofs.Common.{◌≡◌, sym, ap, ◌∙◌, subst}
use Rattle.kernel_tree.specs.declared.ast.Kernel.{Kernel}
use Rattle.kernel_tree.specs.Plain.{name_of, program_of}
use Rattle.object_file.specs.Object.{IsObject}
use Rattle.kernel_tree.specs.Checked.{kernel_of}
use Rattle.loop_form.specs.View.{program}
use Rattle.compile_command.specs.Compiles.{compiled_by, RefusesCompile}
use Rattle.compile_command.proofs.Expectations.{refuses_compile}
use Rattle.object_command.proofs.object.made.Goals as goal

pub returns-in-Err-clause-refusal : goal.returns-in-Err-clause-refusal
unfolding program
returns-in-Err-clause-refusal c =
    subst (RefusesCompile (program_of (kernel_of c.args.kernel.now))) (sym c.of_compile.ensures)
    (refuses_compile (program_of (kernel_of c.args.kernel.now)) c.in-Err.fault c.in-Err.ensures.refusal)

pub returns-clause-wanted : goal.returns-clause-wanted
unfolding program
returns-clause-wanted c = ap (compiled_by (program_of (kernel_of c.args.kernel.now))) c.in-Ok.ensures.enough

pub returns-clause-object : goal.returns-clause-object
unfolding program
returns-clause-object c =
    let k = program_of (kernel_of c.args.kernel.now) in
    let name : c.as_bytes.result.now ≡ k.name = c.as_bytes.ensures.value ∙ c.text.ensures ∙ ap (λ (n : Kernel). name_of n.name) c.kernel.ensures in
    let code = c.deref.ensures.value in
    record {
      words = c.in-Ok.code.words.items;
      object = subst (λ n. IsObject n c.in-Ok.code.words.items c.in_ok-file.file.items) name (subst (λ ws. IsObject c.as_bytes.result.now ws c.in_ok-file.file.items) code c.in_ok-file.ensures.object);
      close = c.in-Ok.ensures.close;
      ends = c.in-Ok.ensures.ends;
      short = c.in-Ok.ensures.short;
    }
