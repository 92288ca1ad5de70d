use Rattle.std.proofs.Common.{length, sym, subst, ap, ◌∙◌, ◌≤◌}
use Rattle.std.proofs.lemmas.Result.{IfOk-at_ok}
use Rattle.kernel_tree.specs.Plain.{Program, program_of}
use Rattle.kernel_tree.specs.Typing.{empty}
use Rattle.loop_form.specs.View.{program}
use Rattle.scalar_words.specs.KernelRegisters.{register_in, kernel_homes}
use Rattle.scalar_words.proofs.names.kernel_homes.Goals as goal

pub each_has_a_register-requires : goal.each_has_a_register-requires
each_has_a_register-requires c = record { fits = c.requires.fits }

pub declare_names-declared-requires : goal.declare_names-declared-requires
unfolding program
declare_names-declared-requires c =
    let same = sym (ap program_of c.kernel-tree.ensures) in
    record {
      assigned = c.requires.fits.assigned;
      vars = subst (λ (k : Program). length k.vars ≤ length c.args.regs.now.registers) same c.each_has_a_register.ensures.vars;
      params = subst (λ (k : Program). length k.params ≤ 8) same c.few_params.ensures;
      scope = c.empty-scope.ensures ∙ ap empty c.loop_index.ensures;
      homes = c.new-homes.ensures.items;
    }

pub returns-in-Ok : goal.returns-in-Ok
unfolding program
returns-in-Ok c =
    IfOk-at_ok _ c.in-Ok.is c.declare_names-declared.ensures.homes
    ∙ ap (λ (k : Program). kernel_homes (register_in c.args.regs.now) k) (ap program_of c.kernel-tree.ensures)

pub returns : goal.returns
unfolding program
returns c = tt
