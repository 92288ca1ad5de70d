use Rattle.std.proofs.Common.{[], ◌∷◌}
use Rattle.std.proofs.lemmas.Result.{on_ok_weaker}
use Rattle.loop_form.specs.Needs.{needs_of}
use Rattle.loop_form.specs.View.{program}
use Rattle.reg_assign.specs.declared.interval.RegClass.TheVariants.{X}
use Rattle.promises.specs.Refusals.{IsRefusal, IsRefusalIn}
use Rattle.kernel_compile.proofs.Tried.{on_fault_too, scalar_enough, scalar_refused}
use Rattle.kernel_compile.proofs.registers.scalar_registers.Goals as goal

pub returns : goal.returns
returns c =
    let k = program c.args.kernel.now in
    record {
      fits = c.class_registers.ensures.fits;
      enough = on_ok_weaker c.class_registers.result (λ e. scalar_enough k c.requires.class e) c.class_registers.ensures.enough;
      refusal = on_fault_too (IsRefusalIn (needs_of k) (X ∷ [])) (IsRefusal k) c.class_registers.result (λ fault h. scalar_refused k fault c.requires.class h) c.class_registers.ensures.refusal;
    }
