use Rattle.std.proofs.Common.{◌<◌, ◌≤◌, ◌^◌, [], ◌∷◌, length, ap, sym, ◌∙◌, subst}
use Rattle.std.proofs.lemmas.Result.{IfOk-from_err}
use Rattle.reg_assign.specs.Intervals.{Ascend, need_of}
use Rattle.reg_assign.specs.Registers.{IsAssignment, IsRefusal}
use Rattle.loop_form.specs.Needs.{needs_of}
use Rattle.loop_form.specs.View.{program}
use Rattle.promises.specs.declared.fault.CompileFault.TheVariants.{Memory}
use Rattle.promises.specs.Refusals.{IsRefusalIn}
use Rattle.guest_types.proofs.Errors.{on_error}
use Rattle.kernel_compile.proofs.Tried.{some_registers, enough_in, refused_in, on_fault}
use Rattle.kernel_compile.proofs.registers.class_registers.Goals as goal

pub returns-in_err-intervals : goal.returns-in_err-intervals
returns-in_err-intervals c =
    let failed = c.from_residual.ensures.0 in
    record {
      fits = IfOk-from_err _ _ failed;
      enough = on_error _ _ failed;
      refusal = on_fault (IsRefusalIn (needs_of (program c.args.kernel.now)) (c.args.class ∷ [])) Memory _ c.from_residual.ensures.1 tt;
    }

pub assign-requires : goal.assign-requires
unfolding program
assign-requires c =
    let same = c.deref.ensures.value ∙ c.in_ok-intervals.ensures in
    record {
      some = subst (λ n. 1 ≤ n) (sym c.counted_registers.ensures) (some_registers c.args.class);
      few = subst (λ is. length is < 2 ^ 32) (sym same) c.ordered_intervals.ensures.few;
      ascending = subst Ascend (sym same) c.ordered_intervals.ensures.ascending;
    }

pub returns-in-Ok : goal.returns-in-Ok
unfolding program
returns-in-Ok c =
    let same = c.deref.ensures.value ∙ c.in_ok-intervals.ensures in
    record {
      fits = record { intervals = c.in-Ok.ensures.kept ∙ same; assigned = subst (λ n. IsAssignment n c.in-Ok.assigned) c.counted_registers.ensures c.in-Ok.ensures.fits };
      enough =
          enough_in (program c.args.kernel.now) c.args.class c.counted_registers.result (need_of c.deref.result.now)
          c.counted_registers.ensures (ap need_of same ∙ c.ordered_intervals.ensures.need) c.in-Ok.ensures.enough;
      refusal = tt;
    }

pub returns-in-Err-Memory : goal.returns-in-Err-Memory
returns-in-Err-Memory c = record { fits = tt; enough = tt; refusal = tt }

pub returns : goal.returns
unfolding program
returns c =
    let same = c.deref.ensures.value ∙ c.in_ok-intervals.ensures in
    let refused = subst (IsRefusal c.args.class c.deref.result.now c.counted_registers.result) c.in-Err-TooMany.field-0-is c.in-Err-TooMany.ensures.refusal in
    record {
      fits = tt;
      enough = tt;
      refusal =
          refused_in (program c.args.kernel.now) c.args.class c.in-Err-TooMany.class c.counted_registers.result (need_of c.deref.result.now) c.in-Err-TooMany.need
          c.counted_registers.ensures (ap need_of same ∙ c.ordered_intervals.ensures.need) refused.0 refused.1 refused.2;
    }
