use Rattle.std.proofs.lemmas.Result.{IfOk-from_err}
use Rattle.loop_form.specs.View.{program}
use Rattle.promises.specs.Refusals.{IsRefusal}
use Rattle.guest_types.proofs.Errors.{on_error}
use Rattle.kernel_compile.proofs.Tried.{on_fault, vector_enough, refused_at_z, refused_at_p, refused_at_x}
use Rattle.kernel_compile.proofs.registers.vector_registers.Goals as goal

pub returns-in_err-z : goal.returns-in_err-z
returns-in_err-z c =
    let k = program c.args.kernel.now in
    let fault = c.in_err-z.field-0.0 in
    let failed = c.from_residual.ensures.0 in
    record {
      vectors = IfOk-from_err _ _ failed;
      predicates = IfOk-from_err _ _ failed;
      scalars = IfOk-from_err _ _ failed;
      enough = on_error _ _ failed;
      refusal = on_fault (IsRefusal k) fault _ c.from_residual.ensures.1 (refused_at_z k fault c.requires.class c.in_err-z.ensures.refusal);
    }

pub returns-in_err-p : goal.returns-in_err-p
returns-in_err-p c =
    let k = program c.args.kernel.now in
    let fault = c.in_err-p.field-0.0 in
    let failed = c.from_residual-in_err-p.ensures.0 in
    record {
      vectors = IfOk-from_err _ _ failed;
      predicates = IfOk-from_err _ _ failed;
      scalars = IfOk-from_err _ _ failed;
      enough = on_error _ _ failed;
      refusal = on_fault (IsRefusal k) fault _ c.from_residual-in_err-p.ensures.1 (refused_at_p k fault c.requires.class c.in_ok-z.ensures.enough c.in_err-p.ensures.refusal);
    }

pub returns-in_err-x : goal.returns-in_err-x
returns-in_err-x c =
    let k = program c.args.kernel.now in
    let fault = c.in_err-x.field-0.0 in
    let failed = c.from_residual-in_err-x.ensures.0 in
    record {
      vectors = IfOk-from_err _ _ failed;
      predicates = IfOk-from_err _ _ failed;
      scalars = IfOk-from_err _ _ failed;
      enough = on_error _ _ failed;
      refusal = on_fault (IsRefusal k) fault _ c.from_residual-in_err-x.ensures.1 (refused_at_x k fault c.requires.class c.in_ok-z.ensures.enough c.in_ok-p.ensures.enough c.in_err-x.ensures.refusal);
    }

pub returns : goal.returns
returns c = record {
  vectors = c.in_ok-z.ensures.fits;
  predicates = c.in_ok-p.ensures.fits;
  scalars = c.in_ok-x.ensures.fits;
  enough = vector_enough (program c.args.kernel.now) c.requires.class c.in_ok-z.ensures.enough c.in_ok-p.ensures.enough c.in_ok-x.ensures.enough;
  refusal = tt;
}
