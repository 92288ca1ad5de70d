use Rattle.std.proofs.Common.{◌≡◌, Err, refl, ap}
use Rattle.lane_memory.specs.Gathers.{gather_of}
use Rattle.sve_machine.specs.VectorStates.{p_of, z_of, put_load}
use Rattle.guest_types.proofs.Errors.{on_error, in_error}
use Rattle.sve_machine.proofs.Errors.{error_is}
use Rattle.sve_machine.proofs.vectors.Vectors.gather.Goals as goal

pub returns-in_err-gathered : goal.returns-in_err-gathered
returns-in_err-gathered c =
    let own = c.args.self.now in
    record {
      done = on_error _ _ c.from_residual.ensures.0;
      refused =
          error_is (λ fault. put_load (gather_of c.args.row.dtype c.args.base own.vl c.args.pages.now.memory own.stops (z_of own c.args.zm) (p_of own c.args.pg) own.ffr) c.args.zt own ≡ Err fault) c.in_err-gathered.field-0.0 c.from_residual.result
          (ap (λ left. put_load left c.args.zt own) c.in_err-gathered.ensures.refused) c.from_residual.ensures.1;
      unchanged = in_error c.from_residual.result refl;
    }
