use Rattle.std.proofs.Common.{◌≡◌, Ok, Err, [], get_or, sym, ap, ◌∙◌, subst, arith}
use Rattle.std.specs.Prelude.{slice_set}
use Rattle.a64_machine.specs.Cores.{VectorState}
use Rattle.lane_memory.specs.Loads.{load_of}
use Rattle.sve_machine.specs.VectorStates.{IsVectorState, vector_state_of, p_of, put_load}
use Rattle.sve_machine.proofs.Loads.{load_shape, load_put, load_done, load_refused, load_kept}
use Rattle.sve_machine.proofs.BankShapes.{mask_back}
use Rattle.guest_types.proofs.Errors.{on_error, in_error}
use Rattle.sve_machine.proofs.Errors.{error_is}
use Rattle.sve_machine.proofs.vectors.Vectors.load.Goals as goal

pub invariant_of-self-2 : goal.invariant_of-self-2
invariant_of-self-2 c =
    let own = c.self.inside in
    let after = c.load_into.new in
    subst (λ p. IsVectorState (vector_state_of (slice_set own.z c.args.zt after.out) p after.ffr own.vl after.stops)) (sym (mask_back own.p c.args.pg))
    (load_put own.z own.p own.ffr own.vl own.stops after.ffr after.stops c.args.zt after.out c.self.invariant
    (load_shape c.args.load.now.mode c.args.load.now.row.dtype c.args.load.now.base c.args.load.now.index own.vl c.args.pages.now.memory own.stops (get_or own.p c.args.pg (record { bits = [] })).bits own.ffr.bits _
    c.self.invariant.sized c.self.invariant.ffr_is c.in_ok-load_into.ensures.done))

pub returns-clause-done : goal.returns-clause-done
returns-clause-done c =
    let own = c.self.inside in
    let after = c.load_into.new in
    subst (λ (r : VectorState). put_load (load_of c.args.load.now.mode c.args.load.now.row.dtype c.args.load.now.base c.args.load.now.index r.vl c.args.pages.now.memory r.stops (p_of r c.args.pg) r.ffr) c.args.zt r ≡ Ok (vector_state_of (slice_set own.z c.args.zt after.out) own.p after.ffr own.vl after.stops))
    c.self.view_is
    (load_done c.args.load.now.mode c.args.load.now.row.dtype c.args.load.now.base c.args.load.now.index c.args.pages.now.memory own.z own.p own.ffr own.vl own.stops c.args.pg c.args.zt after.ffr after.stops after.out c.in_ok-load_into.ensures.done)
    ∙ ap Ok (ap (λ p. vector_state_of (slice_set own.z c.args.zt after.out) p after.ffr own.vl after.stops) (sym (mask_back own.p c.args.pg)))

pub bounds-self-inside-pg : goal.bounds-self-inside-pg
bounds-self-inside-pg c = c.requires.predicate

pub bounds-self-inside-zt : goal.bounds-self-inside-zt
bounds-self-inside-zt c = c.requires.register

pub invariant_of-self : goal.invariant_of-self
invariant_of-self c =
    let own = c.self.inside in
    let after = c.load_into.new in
    subst (λ p. IsVectorState (vector_state_of (slice_set own.z c.args.zt after.out) p after.ffr own.vl after.stops)) (sym (mask_back own.p c.args.pg))
    (subst IsVectorState (sym (load_kept own.z own.p own.ffr own.vl own.stops after.ffr after.stops c.args.zt after.out c.in_err-load_into.ensures.unchanged)) c.self.invariant)

pub returns-in_err-load_into : goal.returns-in_err-load_into
returns-in_err-load_into c =
    let own = c.self.inside in
    let after = c.load_into.new in
    record {
      done = on_error _ _ c.from_residual.ensures.0;
      refused =
          error_is (λ fault. put_load (load_of c.args.load.now.mode c.args.load.now.row.dtype c.args.load.now.base c.args.load.now.index c.args.self.now.vl c.args.pages.now.memory c.args.self.now.stops (p_of c.args.self.now c.args.pg) c.args.self.now.ffr) c.args.zt c.args.self.now ≡ Err fault) c.in_err-load_into.field-0.0 c.from_residual.result
          (subst (λ (r : VectorState). put_load (load_of c.args.load.now.mode c.args.load.now.row.dtype c.args.load.now.base c.args.load.now.index r.vl c.args.pages.now.memory r.stops (p_of r c.args.pg) r.ffr) c.args.zt r ≡ Err c.in_err-load_into.field-0.0)
          c.self.view_is
          (load_refused c.args.load.now.mode c.args.load.now.row.dtype c.args.load.now.base c.args.load.now.index c.args.pages.now.memory own.z own.p own.ffr own.vl own.stops c.args.pg c.args.zt c.in_err-load_into.field-0.0 c.in_err-load_into.ensures.refused))
          c.from_residual.ensures.1;
      unchanged =
          in_error c.from_residual.result
          (ap (λ p. vector_state_of (slice_set own.z c.args.zt after.out) p after.ffr own.vl after.stops) (mask_back own.p c.args.pg)
          ∙ load_kept own.z own.p own.ffr own.vl own.stops after.ffr after.stops c.args.zt after.out c.in_err-load_into.ensures.unchanged ∙ c.self.view_is);
    }

pub returns-clause-refused : goal.returns-clause-refused
returns-clause-refused c = tt

pub returns-clause-unchanged : goal.returns-clause-unchanged
returns-clause-unchanged c = tt

pub offset_bounds-self-inside-pg : goal.offset_bounds-self-inside-pg
offset_bounds-self-inside-pg c = omega (arith, c.requires.predicate)

pub offset_bounds-self-inside-zt : goal.offset_bounds-self-inside-zt
offset_bounds-self-inside-zt c = omega (arith, c.requires.register)
