use Rattle.kernel_types.proofs.checker.check.Goals as goal

pub returns-in-Ok : goal.returns-in-Ok
returns-in-Ok c =
    record { ok = c.in-Ok.ensures.ok; kernel = c.new.ensures; refused = tt }

pub returns-in-Err : goal.returns-in-Err
returns-in-Err c =
    record { ok = tt; kernel = tt; refused = c.in-Err.ensures.refused }
