use Rattle.std.proofs.Common.{◌≡◌, ◌+◌, ◌++◌, drop}
use Rattle.std.specs.Prelude.{length, map}
use Rattle.kernel_tree.specs.Plain.{accumulators_of}
use Rattle.kernel_tree.specs.Scopes.{var_local}
use Rattle.loop_form.specs.LoopItems.{outer_env}
use Rattle.loop_form.specs.LoopView.{locals, env_of}
use Rattle.loop_items.proofs.loop_names.add_vars.Given as goal

abbrev pub invariant-loop-var : goal.invariant-loop-var
invariant-loop-var l = record {
  locals : locals l.names.items ++ map var_local (accumulators_of (drop l.var-index l.vars)) ≡ locals l.fn.names.items ++ map var_local (accumulators_of l.vars);
  env : env_of l.names.items ++ outer_env (length l.names.items) (map var_local (accumulators_of (drop l.var-index l.vars))) ≡ env_of l.fn.names.items ++ outer_env (length l.fn.names.items) (map var_local (accumulators_of l.vars));
  len : length l.names.items ≡ length l.fn.names.items + l.var-index;
}
