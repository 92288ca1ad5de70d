use Rattle.std.proofs.Common.{◌≡◌, ◌+◌, ◌++◌, drop}
use Rattle.std.specs.Prelude.{length, map}
use Rattle.kernel_tree.specs.Plain.{parameters_of}
use Rattle.kernel_tree.specs.Scopes.{param_local}
use Rattle.loop_form.specs.LoopItems.{outer_env}
use Rattle.loop_form.specs.LoopView.{locals, env_of}
use Rattle.loop_items.proofs.loop_names.add_params.Given as goal

abbrev pub invariant-loop-param : goal.invariant-loop-param
invariant-loop-param l = record {
  locals : locals l.names.items ++ map param_local (parameters_of (drop l.param-index l.params)) ≡ locals l.fn.names.items ++ map param_local (parameters_of l.params);
  env : env_of l.names.items ++ outer_env (length l.names.items) (map param_local (parameters_of (drop l.param-index l.params))) ≡ env_of l.fn.names.items ++ outer_env (length l.fn.names.items) (map param_local (parameters_of l.params));
  len : length l.names.items ≡ length l.fn.names.items + l.param-index;
}
