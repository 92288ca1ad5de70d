use Rattle.std.proofs.Common.{◌≡◌, drop}
use Rattle.kernel_tree.specs.Plain.{parameters_of}
use Rattle.loop_form.specs.Streams.{place_from}
use Rattle.loop_form.proofs.names.param_place.Given as goal

abbrev pub invariant-loop-param : goal.invariant-loop-param
invariant-loop-param l = record {
  place : l.place ≡ l.param-index;
  rest : place_from l.name l.place (parameters_of (drop l.param-index l.params)) ≡ place_from l.name 0 (parameters_of l.params);
}
