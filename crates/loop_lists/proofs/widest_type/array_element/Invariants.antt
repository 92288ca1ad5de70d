use Rattle.std.proofs.Common.{◌≡◌, drop}
use Rattle.kernel_tree.specs.Plain.{parameters_of}
use Rattle.loop_form.specs.Lanes.{type_of_array}
use Rattle.loop_lists.proofs.widest_type.array_element.Given as goal

abbrev pub invariant-loop-param : goal.invariant-loop-param
invariant-loop-param l = type_of_array l.array (parameters_of (drop l.param-index l.params)) ≡ type_of_array l.array (parameters_of l.params)
