-- The names that parameters and accumulators declare.
use Rattle.std.specs.Prelude.{List, map}
use Rattle.kernel_tree.specs.declared.fault.Binding.TheVariants as binding
use Rattle.kernel_tree.specs.Plain.{Parameter, Accumulator}
use Rattle.kernel_tree.specs.Typing.{Local, local, binding_of_shape}

abbrev pub param_local : Parameter → Local
param_local p = local p.name (binding_of_shape p.shape)

abbrev pub var_local : Accumulator → Local
var_local v = local v.name (binding.Accumulator v.type)

abbrev pub locals_of : List Parameter → List Local
locals_of ps = map param_local ps

abbrev pub accs_of : List Accumulator → List Local
accs_of vs = map var_local vs
