use Rattle.std.proofs.Common.{◌≡◌, List, ◌++◌, drop}
use Rattle.std.specs.Prelude.{string_bytes}
use Rattle.kernel_tree.specs.TextToken.{TextToken}
use Rattle.kernel_tree.specs.Plain.{parameters_of}
use Rattle.kernel_tree.specs.Printing.{spaced, print_others}
use Rattle.kernel_print.proofs.parts.put_others.Given as goal

abbrev pub invariant-loop-param : goal.invariant-loop-param
invariant-loop-param l = (rest : List TextToken) → string_bytes l.out ++ spaced (print_others (parameters_of (drop l.param-index l.others)) rest) ≡ string_bytes l.fn.out ++ spaced (print_others (parameters_of l.others) rest)
