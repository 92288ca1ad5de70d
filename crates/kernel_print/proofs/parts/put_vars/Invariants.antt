use Rattle.std.proofs.Common.{◌≡◌, List, ◌++◌, drop}
use Rattle.std.specs.Prelude.{string_bytes}
use Rattle.kernel_tree.specs.TextToken.{TextToken}
use Rattle.kernel_tree.specs.Plain.{accumulators_of}
use Rattle.kernel_tree.specs.Printing.{spaced, print_vars}
use Rattle.kernel_print.proofs.parts.put_vars.Given as goal

abbrev pub invariant-loop-var : goal.invariant-loop-var
invariant-loop-var l = (rest : List TextToken) → string_bytes l.out ++ spaced (print_vars (accumulators_of (drop l.var-index l.vars)) rest) ≡ string_bytes l.fn.out ++ spaced (print_vars (accumulators_of l.vars) rest)
