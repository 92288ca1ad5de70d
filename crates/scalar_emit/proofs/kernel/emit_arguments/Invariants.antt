use Rattle.std.proofs.Common.{◌≡◌, List, ◌++◌, drop}
use Rattle.kernel_tree.specs.Plain.{parameters_of}
use Rattle.label_fix.specs.DraftRun as plain
use Rattle.loop_code.specs.Kernel as kernels
use Rattle.scalar_emit.proofs.kernel.emit_arguments.Given as goal

abbrev pub invariant-loop-param : goal.invariant-loop-param
invariant-loop-param l = record {
  place : l.place ≡ l.param-index;
  labels : l.draft.labels ≡ l.fn.draft.labels;
  code : (rest : List plain.DraftEntry) → l.draft.entries ++ kernels.arguments_code l.place (parameters_of (drop l.param-index l.params)) rest ≡ l.fn.draft.entries ++ kernels.arguments_code 0 (parameters_of l.params) rest;
}
