use Rattle.std.proofs.Common.{◌≡◌, drop}
use Rattle.kernel_tree.specs.Plain.{accumulators_of}
use Rattle.loop_form.specs.View.{entries_view}
use Rattle.dependence.specs.Classes.{accumulator_read}
use Rattle.loop_class.proofs.updates.reads_accumulator.Given as goal

abbrev pub invariant-loop-var : goal.invariant-loop-var
invariant-loop-var l = accumulator_read (entries_view l.fn.entries) (accumulators_of (drop l.var-index l.vars)) ≡ accumulator_read (entries_view l.fn.entries) (accumulators_of l.vars)
