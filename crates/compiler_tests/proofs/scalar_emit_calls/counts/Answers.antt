use Rattle.std.proofs.Common.{◌∙◌}
use Rattle.loop_form.specs.View.{program}
use Rattle.compiler_tests.proofs.scalar_emit_calls.counts.Goals as goal

pub emit_begin-requires-clause-listed : goal.emit_begin-requires-clause-listed
unfolding program
emit_begin-requires-clause-listed g c = c.deref.ensures.value ∙ c.in_ok-items.ensures

pub emit_scalar-requires-clause-listed : goal.emit_scalar-requires-clause-listed
unfolding program
emit_scalar-requires-clause-listed g c = c.deref-2.ensures.value ∙ c.in_ok-items.ensures
