use Rattle.std.proofs.Common.{sym, ◌∙◌, subst}
use Rattle.loop_form.specs.LoopView.{view}
use Rattle.chunk_emit.specs.Writable.{AreWritable}
use Rattle.chunk_emit.specs.View.{width_in}
use Rattle.chunk_pass.proofs.PassWhole.{all_rest}
use Rattle.vector_emit.proofs.passes.emit_by.Goals as goal

pub emit_straight-requires-clause-writable : goal.emit_straight-requires-clause-writable
emit_straight-requires-clause-writable c = subst (AreWritable (width_in c.args.layout.now)) (all_rest (view c.args.items.now) (sym c.has_break.ensures ∙ c.if-has_break.false)) c.requires.rest
