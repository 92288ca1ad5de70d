use Rattle.std.proofs.Common.{refl, ap, ◌∙◌, ◌++◌}
use Rattle.loop_form.specs.LoopView.{view_of}
use Rattle.chunk_emit.specs.View.{layout_in, width_in}
use Rattle.chunk_emit.proofs.StepCode.{done_puts, written_puts, writable_at}
use Rattle.chunk_emit.proofs.items.emit_at.Goals as goal

pub returns-then-done-clause-code : goal.returns-then-done-clause-code
returns-then-done-clause-code c rest = ap (λ e. c.args.draft.now.entries ++ e) (done_puts (width_in c.args.layout.now) (layout_in c.args.layout.now) c.args.done c.args.items.now c.args.place rest c.if-done.true)

pub emit_one-requires : goal.emit_one-requires
emit_one-requires c = writable_at (width_in c.args.layout.now) c.args.items.now c.args.place _ (view_of c.choose-takes.result.0) c.item_at.result _ c.requires.within refl c.item_at.ensures c.choose-takes.ensures.item c.requires.writable

pub returns-clause-code : goal.returns-clause-code
returns-clause-code c rest =
    c.in_ok-emit_one.ensures.code _
    ∙ ap (λ e. c.args.draft.now.entries ++ e) (written_puts (width_in c.args.layout.now) (layout_in c.args.layout.now) c.args.done c.choose-takes.result.1 c.args.items.now c.args.place _ (view_of c.choose-takes.result.0) c.item_at.result _ rest c.if-done.false c.requires.within refl c.item_at.ensures c.choose-takes.ensures.item c.choose-takes.ensures.next)
