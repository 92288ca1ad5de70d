use Rattle.std.proofs.Common.{[], ◌++◌, if◌then◌else◌, refl, sym, ap, ◌∙◌}
use Rattle.guest_types.specs.declared.length.Width.{Width}
use Rattle.guest_types.proofs.Errors.{on_error}
use Rattle.loop_form.specs.LoopView.{op_of}
use Rattle.lane_emit.specs.ItemCode.{op_code}
use Rattle.lane_emit.specs.View.{words_of}
use Rattle.chunk_emit.specs.ChunkCode.{vectors, puts}
use Rattle.chunk_emit.specs.View.{layout_in, width_in}
use Rattle.chunk_emit.proofs.Appended.{emits_words}
use Rattle.chunk_emit.proofs.emit.emit_pure.Goals as goal

pub returns-in_err-words : goal.returns-in_err-words
returns-in_err-words c = on_error _ _ c.from_residual.ensures.0

pub returns-in_err-put_all : goal.returns-in_err-put_all
returns-in_err-put_all c = on_error _ _ c.from_residual-in_err-put_all.ensures.0

pub returns-in_ok-put_all : goal.returns-in_ok-put_all
returns-in_ok-put_all c =
    let d = c.args.draft.now in
    let r = (layout_in c.args.layout.now).registers in
    let code = λ (w : Width). op_code w r c.args.item c.args.mask.number (op_of c.args.op.now) in
    let made = ap words_of c.deref.ensures.value ∙ c.in_ok-words.ensures ∙ ap code c.width.ensures in
    emits_words d c.put_all.new.draft d.labels _ _
    (ap vectors made ∙ ap (λ used. if used then vectors (code (width_in c.args.layout.now)) else []) (sym c.if-is_used.true ∙ c.is_used.ensures))
    c.in_ok-put_all.ensures

pub returns-else-is_used : goal.returns-else-is_used
returns-else-is_used c =
    let d = c.args.draft.now in
    let r = (layout_in c.args.layout.now).registers in
    let words = vectors (op_code (width_in c.args.layout.now) r c.args.item c.args.mask.number (op_of c.args.op.now)) in
    record {
      labels = refl;
      code = λ rest. ap (λ used. d.entries ++ puts (if used then words else []) rest) (sym c.if-is_used.false ∙ c.is_used.ensures);
    }
