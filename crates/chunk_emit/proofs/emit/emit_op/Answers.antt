use Rattle.std.proofs.Common.{◌≡◌, Some, rules, sym, ap, ◌∙◌}
use Rattle.guest_types.proofs.Errors.{on_error}
use Rattle.loop_form.specs.LoopItems as ops
use Rattle.loop_form.specs.LoopView.{op_of}
use Rattle.chunk_emit.specs.Registers.{z_of, base_of}
use Rattle.chunk_emit.specs.ChunkCode.{gather_code, vectors, op_words}
use Rattle.chunk_emit.specs.View.{layout_in, width_in}
use Rattle.chunk_emit.proofs.Appended.{emits_words}
use Rattle.chunk_emit.proofs.emit.emit_op.Goals as goal

pub returns-in_err-emit_load-in-Load-default-default-Some-default : goal.returns-in_err-emit_load-in-Load-default-default-Some-default
returns-in_err-emit_load-in-Load-default-default-Some-default c = on_error _ _ c.from_residual.ensures.0

pub returns-in_err-emit_gather-in-Gather-default-default-Some-default-Some-default : goal.returns-in_err-emit_gather-in-Gather-default-default-Some-default-Some-default
returns-in_err-emit_gather-in-Gather-default-default-Some-default-Some-default c = on_error _ _ c.from_residual-in_err-emit_gather-in-Gather-default-default-Some-default-Some-default.ensures.0

pub returns-in_err-emit_store-in-Store-default-default-Some-default-default : goal.returns-in_err-emit_store-in-Store-default-default-Some-default-default
returns-in_err-emit_store-in-Store-default-default-Some-default-default c = on_error _ _ c.from_residual-in_err-emit_store-in-Store-default-default-Some-default-default.ensures.0

pub returns-in_err-emit_update-in-Update-default-default-Some-default : goal.returns-in_err-emit_update-in-Update-default-default-Some-default
returns-in_err-emit_update-in-Update-default-default-Some-default c = on_error _ _ c.from_residual-in_err-emit_update-in-Update-default-default-Some-default.ensures.0

pub returns-in_err-emit_pure-in_default : goal.returns-in_err-emit_pure-in_default
returns-in_err-emit_pure-in_default c = on_error _ _ c.from_residual-in_err-emit_pure-in_default.ensures.0

pub returns-in_ok-emit_update-in-Update-default-default-Some-default : goal.returns-in_ok-emit_update-in-Update-default-default-Some-default
returns-in_ok-emit_update-in-Update-default-default-Some-default c =
    let w = width_in c.args.layout.now in
    let l = layout_in c.args.layout.now in
    let q = c.args.item in
    let m = c.args.mask.number in
    let typed : c.in-Update-default-default-Some-default.ty' ≡ Some c.in-Update-default-default-Some-default.ty = search rules in
    emits_words c.args.draft.now c.emit_update.new.draft c.args.draft.now.labels _ _
    (ap (λ t. op_words w l q m (ops.Update c.in-Update-default-default-Some-default.name.now c.in-Update-default-default-Some-default.op t c.in-Update-default-default-Some-default.value)) (sym typed)
    ∙ ap (λ o. op_words w l q m (op_of o)) (sym c.in-Update-default-default-Some-default.is))
    c.in_ok-emit_update-in-Update-default-default-Some-default.ensures

pub returns-in_ok-emit_gather-in-Gather-default-default-Some-default-Some-default : goal.returns-in_ok-emit_gather-in-Gather-default-default-Some-default-Some-default
returns-in_ok-emit_gather-in-Gather-default-default-Some-default-Some-default c =
    let w = width_in c.args.layout.now in
    let l = layout_in c.args.layout.now in
    let q = c.args.item in
    let m = c.args.mask.number in
    let typed : c.in-Gather-default-default-Some-default-Some-default.ty' ≡ Some c.in-Gather-default-default-Some-default-Some-default.ty = search rules in
    let indexed : c.in-Gather-default-default-Some-default-Some-default.index_ty' ≡ Some c.in-Gather-default-default-Some-default-Some-default.index_ty = search rules in
    let base = c.in-Gather-default-default-Some-default-Some-default.base in
    let x = c.in-Gather-default-default-Some-default-Some-default.index in
    emits_words c.args.draft.now c.emit_gather.new.draft c.args.draft.now.labels _ _
    ((λ i. vectors (gather_code c.in-Gather-default-default-Some-default-Some-default.ty (c.cut_reach-reach.ensures i) (z_of l q) m (base_of base) (l.registers.source x)))
    ∙ (λ i. op_words w l q m (ops.Gather c.in-Gather-default-default-Some-default-Some-default.array.now base (sym typed i) c.in-Gather-default-default-Some-default-Some-default.reach (sym indexed i) x))
    ∙ ap (λ o. op_words w l q m (op_of o)) (sym c.in-Gather-default-default-Some-default-Some-default.is))
    c.in_ok-emit_gather-in-Gather-default-default-Some-default-Some-default.ensures
