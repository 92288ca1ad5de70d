use Rattle.std.proofs.Common.{◌<◌, w32, sym, ap, ◌∙◌, subst, unsigned_abs}
use Rattle.std.proofs.lemmas.Int.{to_z-of_z}
use Rattle.std.proofs.lemmas.Result.{on_ok_weaker}
use Rattle.guest_types.proofs.Errors.{on_error}
use Rattle.machine_model.specs.InstructionTable.{Vector}
use Rattle.label_fix.specs.Draft.{word_view}
use Rattle.label_fix.specs.Finished.{is_plain}
use Rattle.chunk_emit.specs.ChunkCode.{load_word, index_of}
use Rattle.chunk_emit.proofs.Appended.{emits_indexed}
use Rattle.chunk_emit.proofs.emit.emit_load.Goals as goal

pub base_register-requires : goal.base_register-requires
base_register-requires c = c.requires.0

pub emit_index-requires : goal.emit_index-requires
emit_index-requires c = subst (λ n. unsigned_abs n < 4096) (sym (to_z-of_z w32 c.args.offset c.ranges.offset)) c.requires.1

pub returns-in_err-emit_index : goal.returns-in_err-emit_index
returns-in_err-emit_index c = on_error _ _ c.from_residual.ensures.0

pub put-requires : goal.put-requires
put-requires c = record { plain = ap is_plain c.load-word.ensures }

pub returns : goal.returns
returns c =
    let same = to_z-of_z w32 c.args.offset c.ranges.offset in
    let w = c.width.ensures in
    let d = c.z-d.ensures in
    let b = c.base_register.ensures in
    let x = c.index_register.ensures ∙ ap index_of same in
    let word = c.load-word.ensures ∙ (λ i. Vector (load_word (w i) c.args.ty (d i) c.args.mask.number (b i) (x i))) in
    on_ok_weaker c.put.result (λ p. emits_indexed c.args.draft.now c.emit_index.new.draft c.put.new.self c.args.draft.now.labels _ c.args.offset (word_view c.load-word.result) _ same word c.in_ok-emit_index.ensures p) c.put.ensures
