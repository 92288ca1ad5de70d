use Rattle.std.proofs.Common.{List, ◌∷◌, ◌++◌, sym, ap, ◌∙◌}
use Rattle.guest_types.specs.declared.length.Width.{Width}
use Rattle.label_fix.specs.DraftRun.{DraftEntry, Put}
use Rattle.loop_form.specs.LoopItems.{Item}
use Rattle.loop_form.specs.LoopView.{view}
use Rattle.chunk_emit.specs.Registers.{Layout}
use Rattle.chunk_emit.specs.ChunkCode.{items_words, puts}
use Rattle.chunk_emit.specs.View.{layout_in, width_in}
use Rattle.chunk_pass.specs.PassCode.{advance_word}
use Rattle.chunk_pass.proofs.PassPuts.{plain_puts}
use Rattle.chunk_pass.proofs.emit.emit_plain.Goals as goal

pub returns : goal.returns
returns c =
    let w : Width = width_in c.args.layout.now in
    let l : Layout = layout_in c.args.layout.now in
    let items : List Item = view c.args.items.now in
    record {
      labels = c.in_ok-put.ensures.labels ∙ c.in_ok-emit_items.ensures.labels ∙ c.in_ok-emit_loop_index.ensures.labels;
      code = λ rest.
          let last : List DraftEntry = Put (advance_word w) ∷ rest in
          c.in_ok-put.ensures.code rest
          ∙ ap (λ x. c.emit_items.new.draft.entries ++ Put x ∷ rest) (c.advance.ensures ∙ ap advance_word c.width.ensures)
          ∙ c.in_ok-emit_items.ensures.code last
          ∙ c.in_ok-emit_loop_index.ensures.code (puts (items_words w l items) last)
          ∙ ap (λ e. c.args.draft.now.entries ++ e) (sym (plain_puts w l items rest));
    }
