use Rattle.std.proofs.Common.{List, ◌∷◌, ◌++◌, sym, ap, ◌∙◌, subst}
use Rattle.guest_types.specs.declared.length.Width.{Width}
use Rattle.label_fix.specs.DraftRun.{DraftEntry, Put}
use Rattle.loop_form.specs.LoopItems.{Item}
use Rattle.loop_form.specs.LoopView.{view}
use Rattle.chunk_emit.specs.Registers.{Layout}
use Rattle.chunk_emit.specs.ChunkCode.{items_words, puts}
use Rattle.chunk_emit.specs.View.{layout_in, width_in}
use Rattle.chunk_emit.specs.Writable.{AreWritable}
use Rattle.first_fault.specs.RegionCode.{exits_words}
use Rattle.first_fault.specs.BreakRegion.{region_of, rest_of}
use Rattle.chunk_pass.specs.PassCode.{lanes_word, index_words, advance_word}
use Rattle.chunk_pass.proofs.PassPuts.{chunk_puts}
use Rattle.chunk_pass.proofs.emit.emit_chunk.Goals as goal

pub emit_exits-requires : goal.emit_exits-requires
emit_exits-requires c =
    let w : Width = width_in c.args.layout.now in
    let l : Layout = layout_in c.args.layout.now in
    let items : List Item = view c.args.items.now in
    subst (AreWritable w) (sym c.region.ensures) c.requires.region

pub returns : goal.returns
returns c =
    let w : Width = width_in c.args.layout.now in
    let l : Layout = layout_in c.args.layout.now in
    let items : List Item = view c.args.items.now in
    record {
      labels = c.in_ok-put-2.ensures.labels ∙ c.in_ok-emit_items.ensures.labels ∙ c.in_ok-emit_exits.ensures.emits.labels ∙ c.in_ok-emit_loop_index.ensures.labels ∙ c.in_ok-put.ensures.labels;
      code = λ rest.
          let last : List DraftEntry = Put (advance_word w) ∷ rest in
          let following : List DraftEntry = puts (items_words w l (rest_of items)) last in
          let read : List DraftEntry = puts (exits_words w l (region_of items)) following in
          let held_index_code : List DraftEntry = puts (index_words l) read in
          c.in_ok-put-2.ensures.code rest
          ∙ ap (λ x. c.emit_items.new.draft.entries ++ Put x ∷ rest) (c.advance.ensures ∙ ap advance_word c.width-2.ensures)
          ∙ c.in_ok-emit_items.ensures.code last
          ∙ ap (λ its. c.emit_exits.new.draft.entries ++ puts (items_words w l its) last) c.rest.ensures
          ∙ c.in_ok-emit_exits.ensures.emits.code following
          ∙ ap (λ its. c.emit_loop_index.new.draft.entries ++ puts (exits_words w l its) following) c.region.ensures
          ∙ c.in_ok-emit_loop_index.ensures.code read
          ∙ c.in_ok-put.ensures.code held_index_code
          ∙ ap (λ x. c.args.draft.now.entries ++ Put x ∷ held_index_code) (c.lanes.ensures ∙ ap (λ v. lanes_word v c.args.bound.number) c.width.ensures)
          ∙ ap (λ e. c.args.draft.now.entries ++ e) (sym (chunk_puts w l c.args.bound.number items rest));
    }
