use Rattle.std.proofs.Common.{List, [], ◌∷◌, ◌++◌, sym, ap, ◌∙◌, subst}
use Rattle.guest_types.specs.declared.length.Width.{Width}
use Rattle.label_fix.specs.DraftRun.{DraftEntry, Put}
use Rattle.loop_form.specs.LoopItems.{Item}
use Rattle.loop_form.specs.LoopView.{view}
use Rattle.chunk_emit.specs.Registers.{Layout}
use Rattle.chunk_emit.specs.ChunkCode.{items_words, puts}
use Rattle.chunk_emit.specs.View.{layout_in, width_in}
use Rattle.chunk_emit.specs.Writable.{AreWritable}
use Rattle.machine_model.specs.InstructionTable.{Vector}
use Rattle.sve_code.specs.Table.{whilelo}
use Rattle.lane_emit.specs.Stretch.{word}
use Rattle.lane_emit.specs.LaneCode.{size_of}
use Rattle.first_fault.specs.RegionCode.{single_words}
use Rattle.first_fault.specs.BreakRegion.{region_of, rest_of}
use Rattle.chunk_pass.specs.PassCode.{advance_word}
use Rattle.chunk_pass.proofs.PassPuts.{iteration_puts}
use Rattle.chunk_pass.proofs.emit.emit_iteration.Goals as goal

pub emit_single-requires : goal.emit_single-requires
emit_single-requires c =
    let w : Width = width_in c.args.layout.now in
    let l : Layout = layout_in c.args.layout.now in
    let items : List Item = view c.args.items.now in
    subst (AreWritable w) (sym c.region.ensures) c.requires.region

pub returns : goal.returns
returns c =
    let w : Width = width_in c.args.layout.now in
    let l : Layout = layout_in c.args.layout.now in
    let items : List Item = view c.args.items.now in
    record {
      labels = c.in_ok-put-3.ensures.labels ∙ c.in_ok-emit_items.ensures.labels ∙ c.in_ok-emit_single.ensures.emits.labels ∙ c.in_ok-put-2.ensures.labels ∙ c.in_ok-put.ensures.labels;
      code = λ rest.
          let last : List DraftEntry = Put (advance_word w) ∷ rest in
          let following : List DraftEntry = puts (items_words w l (rest_of items)) last in
          let read : List DraftEntry = puts (single_words w l (region_of items)) following in
          c.in_ok-put-3.ensures.code rest
          ∙ ap (λ x. c.emit_items.new.draft.entries ++ Put x ∷ rest) (c.advance.ensures ∙ ap advance_word c.width-2.ensures)
          ∙ c.in_ok-emit_items.ensures.code last
          ∙ ap (λ its. c.emit_single.new.draft.entries ++ puts (items_words w l its) last) c.rest.ensures
          ∙ c.in_ok-emit_single.ensures.emits.code following
          ∙ ap (λ its. c.put-2.new.self.entries ++ puts (single_words w l its) following) c.region.ensures
          ∙ c.in_ok-put-2.ensures.code read
          ∙ ap (λ x. c.put.new.self.entries ++ Put x ∷ read) (c.first_lane.ensures ∙ ap (λ v. Vector (word whilelo (0 ∷ 31 ∷ 26 ∷ size_of v ∷ []))) c.width.ensures)
          ∙ c.in_ok-put.ensures.code (Put (Vector (word whilelo (0 ∷ 31 ∷ 26 ∷ size_of w ∷ []))) ∷ read)
          ∙ ap (λ x. c.args.draft.now.entries ++ Put x ∷ Put (Vector (word whilelo (0 ∷ 31 ∷ 26 ∷ size_of w ∷ []))) ∷ read) c.one.ensures
          ∙ ap (λ e. c.args.draft.now.entries ++ e) (sym (iteration_puts w l items rest));
    }
