use Rattle.std.proofs.Common.{◌≡◌, List, ◌++◌, drop}
use Rattle.label_fix.specs.DraftRun.{DraftEntry}
use Rattle.loop_form.specs.LoopView.{view}
use Rattle.chunk_emit.specs.ChunkCode.{items_words, puts}
use Rattle.chunk_emit.specs.Steps.{left_words}
use Rattle.chunk_emit.specs.Writable.{AreWritable}
use Rattle.chunk_emit.specs.View.{layout_in, width_in}
use Rattle.chunk_emit.proofs.items.emit_items.Given as goal

abbrev pub invariant-loop-place : goal.invariant-loop-place
invariant-loop-place l = record {
  writable : AreWritable (width_in l.layout) (view (drop l.place l.items));
  labels : l.draft.labels ≡ l.fn.draft.labels;
  code : (rest : List DraftEntry)
      → l.draft.entries ++ puts (left_words (width_in l.layout) (layout_in l.layout) l.done (view (drop l.place l.items))) rest ≡ l.fn.draft.entries ++ puts (items_words (width_in l.layout) (layout_in l.layout) (view l.items)) rest;
}
