use Rattle.std.proofs.Common.{◌≡◌, List, ◌++◌, drop}
use Rattle.label_fix.specs.DraftRun.{DraftEntry}
use Rattle.loop_form.specs.LoopView.{view}
use Rattle.chunk_emit.specs.ChunkCode.{puts}
use Rattle.chunk_emit.specs.Writable.{AreWritable}
use Rattle.chunk_emit.specs.View.{layout_in, width_in}
use Rattle.first_fault.specs.RegionCode.{region_words}
use Rattle.first_fault.specs.View.{mode_of}
use Rattle.first_fault.proofs.emit.emit_region.Given as goal

abbrev pub invariant-loop-item : goal.invariant-loop-item
invariant-loop-item l = record {
  writable : AreWritable (width_in l.layout) (view (drop l.item-index l.items));
  labels : l.draft.labels ≡ l.fn.draft.labels;
  code : (rest : List DraftEntry)
      → l.draft.entries ++ puts (region_words (mode_of l.mode) (width_in l.layout) (layout_in l.layout) (view (drop l.item-index l.items))) rest ≡ l.fn.draft.entries ++ puts (region_words (mode_of l.fn.mode) (width_in l.layout) (layout_in l.layout) (view l.items)) rest;
}
