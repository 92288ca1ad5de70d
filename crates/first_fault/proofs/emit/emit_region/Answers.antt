use Rattle.std.proofs.Common.{ap, ◌∙◌, ◌++◌}
use Rattle.chunk_emit.specs.View.{layout_in, width_in}
use Rattle.chunk_emit.proofs.StepCode.{writable_following}
use Rattle.first_fault.specs.View.{mode_of}
use Rattle.first_fault.proofs.RegionPuts.{next_puts, no_region_words_past_items}
use Rattle.first_fault.proofs.emit.emit_region.Goals as goal

pub loop-item-preserved : goal.loop-item-preserved
loop-item-preserved c = record {
  writable = writable_following (width_in c.args.layout.now) c.args.items.now c.loop-item.item-index c.loop-item.invariant.writable;
  labels = c.in_ok-emit_step.ensures.labels ∙ c.loop-item.invariant.labels;
  code = λ rest.
      c.in_ok-emit_step.ensures.code _
      ∙ ap (λ e. c.loop-item.draft.entries ++ e) (next_puts (mode_of c.args.mode) (width_in c.args.layout.now) (layout_in c.args.layout.now) c.args.items.now c.loop-item.item-index rest c.loop-item-test.true)
      ∙ c.loop-item.invariant.code rest;
}

pub returns : goal.returns
returns c = record {
  labels = c.loop-item.invariant.labels;
  code = λ rest.
      ap (λ e. c.loop-item.draft.entries ++ e) (no_region_words_past_items (mode_of c.args.mode) (width_in c.args.layout.now) (layout_in c.args.layout.now) c.args.items.now c.loop-item.item-index rest c.loop-item-test.false) ∙ c.loop-item.invariant.code rest;
}
