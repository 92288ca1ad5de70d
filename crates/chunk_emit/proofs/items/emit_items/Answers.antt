use Rattle.std.proofs.Common.{ap, ◌∙◌, ◌++◌}
use Rattle.chunk_emit.specs.View.{layout_in, width_in}
use Rattle.chunk_emit.proofs.StepCode.{writable_following, no_words_past_items}
use Rattle.chunk_emit.proofs.items.emit_items.Goals as goal

pub loop-place-preserved : goal.loop-place-preserved
loop-place-preserved c = record {
  writable = writable_following (width_in c.args.layout.now) c.args.items.now c.loop-place.place c.loop-place.invariant.writable;
  labels = c.in_ok-done.ensures.labels ∙ c.loop-place.invariant.labels;
  code = λ rest. c.in_ok-done.ensures.code rest ∙ c.loop-place.invariant.code rest;
}

pub returns : goal.returns
returns c = record {
  labels = c.loop-place.invariant.labels;
  code = λ rest.
      ap (λ e. c.loop-place.draft.entries ++ e) (no_words_past_items (width_in c.args.layout.now) (layout_in c.args.layout.now) c.loop-place.done c.args.items.now c.loop-place.place rest c.loop-place-test.false) ∙ c.loop-place.invariant.code rest;
}
